-- The frames of an expansion: what each is still to write. Assumes nothing.
use Rattle.std.specs.Prelude.{◌≡◌, ℕ, ◌+◌, ◌-◌, ◌<◌, ◌≤◌, List, [], ◌∷◌, ◌++◌, length, slice_index_or}
use Rattle.theory.specs.Lists.{joined}
use Rattle.theory.specs.Grammar.{nonterminal, Cfg}
use Rattle.theory.specs.Order.{LengthOrder}
use Rattle.walk.specs.Depth.{Place, side_of, suffix_of, next_place}
use Rattle.walk.specs.Ways.{ways}
use Rattle.expanding.specs.declared.frame.Frame.{Frame}
use Rattle.expanding.specs.declared.frame.Part.{Part}

-- a frame with nothing to write
abbrev pub blank_frame : Frame
blank_frame = record { slot = 0; position = 0; length = 0; rank = 0 }

-- one token shorter: the terminal at its position is written
abbrev pub past_token : Frame → Frame
past_token f = record { slot = f.slot; position = f.position + 1; length = f.length - 1; rank = f.rank }

-- what is left behind a first part
abbrev pub rest_frame : Frame → Part → Frame
rest_frame f p = record { slot = f.slot; position = f.position + 1; length = f.length - p.length; rank = p.rest }

-- where a frame stands
abbrev pub place_of : Frame → Place
place_of f = record { slot = f.slot; position = f.position }

-- the ways to write what is left of a frame
abbrev pub ways_left : LengthOrder → Cfg → Frame → List (List (List ℕ))
ways_left order G f = ways order G (suffix_of G (place_of f)) f.length

-- what a frame is still to write: the way with its rank
abbrev pub to_write : LengthOrder → Cfg → Frame → List ℕ
to_write order G f = joined (slice_index_or (ways_left order G f) f.rank [])

-- what some frames are still to write, one after the other
abbrev pub all_to_write : LengthOrder → Cfg → List Frame → List ℕ
all_to_write order G [] = []
all_to_write order G (f ∷ fs) = to_write order G f ++ all_to_write order G fs

-- how many tokens that is
abbrev pub tokens_left : List Frame → ℕ
tokens_left [] = 0
tokens_left (f ∷ fs) = f.length + tokens_left fs

-- a frame of G, for a length up to L: its rank is that of one of its ways
pub record FrameOf (order : LengthOrder) (G : Cfg) (L : ℕ) (f : Frame) : Type 0 where
  pub filled : f.slot < G.slots
  pub inside : f.position ≤ length (side_of G (place_of f))
  pub short : f.length ≤ L
  pub low : f.rank < length (ways_left order G f)

-- each is such a frame
abbrev pub FramesOf : LengthOrder → Cfg → ℕ → List Frame → Type 0
FramesOf order G L [] = Unit {0}
FramesOf order G L (f ∷ fs) = FrameOf order G L f × FramesOf order G L fs

-- a frame stands before the nonterminal A
abbrev pub AtNonterminal : Cfg → Frame → ℕ → Type 0
AtNonterminal G f A = suffix_of G (place_of f) ≡ nonterminal A ∷ suffix_of G (next_place (place_of f))
