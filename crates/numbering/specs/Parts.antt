-- The parts of symbols that have been parsed, and how they add up. Assumes nothing.
use Rattle.std.specs.Prelude.{◌≡◌, ℕ, ◌+◌, ◌<◌, List, [], ◌∷◌, length, get_or, drop, replicate, Some, slice_index, slice_index_or, slice_set}
use Rattle.theory.specs.Lists.{joined}
use Rattle.theory.specs.Grammar.{Symbol, nonterminal, Cfg}
use Rattle.theory.specs.Order.{LengthOrder}
use Rattle.theory.specs.Count.{left_of, right_of}
use Rattle.theory.specs.Enumerate.{listed_parts, sentences}
use Rattle.walk.specs.Splits.{SplitAt}
use Rattle.walk.specs.Ways.{ways}
use Rattle.numbering.specs.declared.frame.Part.{Part}
use Rattle.numbering.specs.declared.frame.Frame.{Frame}

-- a part of no tokens, the first of its kind
abbrev pub no_part : Part
no_part = record { length = 0; rank = 0 }

-- a frame that holds nothing
abbrev pub blank_frame : Frame
blank_frame = record { slot = 0; position = 0; parts = replicate 6 no_part }

-- the frame at the front of slot s
abbrev pub begun : Frame → ℕ → Frame
begun f s = record { slot = s; position = 0; parts = f.parts }

-- the frame with the part of the symbol at its position, one position further
abbrev pub with_part : Frame → Part → Frame
with_part f d = record { slot = f.slot; position = f.position + 1; parts = slice_set f.parts f.position d }

-- the right-hand side that a frame is in
abbrev pub frame_side : Cfg → Frame → List Symbol
frame_side G f = right_of (G.slot f.slot)

-- the part is one of the symbol's
abbrev pub PartOf : LengthOrder → Cfg → Symbol → Part → Type 0
PartOf order G X d = d.rank < length (listed_parts (sentences order G) X d.length)

-- the tokens of the symbol's part
abbrev pub part_tokens : LengthOrder → Cfg → Symbol → Part → List ℕ
part_tokens order G X d = slice_index_or (listed_parts (sentences order G) X d.length) d.rank []

-- each of the symbols has its part
abbrev pub AllParts : LengthOrder → Cfg → List Symbol → List Part → Type 0
AllParts order G [] ds = Unit {0}
AllParts order G (X ∷ Xs) [] = ⊥
AllParts order G (X ∷ Xs) (d ∷ ds) = PartOf order G X d × AllParts order G Xs ds

-- the tokens of each of the symbols
abbrev pub all_tokens : LengthOrder → Cfg → List Symbol → List Part → List (List ℕ)
all_tokens order G [] ds = []
all_tokens order G (X ∷ Xs) [] = []
all_tokens order G (X ∷ Xs) (d ∷ ds) = part_tokens order G X d ∷ all_tokens order G Xs ds

-- the parts of the symbols add up to one: it is the way of that length and rank to take just their tokens
pub record AddsUp (order : LengthOrder) (G : Cfg) (Xs : List Symbol) (ds : List Part) (sum : Part) : Type 0 where
  pub low : sum.rank < length (ways order G Xs sum.length)
  pub is : get_or (ways order G Xs sum.length) sum.rank [] ≡ all_tokens order G Xs ds

-- each of the symbols from position p of a frame on has its part
abbrev pub PartsFrom : LengthOrder → Cfg → Frame → ℕ → Type 0
PartsFrom order G f p = AllParts order G (drop p (frame_side G f)) (drop p f.parts)

-- the tokens of all of them
abbrev pub tokens_from : LengthOrder → Cfg → Frame → ℕ → List ℕ
tokens_from order G f p = joined (all_tokens order G (drop p (frame_side G f)) (drop p f.parts))

-- their parts add up to one
abbrev pub AddsUpFrom : LengthOrder → Cfg → Frame → ℕ → Part → Type 0
AddsUpFrom order G f p sum = AddsUp order G (drop p (frame_side G f)) (drop p f.parts) sum

-- the entry of a row at a length, 0 past its end
abbrev pub entry_at : List ℕ → ℕ → ℕ
entry_at row j = slice_index row j

-- k is the rank of a first part and a rest together, where the rows count the first parts and the rests of each length
abbrev pub Joins : LengthOrder → List ℕ → List ℕ → Part → Part → ℕ → Type 0
Joins order first rest d u k =
    (i : ℕ) × SplitAt (entry_at first) (entry_at rest) (d.length + u.length) (order (d.length + u.length)) k i d.length d.rank u.rank

-- the part is the sentence of the frame's nonterminal whose tokens are those of all its symbols
pub record WholePart (order : LengthOrder) (G : Cfg) (f : Frame) (d : Part) : Type 0 where
  pub low : (A : ℕ) → left_of (G.slot f.slot) ≡ Some A → PartOf order G (nonterminal A) d
  pub is : (A : ℕ) → left_of (G.slot f.slot) ≡ Some A → part_tokens order G (nonterminal A) d ≡ joined (all_tokens order G (frame_side G f) f.parts)
