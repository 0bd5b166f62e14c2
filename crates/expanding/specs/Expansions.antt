-- Where an expansion stands, and what it is still to write. Assumes nothing.
use Rattle.std.specs.Prelude.{◌≡◌, ℕ, ◌+◌, ◌*◌, ◌<◌, ◌≤◌, List, ◌∷◌, map, length, Option}
use Rattle.theory.specs.Grammar.{Cfg}
use Rattle.theory.specs.Order.{LengthOrder}
use Rattle.grammar.specs.Symbols.{symbol_at}
use Rattle.grammar.specs.declared.Grammar.{Ghosts}
use Rattle.grammar.specs.declared.Symbol.{Symbol}
use Rattle.stack.specs.Held.{held}
use Rattle.table.specs.GrammarCountsOf.{grammar_of, bound_of}
use Rattle.walk.specs.Depth.{side_of, Chain}
use Rattle.walk.specs.Measure.{measure}
use Rattle.expanding.specs.declared.frame.Frame.{Frame}
use Rattle.expanding.specs.declared.expansion.Expansion.{Expansion}
use Rattle.expanding.specs.Frames.{place_of, all_to_write, tokens_left, FramesOf}

-- some tokens are written, the frames, the one at work first, are to write the others, and there is room for all frames that this may take
pub record ExpansionAt (order : LengthOrder) (G : Cfg) (level : ℕ → ℕ) (L room : ℕ) (frames : List Frame) : Type 0 where
  pub written : ℕ
  pub frames_of : FramesOf order G L frames
  pub chain : Chain G level (map place_of frames) written
  pub enough : (written + tokens_left frames + 1) * G.nonterminals ≤ room

-- how many frames there is room for
abbrev pub room_of : {T U : Type 0} {members : Ghosts T} → Expansion T U members → ℕ
room_of e = length e.suspended.entries.now

-- all frames, the one at work first
abbrev pub frames_of : {T U : Type 0} {members : Ghosts T} → Expansion T U members → List Frame
frames_of e = e.frame ∷ held e.suspended

-- the symbol before which the frame at work stands, none where its right-hand side has ended
abbrev pub symbol_here : {T U : Type 0} {members : Ghosts T} → Expansion T U members → Option Symbol
symbol_here e = symbol_at (side_of (grammar_of e.unranking.counts.now) (place_of e.frame)) e.frame.position

-- the expansion stands where it came to by the tokens that are written
abbrev pub Stands : {T U : Type 0} {members : Ghosts T} → (U → LengthOrder) → Expansion T U members → Type 0
Stands {members = members} order e =
    ExpansionAt (order e.unranking.policy.now) (grammar_of e.unranking.counts.now) (members.levels e.unranking.counts.now.grammar.now) (bound_of e.unranking.counts.now) (room_of e) (frames_of e)

-- the tokens that it is still to write
abbrev pub to_come : {T U : Type 0} {members : Ghosts T} → (U → LengthOrder) → Expansion T U members → List ℕ
to_come order e = all_to_write (order e.unranking.policy.now) (grammar_of e.unranking.counts.now) (frames_of e)

-- a number that falls with each step
abbrev pub measure_of : {T U : Type 0} {members : Ghosts T} → Expansion T U members → ℕ
measure_of e = measure (grammar_of e.unranking.counts.now) (room_of e) (map place_of (frames_of e))

-- d goes on as e without a token: the same is still to come
pub record Goes {T U : Type 0} {members : Ghosts T} (order : U → LengthOrder) (d e : Expansion T U members) : Type 0 where
  pub at : Stands order e
  pub same : to_come order e ≡ to_come order d
  pub falls : measure_of e < measure_of d
