-- Where a parse stands as a value of the program, and what its calls come to. Assumes nothing.
use Rattle.std.specs.Prelude.{◌≡◌, ℕ, List, ◌∷◌, Some, None, Ok, Err, Option, Result}
use Rattle.theory.specs.Order.{LengthOrder, Rank}
use Rattle.grammar.specs.Symbols.{symbol_at}
use Rattle.grammar.specs.declared.Grammar.{Ghosts}
use Rattle.grammar.specs.declared.Symbol.{Symbol}
use Rattle.table.specs.GrammarCountsOf.{grammar_of}
use Rattle.numbering.specs.Parts.{begun, frame_side}
use Rattle.numbering.specs.Frames.{suspended_frames, room_of, ParseAt, Goes_on, ParseStops}
use Rattle.numbering.specs.declared.parsing.Stopped.{Stopped}
use Rattle.numbering.specs.declared.ranking.Ranking.{Ranking}
use Rattle.numbering.specs.declared.parsing.Parse.{Parse}

-- the symbol at which the parse stands, none where the right-hand side at work has ended
abbrev pub symbol_here : {T U : Type 0} {members : Ghosts T} → Parse T U members → Option Symbol
symbol_here p = symbol_at (frame_side (grammar_of p.ranking.counts.now) p.frame) p.frame.position

-- the parse stands where it came to by the tokens that are gone
abbrev pub Stands : {T U : Type 0} {members : Ghosts T} → (U → LengthOrder) → Parse T U members → Type 0
Stands {members = members} order p =
    ParseAt (order p.ranking.policy.now) (grammar_of p.ranking.counts.now) (members.chosen p.ranking.counts.now.grammar.now) (members.levels p.ranking.counts.now.grammar.now)
    p.tokens.now p.frame (suspended_frames p.suspended) p.gone

-- it stops when so many tokens are gone
abbrev pub Stops : {T U : Type 0} {members : Ghosts T} → Parse T U members → Stopped → Type 0
Stops {members = members} p stopped = ParseStops (grammar_of p.ranking.counts.now) (members.chosen p.ranking.counts.now.grammar.now) p.tokens.now stopped

-- p goes on as q: the tokens, what ranks are computed from and the room stay
pub record Goes {T U : Type 0} {members : Ghosts T} (order : U → LengthOrder) (p q : Parse T U members) : Type 0 where
  pub ranking : q.ranking ≡ p.ranking
  pub tokens : q.tokens.now ≡ p.tokens.now
  pub room : room_of q.suspended ≡ room_of p.suspended
  pub on :
      Goes_on (order p.ranking.policy.now) (grammar_of p.ranking.counts.now) (members.chosen p.ranking.counts.now.grammar.now) (members.levels p.ranking.counts.now.grammar.now) p.tokens.now
      (room_of p.suspended) p.frame (suspended_frames p.suspended) q.frame (suspended_frames q.suspended) q.gone

-- what opening a frame for a nonterminal of which `choice` is chosen leaves: where there is one, the frame at work is suspended and the new one stands at the front of that slot, and
-- as many tokens are gone as before; else there is none
abbrev pub Opens : {T U : Type 0} {members : Ghosts T} → Option ℕ → Parse T U members → Parse T U members → Result (Unit {0}) Stopped → Type 0
Opens choice p q (Ok _) =
    (s : ℕ) × (choice ≡ Some s) × (q.frame ≡ begun p.frame s) × (suspended_frames q.suspended ≡ p.frame ∷ suspended_frames p.suspended) × (q.gone ≡ p.gone)
Opens choice p q (Err _) = choice ≡ None

-- what a step comes to: the parse goes on, or the tokens have that rank, or the parse stops
abbrev pub StepAnswer : {T U : Type 0} {members : Ghosts T} → (U → LengthOrder) → Parse T U members → Parse T U members → Result (Option ℕ) Stopped → Type 0
StepAnswer order p q (Ok None) = Goes order p q
StepAnswer order p q (Ok (Some k)) = Rank (grammar_of p.ranking.counts.now) (order p.ranking.policy.now) (grammar_of p.ranking.counts.now).start p.tokens.now k
StepAnswer order p q (Err stopped) = Stops p stopped

-- p is the parse of these tokens by what is given, and stands where it came to
pub record ParseOf {T U : Type 0} {members : Ghosts T} (order : U → LengthOrder) (given : Ranking T U members) (ts : List ℕ) (p : Parse T U members) : Type 0 where
  pub ranking : p.ranking ≡ given
  pub tokens : p.tokens.now ≡ ts
  pub at : Stands order p
