-- The laws of the parser, as the contracts cite them.
use Rattle.std.specs.Prelude.{◌≡◌, ℕ, ◌≤◌, ◌⊎◌, ◌↔◌, List, [], ◌∷◌, length, Option}
use Rattle.theory.specs.Grammar.{Symbol, nonterminal, Cfg, Sentence}
use Rattle.theory.specs.Sets.{Next}
use Rattle.parser.specs.Parser.{GoesThrough, StopsAfter}

-- the parse from the start goes through exactly for the sentences of the start, and so from each nonterminal
pub record GoesThroughExactlyForSentences (G : Cfg) (chosen : ℕ → Next → Option ℕ) : Type 0 where
  pub from_start : (w : List ℕ) → GoesThrough G chosen (nonterminal G.start ∷ []) w ↔ Sentence G G.start w
  pub from_each : (A : ℕ) (w : List ℕ) → GoesThrough G chosen (nonterminal A ∷ []) w ↔ Sentence G A w

-- a parse ends, and in one way
pub record EndsInOneWay (G : Cfg) (chosen : ℕ → Next → Option ℕ) : Type 0 where
  -- it goes through or stops
  pub ends : (Xs : List Symbol) (w : List ℕ) → GoesThrough G chosen Xs w ⊎ ((k : ℕ) × StopsAfter G chosen Xs w k)
  -- it never does both
  pub not_both : (Xs : List Symbol) (w : List ℕ) (k : ℕ) → GoesThrough G chosen Xs w → StopsAfter G chosen Xs w k → ⊥
  -- it stops at one place
  pub one_place : (Xs : List Symbol) (w : List ℕ) (j k : ℕ) → StopsAfter G chosen Xs w j → StopsAfter G chosen Xs w k → j ≡ k
  -- no more tokens are gone than there were
  pub within : (Xs : List Symbol) (w : List ℕ) (k : ℕ) → StopsAfter G chosen Xs w k → k ≤ length w
