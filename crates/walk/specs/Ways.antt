-- The ways to take one part for each symbol, and how many the slots of a nonterminal have. Assumes nothing.
use Rattle.std.specs.Prelude.{◌≡◌, ℕ, ◌≤◌, List}
use Rattle.theory.specs.Grammar.{Symbol, Cfg}
use Rattle.theory.specs.Order.{LengthOrder}
use Rattle.theory.specs.Count.{right_of, sum_slots, side_count, count}
use Rattle.theory.specs.Enumerate.{listed_ways, sentences}

-- the ways to take one part for each symbol, lengths adding up to m, in split order
abbrev pub ways : LengthOrder → Cfg → List Symbol → ℕ → List (List (List ℕ))
ways order G Xs m = listed_ways order (sentences order G) Xs m

-- f counts the sentences of A, and h the ways of Xs, for the lengths up to m
pub record CountedBy (G : Cfg) (A : ℕ) (Xs : List Symbol) (m : ℕ) (f h : ℕ → ℕ) : Type 0 where
  pub first : (j : ℕ) → j ≤ m → f j ≡ count G A j
  pub rest : (k : ℕ) → k ≤ m → h k ≡ side_count (count G) Xs k

-- how many ways the right-hand side of slot s has at m
abbrev pub slot_ways : Cfg → ℕ → ℕ → ℕ
slot_ways G m s = side_count (count G) (right_of (G.slot s)) m

-- how many ways the slots of A before s have at m, all together
abbrev pub ways_before : Cfg → ℕ → ℕ → ℕ → ℕ
ways_before G A m s = sum_slots G A (slot_ways G m) s
