-- How many sentences a nonterminal has of a length, and in how many ways a list of symbols gives a length. Assumes nothing.
use Rattle.std.specs.Prelude.{◌≡◌, ℕ, zero, suc, ◌+◌, ◌-◌, ◌*◌, cond, List, [], ◌∷◌, length, Some, None, Option, ◌==◌}
use Rattle.theory.specs.Lists.{Exactly, joined}
use Rattle.theory.specs.Grammar.{Symbol, terminal, nonterminal, Slot, empty, rule, Cfg, SentenceOf}
use Rattle.theory.specs.Order.{Parts}

-- A has k sentences of length m
abbrev pub Count : Cfg → ℕ → ℕ → ℕ → Type 0
Count G A m k = Exactly k (SentenceOf G A m)

-- there are k ways to take one part for each symbol in turn, lengths adding up to m
abbrev pub Ways : Cfg → List Symbol → ℕ → ℕ → Type 0
Ways G Xs m k = Exactly k (λ us. Parts G Xs us × (length (joined us) ≡ m))

-- the left-hand side of a slot, none if it is empty
abbrev pub left_of : Slot → Option ℕ
left_of empty = None
left_of (rule A Ys) = Some A

-- the right-hand side of a slot, no symbols if it is empty
abbrev pub right_of : Slot → List Symbol
right_of empty = []
right_of (rule A Ys) = Ys

-- n if the left-hand side is A, else 0
abbrev pub if_left : Option ℕ → ℕ → ℕ → ℕ
if_left None A n = 0
if_left (Some B) A n = cond (B == A) n 0

-- the sum of f over those of the first n slots that hold a rule of A
unfoldable pub sum_slots : Cfg → ℕ → (ℕ → ℕ) → ℕ → ℕ
sum_slots G A f zero = 0
sum_slots G A f (suc s) = sum_slots G A f s + if_left (left_of (G.slot s)) A (f s)

-- 1 at a, else 0
abbrev pub one_at : ℕ → ℕ → ℕ
one_at a m = cond (m == a) 1 0

-- the first n terms of the sum over j, from 0 on, of f at j times h at m - j
unfoldable pub sum_upward : (ℕ → ℕ) → (ℕ → ℕ) → ℕ → ℕ → ℕ
sum_upward f h m zero = 0
sum_upward f h m (suc j) = sum_upward f h m j + f j * h (m - j)

-- the sum over all ways to split m between a first part, counted by f, and the rest, counted by h
abbrev pub sum_splits : (ℕ → ℕ) → (ℕ → ℕ) → ℕ → ℕ
sum_splits f h m = sum_upward f h m (m + 1)

-- the count of one symbol at j, where F counts the nonterminals
abbrev pub symbol_count : (ℕ → ℕ → ℕ) → Symbol → ℕ → ℕ
symbol_count F (terminal t) j = one_at 1 j
symbol_count F (nonterminal A) j = F A j

-- the count of a list of symbols at m, where F counts the nonterminals
unfoldable pub side_count : (ℕ → ℕ → ℕ) → List Symbol → ℕ → ℕ
side_count F [] m = one_at 0 m
side_count F (X ∷ Xs) m = sum_splits (symbol_count F X) (side_count F Xs) m

-- how many derivation trees of A have m terminal leaves and at most f nonterminals on a path
unfoldable pub trees : Cfg → ℕ → ℕ → ℕ → ℕ
trees G zero A m = 0
trees G (suc f) A m = sum_slots G A (λ s. side_count (trees G f) (right_of (G.slot s)) m) G.slots

-- the count of A at m, computed: where there are levels, no tree with m terminal leaves has more than 16 × (m + 1) nonterminals on a path (a law says that this is how many sentences there are)
unfoldable pub count : Cfg → ℕ → ℕ → ℕ
count G A m = trees G (16 * m + 16) A m
