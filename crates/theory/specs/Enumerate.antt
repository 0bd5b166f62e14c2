-- The sentences of each length, listed in split order. Assumes nothing.
use Rattle.std.specs.Prelude.{ℕ, zero, suc, ◌+◌, ◌-◌, ◌*◌, cond, List, [], ◌∷◌, ◌++◌, map, Some, None, Option, ◌==◌}
use Rattle.theory.specs.Lists.{joined}
use Rattle.theory.specs.Grammar.{Symbol, terminal, nonterminal, Cfg}
use Rattle.theory.specs.Order.{LengthOrder}
use Rattle.theory.specs.Count.{left_of, right_of}

-- the token lists of each nonterminal and length
abbrev pub Lists : Type 0
Lists = ℕ → ℕ → List (List ℕ)

-- h at each number of the list, one after the other
unfoldable pub over : {E : Type 0} → (ℕ → List E) → List ℕ → List E
over h [] = []
over h (j ∷ js) = h j ++ over h js

-- each first part before each list of other parts
unfoldable pub pairs : List (List ℕ) → List (List (List ℕ)) → List (List (List ℕ))
pairs [] vs = []
pairs (u ∷ us) vs = map (λ (v : List (List ℕ)). u ∷ v) vs ++ pairs us vs

-- the parts of length j of one symbol
abbrev pub listed_parts : Lists → Symbol → ℕ → List (List ℕ)
listed_parts S (terminal t) j = cond (j == 1) ((t ∷ []) ∷ []) []
listed_parts S (nonterminal A) j = S A j

-- the ways to take one part for each symbol, lengths adding up to m
unfoldable pub listed_ways : LengthOrder → Lists → List Symbol → ℕ → List (List (List ℕ))
listed_ways order S [] m = cond (m == 0) ([] ∷ []) []
listed_ways order S (X ∷ Xs) m = over (λ j. pairs (listed_parts S X j) (listed_ways order S Xs (m - j))) (order m)

-- l if the left-hand side is A, else nothing
abbrev pub listed_if : Option ℕ → ℕ → List (List ℕ) → List (List ℕ)
listed_if None A l = []
listed_if (Some B) A l = cond (B == A) l []

-- the first n slots, one after the other
unfoldable pub listed_slots : LengthOrder → Cfg → Lists → ℕ → ℕ → ℕ → List (List ℕ)
listed_slots order G S A m zero = []
listed_slots order G S A m (suc s) =
    listed_slots order G S A m s ++ listed_if (left_of (G.slot s)) A (map joined (listed_ways order S (right_of (G.slot s)) m))

-- the sentences with derivation trees of at most f nonterminals on a path
unfoldable pub listed : LengthOrder → Cfg → ℕ → Lists
listed order G zero A m = []
listed order G (suc f) A m = listed_slots order G (listed order G f) A m G.slots

-- the sentences of A of length m in split order
unfoldable pub sentences : LengthOrder → Cfg → Lists
sentences order G A m = listed order G (16 * m + 16) A m
