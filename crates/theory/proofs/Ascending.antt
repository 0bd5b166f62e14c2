-- The ascending order of lengths, and how long an enumeration in that order is. Assumes nothing.
use Rattle.std.proofs.Common.{◌≡◌, ℕ, zero, suc, ◌+◌, ◌-◌, ◌*◌, ◌<◌, ◌≤◌, Bool, true, false, cond, eqb, List, [], ◌∷◌, map, length, Some, None, Option, sym, refl, ap, ◌∙◌, ap₂, ⊎_elim, zero-mul, add-one, arith, length-append}
use lib.ListN.{length-map}
use Rattle.std.proofs.lemmas.Bool.{cases_eq}
use Rattle.theory.specs.Lists.{In, here, there, Sorted, joined}
use Rattle.theory.specs.Grammar.{Symbol, terminal, nonterminal, Cfg}
use Rattle.theory.specs.Order.{ListsLengths, counting_up, ascending}
use Rattle.theory.specs.Count.{left_of, right_of, if_left, sum_slots, sum_upward, symbol_count, side_count, trees, count}
use Rattle.theory.specs.Enumerate.{Lists, over, pairs, listed_parts, listed_ways, listed_if, listed_slots, listed, sentences}
use Rattle.theory.proofs.Counting.{upward_same}
use Rattle.theory.proofs.Members.{sorted_mono}

-- the members of n numbers from k on
from_counting : (k n j : ℕ) → In j (counting_up k n) → (k ≤ j) × (j < k + n)
unfolding counting_up
from_counting k zero j m = elim m [ ]
from_counting k (suc n) j (here e) = (omega arith, omega arith)
from_counting k (suc n) j (there m) = let r = from_counting (suc k) n j m in (omega arith, omega arith)

-- a number from k on, below k + n
in_counting : (k n j : ℕ) → k ≤ j → j < k + n → In j (counting_up k n)
unfolding counting_up
in_counting k zero j l h = absurd (omega arith)
in_counting k (suc n) j l h = ⊎_elim (λ (e : j ≡ k). here e) (λ ne. there (in_counting (suc k) n j (omega arith) (omega arith))) (cases_eq j k)

-- n numbers from k on ascend
pub sorted_counting : (k n : ℕ) → Sorted ◌<◌ (counting_up k n)
unfolding counting_up
sorted_counting k zero = tt
sorted_counting k (suc n) = (λ y m. let r = from_counting (suc k) n y m in omega arith, sorted_counting (suc k) n)

-- the ascending order lists each of the lengths 0 to m once
pub ascending_lists : ListsLengths ascending
ascending_lists = record {
  once = λ m. sorted_mono ◌<◌ (λ (x y : ℕ). x ≡ y → ⊥) (ascending m) (λ a b i j l e. omega arith) (sorted_counting 0 (suc m));
  just = λ m j. (λ i. let r = from_counting 0 (suc m) j i in omega arith, λ l. in_counting 0 (suc m) j (omega arith) (omega arith));
}

-- one more number at the end
over_more : {E : Type 0} (h : ℕ → List E) (k n : ℕ) → length (over h (counting_up k (suc n))) ≡ length (over h (counting_up k n)) + length (h (k + n))
unfolding over counting_up
over_more h k zero =
    let e : k + 0 ≡ k = omega arith in
    let i = ap {B = ℕ} (λ (x : ℕ). length (h x)) e in
    length-append (h k) [] ∙ omega arith
over_more h k (suc n) =
    let e : suc k + n ≡ k + suc n = omega arith in
    let i = ap {B = ℕ} (λ (x : ℕ). length (h x)) e in
    let r = over_more h (suc k) n in
    let a = length-append (h k) (over h (counting_up (suc k) (suc n))) in
    let b = length-append (h k) (over h (counting_up (suc k) n)) in
    omega arith

-- as many pairs as the product
pub length_pairs : (us : List (List ℕ)) (vs : List (List (List ℕ))) → length (pairs us vs) ≡ length us * length vs
unfolding pairs
length_pairs [] vs = sym (zero-mul (length vs))
length_pairs (u ∷ us) vs =
    let f = λ (v : List (List ℕ)). u ∷ v in
    let a = length-append (map f vs) (pairs us vs) in
    let b = length-map vs f in
    let c = length_pairs us vs in
    omega arith

-- the pairs of all splits, first length upward
length_upward : (f : ℕ → List (List ℕ)) (h : ℕ → List (List (List ℕ))) (m n : ℕ)
    → length (over (λ j. pairs (f j) (h (m - j))) (counting_up 0 n)) ≡ sum_upward (λ j. length (f j)) (λ k. length (h k)) m n
unfolding sum_upward
length_upward f h m zero = unfold over counting_up in refl
length_upward f h m (suc n) =
    let at = λ (j : ℕ). pairs (f j) (h (m - j)) in
    let e : 0 + n ≡ n = omega arith in
    over_more at 0 n ∙
    ap₂ {C = ℕ} (λ (x y : ℕ). x + y) (length_upward f h m n) (ap {B = ℕ} (λ (x : ℕ). length (at x)) e ∙ length_pairs (f n) (h (m - n)))

-- at most one thing
length_test : {E : Type 0} (b : Bool) (x : E) → length (cond b (x ∷ []) []) ≡ cond b 1 0
length_test true x = refl
length_test false x = refl

-- a list that a test keeps
length_kept : (b : Bool) (l : List (List ℕ)) (n : ℕ) → length l ≡ n → length (cond b l []) ≡ cond b n 0
length_kept true l n e = e
length_kept false l n e = refl

-- a list that is kept if the left-hand side is A
pub length_if : (o : Option ℕ) (A : ℕ) (l : List (List ℕ)) (n : ℕ) → length l ≡ n → length (listed_if o A l) ≡ if_left o A n
length_if None A l n e = refl
length_if (Some B) A l n e = length_kept (eqb B A) l n e

module _ (S : Lists) (F : ℕ → ℕ → ℕ) (same : (A m : ℕ) → length (S A m) ≡ F A m) where
  -- as many parts of one symbol
  length_parts : (X : Symbol) (j : ℕ) → length (listed_parts S X j) ≡ symbol_count F X j
  length_parts (terminal t) j = length_test (eqb j 1) (t ∷ [])
  length_parts (nonterminal A) j = same A j

  -- as many ways are listed as the counts of the nonterminals give
  pub ascending_ways : (Xs : List Symbol) (m : ℕ) → length (listed_ways ascending S Xs m) ≡ side_count F Xs m
  unfolding listed_ways side_count
  ascending_ways [] m = length_test {E = List (List ℕ)} (eqb m 0) []
  ascending_ways (X ∷ Xs) m =
      let rest = λ (k : ℕ). ascending_ways Xs k in
      length_upward (listed_parts S X) (listed_ways ascending S Xs) m (suc m) ∙
      upward_same (λ j. length (listed_parts S X j)) (symbol_count F X) (λ k. length (listed_ways ascending S Xs k)) (side_count F Xs) m (suc m) (length_parts X) rest ∙
      ap {B = ℕ} (λ (n : ℕ). sum_upward (symbol_count F X) (side_count F Xs) m n) (sym (add-one m))

  -- as many of the first n slots
  length_slots : (G : Cfg) (A m n : ℕ) → length (listed_slots ascending G S A m n) ≡ sum_slots G A (λ s. side_count F (right_of (G.slot s)) m) n
  unfolding listed_slots sum_slots
  length_slots G A m zero = refl
  length_slots G A m (suc s) =
      let ws = listed_ways ascending S (right_of (G.slot s)) m in
      length-append (listed_slots ascending G S A m s) (listed_if (left_of (G.slot s)) A (map joined ws)) ∙
      ap₂ {C = ℕ} (λ (x y : ℕ). x + y) (length_slots G A m s)
      (length_if (left_of (G.slot s)) A (map joined ws) (side_count F (right_of (G.slot s)) m) (length-map ws joined ∙ ascending_ways (right_of (G.slot s)) m))

-- as many sentences are listed as there are trees
ascending_trees : (G : Cfg) (f A m : ℕ) → length (listed ascending G f A m) ≡ trees G f A m
unfolding listed trees
ascending_trees G zero A m = refl
ascending_trees G (suc f) A m = length_slots (listed ascending G f) (trees G f) (ascending_trees G f) G A m G.slots

-- as many sentences are listed as the count says
pub ascending_sentences : (G : Cfg) (A m : ℕ) → length (sentences ascending G A m) ≡ count G A m
unfolding sentences count
ascending_sentences G A m = ascending_trees G (16 * m + 16) A m
