-- The ways to take one part for each symbol: how many there are, and the k-th of them, by the first symbol. Assumes nothing.
use Rattle.std.proofs.Common.{◌≡◌, ℕ, zero, suc, ◌+◌, ◌-◌, ◌*◌, ◌<◌, ◌≤◌, cond, List, [], ◌∷◌, map, length, get_or, take, sym, refl, ap, ◌∙◌, subst, ap₂, arith, length-append}
use lib.ListN.{length-map}
use Rattle.std.proofs.lemmas.Bool.{ne_eqb}
use Rattle.std.proofs.lemmas.List.{get_or-map}
use Rattle.theory.specs.Lists.{In}
use Rattle.theory.specs.Grammar.{Symbol, terminal, nonterminal, Cfg}
use Rattle.theory.specs.Sound.{Ll1}
use Rattle.theory.specs.Order.{LengthOrder, ListsLengths, counting_up, ascending}
use Rattle.theory.specs.Count.{side_count, count}
use Rattle.theory.specs.Enumerate.{Lists, over, pairs, listed_parts, listed_ways, sentences}
use Rattle.theory.proofs.Members.{distinct_length, in_at, from_take, Placed, placed}
use Rattle.theory.proofs.Ascending.{ascending_lists, length_pairs}
use Rattle.theory.proofs.Listing.{sentences_length, ways_length}
use Rattle.walk.specs.Splits.{sum_listed, SplitAt}
use Rattle.walk.specs.Ways.{ways, CountedBy}
use Rattle.walk.proofs.Nth.{nth_over, nth_pairs, pairs_none, pairs_alone, pairs_one, over_none, over_one}
use Rattle.walk.proofs.Splits.{listed_same, split_low, split_below}

-- n numbers are counted up
length_counting : (k n : ℕ) → length (counting_up k n) ≡ n
unfolding counting_up
length_counting k zero = refl
length_counting k (suc n) = ap suc (length_counting (suc k) n)

module _ {order : LengthOrder} (lists : ListsLengths order) where
  -- m + 1 lengths are listed
  pub length_order : (m : ℕ) → length (order m) ≡ m + 1
  length_order m =
      let le = distinct_length (order m) (ascending m) (lists.once m) (λ w i. (ascending_lists.just m w).1 ((lists.just m w).0 i)) in
      let ge = distinct_length (ascending m) (order m) (ascending_lists.once m) (λ w i. (lists.just m w).1 ((ascending_lists.just m w).0 i)) in
      omega (arith, le, ge, length_counting 0 (suc m))

  -- each is at most m
  pub order_short : (m i : ℕ) → i < length (order m) → get_or (order m) i 0 ≤ m
  order_short m i l = (lists.just m (get_or (order m) i 0)).0 (in_at 0 (order m) i l)

  -- each length up to m has a place
  pub order_place : (m j : ℕ) → j ≤ m → Placed 0 (order m) j
  order_place m j l = placed 0 (order m) ((lists.just m j).1 l)

-- as many pairs as the sum over the listed lengths
pub length_splits : (f : ℕ → List (List ℕ)) (h : ℕ → List (List (List ℕ))) (m : ℕ) (js : List ℕ)
    → length (over (λ j. pairs (f j) (h (m - j))) js) ≡ sum_listed (λ j. length (f j)) (λ k. length (h k)) m js
unfolding over sum_listed
length_splits f h m [] = refl
length_splits f h m (j ∷ js) =
    let at = λ (j : ℕ). pairs (f j) (h (m - j)) in
    length-append (at j) (over at js) ∙ ap₂ {C = ℕ} (λ (x y : ℕ). x + y) (length_pairs (f j) (h (m - j))) (length_splits f h m js)

-- a terminal has no part of a length other than 1
terminal_other : (S : Lists) (t j : ℕ) (vs : List (List (List ℕ))) → (j ≡ 1 → ⊥) → pairs (listed_parts S (terminal t) j) vs ≡ []
unfolding pairs
terminal_other S t j vs ne = rw (ne_eqb j 1 ne)

-- no symbols have one way at 0
pub ways_none : (order : LengthOrder) (G : Cfg) → ways order G [] 0 ≡ [] ∷ []
unfolding listed_ways
ways_none order G = refl

-- and none elsewhere
pub ways_none_longer : (order : LengthOrder) (G : Cfg) (m : ℕ) → ways order G [] (suc m) ≡ []
unfolding listed_ways
ways_none_longer order G m = rw (ne_eqb (suc m) 0 (λ e. omega arith))

-- a way of no symbols is the only one, at 0
pub ways_none_only : (order : LengthOrder) (G : Cfg) (m k : ℕ) → k < length (ways order G [] m) → (m ≡ 0) × (k ≡ 0)
unfolding listed_ways
ways_none_only order G zero k l = (refl, omega arith)
ways_none_only order G (suc m) k l = absurd (omega (arith, ap {B = ℕ} length (ways_none_longer order G m)))

module _ {G : Cfg} {level : ℕ → ℕ} {order : LengthOrder} (ll : Ll1 G level) (lists : ListsLengths order) where
  -- the ways of a terminal and more, one longer: the terminal before each way of the rest
  pub ways_terminal : (t : ℕ) (Xs : List Symbol) (m : ℕ) → ways order G (terminal t ∷ Xs) (suc m) ≡ map (λ (v : List (List ℕ)). (t ∷ []) ∷ v) (ways order G Xs m)
  unfolding listed_ways
  ways_terminal t Xs m =
      let S = sentences order G in
      let at = λ (j : ℕ). pairs (listed_parts S (terminal t) j) (listed_ways order S Xs (suc m - j)) in
      let e : suc m - 1 ≡ m = omega arith in
      over_one at 1 (order (suc m)) (lists.once (suc m)) ((lists.just (suc m) 1).1 (omega arith)) (λ j n ne. terminal_other S t j (listed_ways order S Xs (suc m - j)) ne)
      ∙ ap {B = List (List (List ℕ))} (λ (k : ℕ). pairs ((t ∷ []) ∷ []) (listed_ways order S Xs k)) e
      ∙ pairs_one (t ∷ []) (listed_ways order S Xs m)

  -- a terminal and more have no way at 0
  pub ways_terminal_none : (t : ℕ) (Xs : List Symbol) → ways order G (terminal t ∷ Xs) 0 ≡ []
  unfolding listed_ways
  ways_terminal_none t Xs =
      over_none (λ (j : ℕ). pairs (listed_parts (sentences order G) (terminal t) j) (listed_ways order (sentences order G) Xs (0 - j))) (order 0)
      (λ j n. let l = (lists.just 0 j).0 n in terminal_other (sentences order G) t j (listed_ways order (sentences order G) Xs (0 - j)) (λ e. omega arith))

  -- there are as many as of the rest
  pub terminal_length : (t : ℕ) (Xs : List Symbol) (m : ℕ) → length (ways order G (terminal t ∷ Xs) (suc m)) ≡ length (ways order G Xs m)
  terminal_length t Xs m =
      let f = λ (v : List (List ℕ)). (t ∷ []) ∷ v in
      ap {B = ℕ} length (ways_terminal t Xs m) ∙ length-map (ways order G Xs m) f

  -- and the k-th has the terminal before the k-th of those
  pub terminal_nth : (t : ℕ) (Xs : List Symbol) (m k : ℕ) → k < length (ways order G Xs m)
      → get_or (ways order G (terminal t ∷ Xs) (suc m)) k [] ≡ (t ∷ []) ∷ get_or (ways order G Xs m) k []
  terminal_nth t Xs m k l =
      let f = λ (v : List (List ℕ)). (t ∷ []) ∷ v in
      ap {B = List (List ℕ)} (λ (ws : List (List (List ℕ))). get_or ws k []) (ways_terminal t Xs m) ∙ get_or-map f (ways order G Xs m) k [] [] l

  -- the ways of one nonterminal: each sentence alone
  pub ways_last : (A m : ℕ) → ways order G (nonterminal A ∷ []) m ≡ map (λ (u : List ℕ). u ∷ []) (sentences order G A m)
  unfolding listed_ways
  ways_last A m =
      let S = sentences order G in
      let at = λ (j : ℕ). pairs (S A j) (listed_ways order S [] (m - j)) in
      let e : m - m ≡ 0 = omega arith in
      over_one at m (order m) (lists.once m) ((lists.just m m).1 (omega arith))
      (λ j n ne. let l = (lists.just m j).0 n in other j (omega arith))
      ∙ ap {B = List (List (List ℕ))} (λ (k : ℕ). pairs (S A m) (listed_ways order S [] k)) e
      ∙ pairs_alone (S A m)
    where
      other : (j : ℕ) → (m - j ≡ 0 → ⊥) → pairs (sentences order G A j) (listed_ways order (sentences order G) [] (m - j)) ≡ []
      other j ne =
          ap {B = List (List (List ℕ))} (λ b. pairs (sentences order G A j) (cond b ([] ∷ []) [])) (ne_eqb (m - j) 0 ne) ∙ pairs_none (sentences order G A j)

  -- there are as many as sentences
  pub last_length : (A m : ℕ) → length (ways order G (nonterminal A ∷ []) m) ≡ length (sentences order G A m)
  last_length A m =
      let f = λ (u : List ℕ). u ∷ [] in
      ap {B = ℕ} length (ways_last A m) ∙ length-map (sentences order G A m) f

  -- and the k-th is the k-th sentence alone
  pub last_nth : (A m k : ℕ) → k < length (sentences order G A m) → get_or (ways order G (nonterminal A ∷ []) m) k [] ≡ get_or (sentences order G A m) k [] ∷ []
  last_nth A m k l =
      let f = λ (u : List ℕ). u ∷ [] in
      ap {B = List (List ℕ)} (λ (ws : List (List (List ℕ))). get_or ws k []) (ways_last A m) ∙ get_or-map f (sentences order G A m) k [] [] l

  module _ {A m : ℕ} {Xs : List Symbol} {f h : ℕ → ℕ} (c : CountedBy G A Xs m f h) where
    -- what is counted is the number of sentences
    pub counted_first : (j : ℕ) → j ≤ m → f j ≡ length (sentences order G A j)
    counted_first j l = c.first j l ∙ sym (sentences_length ll lists A j)

    -- and the number of ways
    pub counted_rest : (k : ℕ) → k ≤ m → h k ≡ length (ways order G Xs k)
    counted_rest k l = c.rest k l ∙ sym (ways_length ll lists Xs k)

    -- as many pairs at some lengths as the sum over them
    length_at : (js : List ℕ) → ((j : ℕ) → In j js → j ≤ m) → sum_listed f h m js ≡ length (over (λ j. pairs (sentences order G A j) (ways order G Xs (m - j))) js)
    length_at js short =
        listed_same f (λ j. length (sentences order G A j)) h (λ k. length (ways order G Xs k)) m js
        (λ j n. ap₂ {C = ℕ} (λ (x y : ℕ). x * y) (counted_first j (short j n)) (counted_rest (m - j) (omega arith)))
        ∙ sym (length_splits (sentences order G A) (ways order G Xs) m js)

    -- the sum over all listed lengths is the number of ways
    pub sum_ways : sum_listed f h m (order m) ≡ length (ways order G (nonterminal A ∷ Xs) m)
    unfolding listed_ways
    sum_ways = length_at (order m) (λ j n. (lists.just m j).0 n)

    -- that is, the computed count
    pub sum_count : sum_listed f h m (order m) ≡ side_count (count G) (nonterminal A ∷ Xs) m
    sum_count = sum_ways ∙ ways_length ll lists (nonterminal A ∷ Xs) m

    module _ {k i j q r : ℕ} (s : SplitAt f h m (order m) k i j q r) where
      -- the length of the first part is at most m
      pub split_short : j ≤ m
      split_short = let l = order_short lists m i s.listed in omega (arith, s.is_length)

      -- the number is below the number of ways
      pub split_in_ways : k < length (ways order G (nonterminal A ∷ Xs) m)
      split_in_ways = omega (arith, split_below s, sum_ways)

      -- the rank of the first part is below the number of sentences
      pub split_first : q < length (sentences order G A j)
      split_first = omega (arith, s.first, counted_first j split_short)

      -- the rank of the rest is below the number of its ways
      pub split_rest : r < length (ways order G Xs (m - j))
      split_rest = omega (arith, s.rest, counted_rest (m - j) (omega arith))

      -- the k-th way is the first part's sentence before the rest's way
      pub split_nth : get_or (ways order G (nonterminal A ∷ Xs) m) k [] ≡ get_or (sentences order G A j) q [] ∷ get_or (ways order G Xs (m - j)) r []
      unfolding listed_ways
      split_nth =
          let at = λ (j : ℕ). pairs (sentences order G A j) (ways order G Xs (m - j)) in
          let x : ℕ = q * length (ways order G Xs (m - j)) + r in
          let e = counted_rest (m - j) (omega arith) in
          let before = length_at (take i (order m)) (λ y n. (lists.just m y).0 (from_take i (order m) n)) in
          let p : k ≡ length (over at (take i (order m))) + x = omega (arith, s.is, ap (λ (y : ℕ). q * y) e) in
          let n = length_pairs (sentences order G A j) (ways order G Xs (m - j)) in
          let low = split_low s in
          let o = ap₂ {C = ℕ} (λ (a b : ℕ). a * b) (counted_first j split_short) e in
          let b : x < length (at j) = omega (arith, ap (λ (y : ℕ). q * y) e) in
          let g = ap {B = List (List (List ℕ))} at s.is_length in
          nth_over [] at (order m) i x k s.listed (subst (λ (l : List (List (List ℕ))). x < length l) g b) p
          ∙ ap {B = List (List ℕ)} (λ (l : List (List (List ℕ))). get_or l x []) (sym g)
          ∙ nth_pairs (sentences order G A j) (ways order G Xs (m - j)) q r split_first split_rest
