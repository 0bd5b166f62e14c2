-- The sentences of a nonterminal, slot by slot: how many there are, and the k-th of them. Assumes nothing.
use Rattle.std.proofs.Common.{◌≡◌, ℕ, zero, suc, ◌+◌, ◌-◌, ◌<◌, ◌≤◌, List, [], map, length, get_or, Some, None, Option, sym, refl, ap, ◌∙◌, ap₂, ⊎_elim, add-zero, add-suc, arith, length-append}
use lib.ListN.{length-map}
use Rattle.std.proofs.lemmas.Bool.{cases_eq, eq-eqb, ne_eqb}
use Rattle.std.proofs.lemmas.List.{get_or_append_left, get_or-map}
use Rattle.theory.specs.Lists.{joined}
use Rattle.theory.specs.Grammar.{Cfg}
use Rattle.theory.specs.Sound.{Ll1}
use Rattle.theory.specs.Order.{LengthOrder, ListsLengths}
use Rattle.theory.specs.Count.{left_of, right_of, if_left, sum_slots, count}
use Rattle.theory.specs.Enumerate.{listed_if, listed_slots, sentences}
use Rattle.theory.proofs.Counting.{slots_more, slots_le, count_equation}
use Rattle.theory.proofs.Ascending.{length_if}
use Rattle.theory.proofs.Listing.{sentences_by_slots, sentences_length, ways_length}
use Rattle.walk.specs.Ways.{ways, slot_ways, ways_before}
use Rattle.walk.proofs.Nth.{nth_past}

-- what is kept where the left-hand side is A
pub own_ways : (o : Option ℕ) (A n : ℕ) → o ≡ Some A → if_left o A n ≡ n
own_ways None A n e = let z : ◌≡◌ {A = ℕ} 0 1 = cc in absurd (omega arith)
own_ways (Some B) A n e = let q : B ≡ A = cc in rw (eq-eqb B A q)

-- the list that is kept where the left-hand side is A
listed_own : (o : Option ℕ) (A : ℕ) (l : List (List ℕ)) → o ≡ Some A → listed_if o A l ≡ l
listed_own None A l e = let z : ◌≡◌ {A = ℕ} 0 1 = cc in absurd (omega arith)
listed_own (Some B) A l e = let q : B ≡ A = cc in rw (eq-eqb B A q)

-- a number below what is kept: the left-hand side is A
pub slot_own : (o : Option ℕ) (A n x : ℕ) → x < if_left o A n → (o ≡ Some A) × (x < n)
slot_own None A n x l = absurd (omega arith)
slot_own (Some B) A n x l =
    ⊎_elim
    (λ q. (ap Some q, omega (arith, own_ways (Some B) A n (ap Some q))))
    (λ ne. absurd (omega (arith, not_own ne)))
    (cases_eq B A)
  where
    not_own : (B ≡ A → ⊥) → if_left (Some B) A n ≡ 0
    not_own ne = rw (ne_eqb B A ne)

-- the ways of all slots of A are its sentences
pub ways_of_all : {G : Cfg} {level : ℕ → ℕ} → Ll1 G level → (A m : ℕ) → ways_before G A m G.slots ≡ count G A m
ways_of_all ll A m = count_equation ll A m

-- the ways before a slot of A and those of the slot are at most the sentences
pub ways_before_le : {G : Cfg} {level : ℕ → ℕ} → Ll1 G level → (A m s : ℕ) → s < G.slots
    → ways_before G A m s + if_left (left_of (G.slot s)) A (slot_ways G m s) ≤ count G A m
ways_before_le {G} ll A m s l =
    omega (arith, slots_more G A (slot_ways G m) s, slots_le G A (slot_ways G m) (s + 1) G.slots (omega arith), ways_of_all ll A m)

-- a number that is left after the slots before s, where it is below the count, is left inside the slots
pub slot_inside : {G : Cfg} {level : ℕ → ℕ} → Ll1 G level → (A m s k x : ℕ) → s ≤ G.slots → k ≡ ways_before G A m s + x → k < count G A m → s < G.slots
slot_inside {G} ll A m s k x l e o =
    ⊎_elim
    (λ (q : s ≡ G.slots). absurd (omega (arith, ap (λ (n : ℕ). ways_before G A m n) q, ways_of_all ll A m)))
    (λ ne. omega arith)
    (cases_eq s G.slots)

module _ {G : Cfg} {level : ℕ → ℕ} {order : LengthOrder} (ll : Ll1 G level) (lists : ListsLengths order) where
  -- as many sentences of the slots before s as their ways
  slots_length : (A m n : ℕ) → length (listed_slots order G (sentences order G) A m n) ≡ ways_before G A m n
  unfolding listed_slots sum_slots
  slots_length A m zero = refl
  slots_length A m (suc s) =
      let ws = ways order G (right_of (G.slot s)) m in
      length-append (listed_slots order G (sentences order G) A m s) (listed_if (left_of (G.slot s)) A (map joined ws))
      ∙ ap₂ {C = ℕ} (λ (x y : ℕ). x + y) (slots_length A m s)
      (length_if (left_of (G.slot s)) A (map joined ws) (slot_ways G m s) (length-map ws joined ∙ ways_length ll lists (right_of (G.slot s)) m))

  -- an entry of the first slots stands at the same place among more
  slots_prefix : (A m n d k : ℕ) → k < length (listed_slots order G (sentences order G) A m n)
      → (get_or (listed_slots order G (sentences order G) A m (n + d)) k [] ≡ get_or (listed_slots order G (sentences order G) A m n) k [])
      × (k < length (listed_slots order G (sentences order G) A m (n + d)))
  unfolding listed_slots
  slots_prefix A m n zero k l = rw add-zero (refl, l)
  slots_prefix A m n (suc d) k l =
      let i = slots_prefix A m n d k l in
      let xs = listed_slots order G (sentences order G) A m (n + d) in
      let ys = listed_if (left_of (G.slot (n + d))) A (map joined (ways order G (right_of (G.slot (n + d))) m)) in
      let e = length-append xs ys in
      rw add-suc (get_or_append_left xs ys [] k i.1 ∙ i.0, omega arith)

  module _ (A m s r k : ℕ) (own : left_of (G.slot s) ≡ Some A) (inside : s < G.slots) (low : r < length (ways order G (right_of (G.slot s)) m))
      (is : k ≡ ways_before G A m s + r) where
    -- the number of a way of slot s, with the ways of the slots before, is below the count
    pub slot_below_count : k < count G A m
    slot_below_count =
        let b = ways_before_le ll A m s inside in
        let i = own_ways (left_of (G.slot s)) A (slot_ways G m s) own in
        omega (arith, ways_length ll lists (right_of (G.slot s)) m)

    -- and so below the number of sentences
    pub slot_in_sentences : k < length (sentences order G A m)
    slot_in_sentences = omega (arith, slot_below_count, sentences_length ll lists A m)

    -- that sentence is the way's parts, one after the other
    pub slot_nth : get_or (sentences order G A m) k [] ≡ joined (get_or (ways order G (right_of (G.slot s)) m) r [])
    unfolding listed_slots
    slot_nth =
        let S = sentences order G in
        let ws = ways order G (right_of (G.slot s)) m in
        let xs = listed_slots order G S A m s in
        let ys = listed_if (left_of (G.slot s)) A (map joined ws) in
        let n = length-append xs ys in
        let own-list = listed_own (left_of (G.slot s)) A (map joined ws) own in
        let long = ap {B = ℕ} length own-list ∙ length-map ws joined in
        let e : suc s + (G.slots - suc s) ≡ G.slots = omega arith in
        let o = slots_prefix A m (suc s) (G.slots - suc s) k (omega (arith, slots_length A m s)) in
        ap {B = List ℕ} (λ (l : List (List ℕ)). get_or l k []) (sym (sentences_by_slots ll lists A m))
        ∙ ap {B = List ℕ} (λ (n : ℕ). get_or (listed_slots order G S A m n) k []) (sym e)
        ∙ o.0
        ∙ nth_past [] xs ys k r (omega (arith, slots_length A m s))
        ∙ ap {B = List ℕ} (λ (l : List (List ℕ)). get_or l r []) own-list
        ∙ get_or-map joined ws r [] [] low
