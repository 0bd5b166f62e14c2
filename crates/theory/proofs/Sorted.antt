-- The enumeration lists sentences and ways in split order. Assumes nothing.
use Rattle.std.proofs.Common.{◌≡◌, ℕ, zero, suc, ◌-◌, Bool, true, false, cond, eqb, List, [], ◌∷◌, map, length, Some, None, Option, sym, refl, ap, ◌∙◌, subst, ⊎_elim}
use Rattle.std.proofs.lemmas.Bool.{cases_eq, eq-eqb, ne_eqb}
use Rattle.theory.specs.Lists.{In, Sorted, Before, joined}
use Rattle.theory.specs.Grammar.{Symbol, terminal, nonterminal, Cfg}
use Rattle.theory.specs.Order.{LengthOrder, ListsLengths, Precedes, PartsPrecede, by_slot, by_parts, by_length, by_part, by_rest}
use Rattle.theory.specs.Count.{left_of, right_of}
use Rattle.theory.specs.Enumerate.{Lists, pairs, listed_parts, listed_ways, listed_if, listed_slots, listed}
use Rattle.theory.proofs.Counting.{is_rule}
use Rattle.theory.proofs.Members.{from_map, from_pairs, in_over, before_first, sorted_append, sorted_map, sorted_pairs, sorted_over}
use Rattle.theory.proofs.Parts.{parts_derive}
use Rattle.theory.proofs.Complete.{from_if, from_slots, SoundLists, sound_parts, sound_ways, sound}

-- a list of at most one thing
sorted_one : {E : Type 0} (R : E → E → Type 0) (b : Bool) (x : E) → Sorted R (cond b (x ∷ []) [])
sorted_one R true x = (λ y m. elim m [ ], tt)
sorted_one R false x = tt

-- a list that is kept if the left-hand side is A
sorted_if : (R : List ℕ → List ℕ → Type 0) (o : Option ℕ) (A : ℕ) (l : List (List ℕ)) → (o ≡ Some A → Sorted R l) → Sorted R (listed_if o A l)
sorted_if R None A l h = tt
sorted_if R (Some B) A l h = ⊎_elim (λ e. rw (eq-eqb B A e) (h (ap Some e))) (λ ne. rw (ne_eqb B A ne) tt) (cases_eq B A)

-- the order of one symbol's parts of one length
abbrev PartPrecedes : Cfg → LengthOrder → Symbol → List ℕ → List ℕ → Type 0
PartPrecedes G order (terminal t) u v = ⊥
PartPrecedes G order (nonterminal A) u v = Precedes G order A u v

-- the parts of one symbol are listed in order
sorted_parts : (G : Cfg) (order : LengthOrder) (S : Lists) → ((A j : ℕ) → Sorted (Precedes G order A) (S A j)) → (X : Symbol) (j : ℕ)
    → Sorted (PartPrecedes G order X) (listed_parts S X j)
sorted_parts G order S h (terminal t) j = sorted_one (λ u v. ⊥) (eqb j 1) (t ∷ [])
sorted_parts G order S h (nonterminal A) j = h A j

-- the first parts decide by their symbol's own order
by_own : {G : Cfg} {order : LengthOrder} (X : Symbol) {Xs : List Symbol} (u v : List ℕ) (us vs : List (List ℕ)) → PartPrecedes G order X u v
    → PartsPrecede G order (X ∷ Xs) (u ∷ us) (v ∷ vs)
by_own (terminal t) u v us vs p = absurd p
by_own (nonterminal A) u v us vs p = by_part p

module _ {order : LengthOrder} (lists : ListsLengths order) where
  -- ways whose first parts have lengths in order
  lengths_apart : {G : Cfg} (S : Lists) → SoundLists G S → (X : Symbol) (Xs : List Symbol) (m i j : ℕ) (a b : List (List ℕ)) → Before i j (order m)
      → In a (listed_ways order S (X ∷ Xs) m) → In a (pairs (listed_parts S X i) (listed_ways order S Xs (m - i)))
      → In b (pairs (listed_parts S X j) (listed_ways order S Xs (m - j))) → PartsPrecede G order (X ∷ Xs) a b
  lengths_apart {G} S so X Xs m i j a b o w n n' =
      let p = from_pairs (listed_parts S X i) (listed_ways order S Xs (m - i)) n in
      let p' = from_pairs (listed_parts S X j) (listed_ways order S Xs (m - j)) n' in
      let x = (sound_parts S so X i p.front_in).1 in
      let y = (sound_parts S so X j p'.front_in).1 in
      let t = (sound_ways lists S so (X ∷ Xs) m a w).1 in
      let z = ap {B = ℕ} (λ (r : List (List ℕ)). length (joined r)) (sym p.is) ∙ t in
      subst (λ (r : List (List ℕ)). PartsPrecede G order (X ∷ Xs) r b) (sym p.is)
      (subst (λ (r : List (List ℕ)). PartsPrecede G order (X ∷ Xs) (p.front ∷ p.back) r) (sym p'.is)
      (by_length (rw (x, y, z) o)))

  -- the ways are listed in order
  pub sorted_ways : {G : Cfg} (S : Lists) → SoundLists G S → ((A j : ℕ) → Sorted (Precedes G order A) (S A j)) → (Xs : List Symbol) (m : ℕ)
      → Sorted (PartsPrecede G order Xs) (listed_ways order S Xs m)
  unfolding listed_ways
  sorted_ways {G} S so h [] m = sorted_one (PartsPrecede G order []) (eqb m 0) []
  sorted_ways {G} S so h (X ∷ Xs) m =
      let rest = λ (k : ℕ). sorted_ways S so h Xs k in
      let at = λ (j : ℕ). pairs (listed_parts S X j) (listed_ways order S Xs (m - j)) in
      sorted_over (PartsPrecede G order (X ∷ Xs)) at (order m)
      (λ j i.
      sorted_pairs (PartPrecedes G order X) (PartsPrecede G order Xs) (PartsPrecede G order (X ∷ Xs)) (listed_parts S X j) (listed_ways order S Xs (m - j))
      (sorted_parts G order S h X j) (rest (m - j))
      (λ u u' v v' a a' p. by_own X u u' v v' p)
      (λ u v v' q. by_rest refl q))
      (λ i j a b o n n'. lengths_apart S so X Xs m i j a b o (in_over at i (order m) (before_first o) n) n n')

  -- the first n slots are listed in order
  pub sorted_slots : {G : Cfg} (S : Lists) → SoundLists G S → ((A j : ℕ) → Sorted (Precedes G order A) (S A j)) → (A m n : ℕ)
      → Sorted (Precedes G order A) (listed_slots order G S A m n)
  unfolding listed_slots
  sorted_slots S so h A m zero = tt
  sorted_slots {G} S so h A m (suc s) =
      let Ys = right_of (G.slot s) in
      let ws = listed_ways order S Ys m in
      sorted_append (Precedes G order A) (listed_slots order G S A m s) (listed_if (left_of (G.slot s)) A (map joined ws))
      (sorted_slots S so h A m s)
      (sorted_if (Precedes G order A) (left_of (G.slot s)) A (map joined ws)
      (λ e. sorted_map (PartsPrecede G order Ys) (Precedes G order A) joined ws (sorted_ways S so h Ys m)
      (λ a b i j o.
      let x = sound_ways lists S so Ys m a i in
      let y = sound_ways lists S so Ys m b j in
      by_parts s Ys a b (x.1 ∙ sym y.1) (is_rule (G.slot s) e) x.0 y.0 refl refl o)))
      (λ a b i j. across a b i j)
    where
      across : (a b : List ℕ) → In a (listed_slots order G S A m s)
          → In b (listed_if (left_of (G.slot s)) A (map joined (listed_ways order S (right_of (G.slot s)) m))) → Precedes G order A a b
      across a b i j =
          let Ys = right_of (G.slot s) in
          let c = from_slots order G S A m s i in
          let Zs = right_of (G.slot c.slot) in
          let k = from_if (left_of (G.slot s)) A (map joined (listed_ways order S Ys m)) j in
          let p = from_map joined (listed_ways order S Ys m) k.1 in
          let x = sound_ways lists S so Zs m c.parts c.found in
          let y = sound_ways lists S so Ys m p.from p.found in
          subst (λ (z : List ℕ). Precedes G order A z b) (sym c.is)
          (subst (λ (z : List ℕ). Precedes G order A (joined c.parts) z) (sym p.is)
          (by_slot c.slot s Zs Ys (x.1 ∙ sym y.1) c.below c.holds (is_rule (G.slot s) k.0) (parts_derive x.0) (parts_derive y.0)))

  -- the sentences are listed in order
  pub sorted : (G : Cfg) (f A m : ℕ) → Sorted (Precedes G order A) (listed order G f A m)
  unfolding listed
  sorted G zero A m = tt
  sorted G (suc f) A m = sorted_slots (listed order G f) (sound lists G f) (sorted G f) A m G.slots
