-- The laws of restriction. Assumes nothing.
use Rattle.std.proofs.Common.{◌≡◌, ℕ, ◌<◌, Bool, true, false, cond, List, ◌∷◌, ◌++◌, Some, None, Option, sym, refl, ap, ◌∙◌, ⊎_elim, arith}
use Rattle.std.proofs.lemmas.Bool.{cases_lt, cond-true}
use Rattle.theory.specs.Lists.{In, here, there}
use Rattle.theory.proofs.Members.{in_append, in_left, in_right}
use Rattle.theory.specs.Grammar.{Symbol, Slot, empty, Cfg, Derives, done, read, expand, parse}
use Rattle.theory.specs.Sets.{Next}
use Rattle.theory.specs.Sound.{Limits}
use Rattle.theory.specs.Count.{left_of}
use Rattle.grammar.specs.Interface.{Chooses}
use Rattle.restriction.specs.Masks.{keeps, all_bits}
use Rattle.restriction.specs.Restricted.{kept_slots, kept_choice}
use Rattle.restriction.specs.Laws.{AllBitsChangeNothing, DerivationsUseKeptSlots}
use Rattle.restriction.proofs.Bits.{keeps_all}
use Rattle.restriction.specs.Fewer.{filled}

-- ---- the mask of all bits

-- an empty slot stays empty
cond_same : (b : Bool) (o : Slot) → o ≡ empty → cond b o empty ≡ o
cond_same true o e = refl
cond_same false o e = sym e

-- each slot is as below
slot_unchanged : (G : Cfg) → Limits G → (s : ℕ) → (kept_slots G all_bits).slot s ≡ G.slot s
slot_unchanged G l s =
    ⊎_elim (λ h. cond-true (keeps all_bits s) (G.slot s) empty (keeps_all s h)) (λ h. cond_same (keeps all_bits s) (G.slot s) (l.outside s (omega (arith, l.slots_high)))) (cases_lt s 64)

-- a filled slot is one of the grammar's
filled_inside : (G : Cfg) (s A : ℕ) → Limits G → left_of (G.slot s) ≡ Some A → s < 64
filled_inside G s A l e = ⊎_elim (λ h. h) (λ h. let o = ap left_of (l.outside s (omega (arith, l.slots_high))) in let z : ◌≡◌ {A = ℕ} 0 1 = cc in absurd (omega arith)) (cases_lt s 64)

-- each choice is as below
choice_unchanged : (G : Cfg) → Limits G → (chosen : ℕ → Next → Option ℕ) → Chooses G chosen → (A : ℕ) (n : Next) → kept_choice all_bits (chosen A n) ≡ chosen A n
choice_unchanged G l chosen c A n = go (chosen A n) refl
  where
    go : (o : Option ℕ) → chosen A n ≡ o → kept_choice all_bits o ≡ o
    go None e = refl
    go (Some s) e = cond-true (keeps all_bits s) (Some s) None (keeps_all s (filled_inside G s A l (c.own A s n e)))

-- the mask of all bits changes nothing
pub all_bits_change_nothing : AllBitsChangeNothing
all_bits_change_nothing G l = record { slot = slot_unchanged G l; choice = choice_unchanged G l }

-- ---- derivations

module _ (G : Cfg) (m : ℕ) where
  -- a slot and those of two lists are kept
  kept_after : (s : ℕ) (xs ys : List ℕ) → keeps m s ≡ true → ((i : ℕ) → In i xs → keeps m i ≡ true) → ((i : ℕ) → In i ys → keeps m i ≡ true)
      → (i : ℕ) → In i (s ∷ (xs ++ ys)) → keeps m i ≡ true
  kept_after s xs ys k p q i (here e) = ap (keeps m) e ∙ k
  kept_after s xs ys k p q i (there z) = ⊎_elim (p i) (q i) (in_append xs ys z)

  -- a derivation of the restriction is one below that uses only kept slots
  derives_below : {Xs : List Symbol} {w : List ℕ} → Derives (kept_slots G m) Xs w → (d : Derives G Xs w) × ((s : ℕ) → In s (parse d) → keeps m s ≡ true)
  unfolding parse
  derives_below done = (done, λ s p. elim p [ ])
  derives_below (read e d) = let h = derives_below d in (read e h.0, h.1)
  derives_below (expand s Ys u v r e d d') =
      let f = filled (keeps m s) (G.slot s) r in
      let h = derives_below d in
      let h' = derives_below d' in
      (expand s Ys u v f.1 e h.0 h'.0, kept_after s (parse h.0) (parse h'.0) f.0 h.1 h'.1)

  -- and the other way round
  derives_kept : {Xs : List Symbol} {w : List ℕ} (d : Derives G Xs w) → ((s : ℕ) → In s (parse d) → keeps m s ≡ true) → Derives (kept_slots G m) Xs w
  unfolding parse
  derives_kept done h = done
  derives_kept (read e d) h = read e (derives_kept d h)
  derives_kept (expand s Ys u v r e d d') h =
      expand s Ys u v (cond-true (keeps m s) (G.slot s) empty (h s (here refl)) ∙ r) e
      (derives_kept d (λ i p. h i (there (in_left (parse d) (parse d') p))))
      (derives_kept d' (λ i p. h i (there (in_right (parse d) (parse d') p))))

-- the derivations of the restriction are those below that use only kept slots
pub derivations_use_kept_slots : DerivationsUseKeptSlots
derivations_use_kept_slots G m Xs w = (λ d. derives_below G m d, λ p. derives_kept G m p.0 p.1)
