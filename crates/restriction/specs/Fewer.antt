-- What a grammar owes, it owes of fewer slots: every smallest set gets smaller. Assumes nothing.
use Rattle.std.specs.Prelude.{◌≡◌, ℕ, ◌≤◌, Bool, true, false, cond, List, Some, None, Option, refl}
use Rattle.std.proofs.Common.{sym, ap, ◌∙◌, arith}
use Rattle.std.proofs.lemmas.Bool.{cond-true, cond_both}
use Rattle.theory.specs.Grammar.{Symbol, Slot, Cfg, rule, empty}
use Rattle.theory.specs.Sets.{Next}
use Rattle.theory.specs.Sound.{Limits}
use Rattle.theory.specs.Count.{left_of}
use Rattle.grammar.specs.Interface.{Chooses, Implements}
use Rattle.grammar.proofs.Smaller.{RulesWithin, EqualSizes, predict_within, limits_within, implements_within}
use Rattle.restriction.specs.Masks.{keeps}
use Rattle.restriction.specs.Restricted.{kept_slots, kept_choice}

-- a slot that is filled after emptying was kept
pub filled : (b : Bool) (o : Slot) {A : ℕ} {Ys : List Symbol} → cond b o empty ≡ rule A Ys → (b ≡ true) × (o ≡ rule A Ys)
filled true o e = (refl, e)
filled false o e = let z : ◌≡◌ {A = ℕ} 0 1 = cc in absurd (omega arith)

-- the same of a choice
some_kept : (b : Bool) {q s : ℕ} → cond b (Some q) None ≡ Some s → (b ≡ true) × (q ≡ s)
some_kept true e = (refl, cc)
some_kept false e = let z : ◌≡◌ {A = ℕ} 0 1 = cc in absurd (omega arith)

-- a choice that is left falls on a slot that is kept
chose : (m : ℕ) (o : Option ℕ) {s : ℕ} → kept_choice m o ≡ Some s → (keeps m s ≡ true) × (o ≡ Some s)
chose m None e = let z : ◌≡◌ {A = ℕ} 0 1 = cc in absurd (omega arith)
chose m (Some q) {s} e =
    let h = some_kept (keeps m q) e in
    (ap (keeps m) (sym h.1) ∙ h.0, ap Some h.1)

module _ (G : Cfg) (m : ℕ) where
  -- no rule but those of the grammar below
  within : RulesWithin (kept_slots G m) G
  within s A Ys e = (filled (keeps m s) (G.slot s) e).1

  -- the slots outside are empty
  kept_outside : Limits G → (s : ℕ) → G.slots ≤ s → (kept_slots G m).slot s ≡ empty
  kept_outside l s h = cond_both (keeps m s) (G.slot s) empty (λ o. o ≡ empty) (λ _. l.outside s h) (λ _. refl)

  -- the choice is as it should be
  kept_chooses : (chosen : ℕ → Next → Option ℕ) → Chooses G chosen → Chooses (kept_slots G m) (λ A n. kept_choice m (chosen A n))
  kept_chooses chosen c = record {
    own = λ A s n e.
        let h = chose m (chosen A n) e in
        ap left_of (cond-true (keeps m s) (G.slot s) empty h.0) ∙ c.own A s n h.1;
    predicted = λ A s Ys n e p.
        let h = filled (keeps m s) (G.slot s) e in
        ap (kept_choice m) (c.predicted A s Ys n h.1 (predict_within (kept_slots G m) G within p)) ∙ cond-true (keeps m s) (Some s) None h.0;
    unknown_terminal = λ A t h. ap (kept_choice m) (c.unknown_terminal A t h);
  }

  -- the restricted grammar implements what it owes
  pub restricted_implements : (chosen : ℕ → Next → Option ℕ) (level : ℕ → ℕ) → Implements G chosen level → Implements (kept_slots G m) (λ A n. kept_choice m (chosen A n)) level
  restricted_implements chosen level s =
      let F = kept_slots G m in
      let z : EqualSizes F G = record { terminals = refl; nonterminals = refl; slots = refl } in
      implements_within F G within z (limits_within F G within z s.limits.start_known (kept_outside s.limits) s.limits) (kept_chooses chosen s.choice) s
