-- The laws of restriction, as the contracts cite them.
use Rattle.std.specs.Prelude.{◌≡◌, ℕ, true, ◌↔◌, List, Option}
use Rattle.theory.specs.Lists.{In}
use Rattle.theory.specs.Grammar.{Symbol, Cfg, Derives, parse}
use Rattle.theory.specs.Sets.{Next}
use Rattle.theory.specs.Sound.{Limits}
use Rattle.grammar.specs.Interface.{Chooses}
use Rattle.restriction.specs.Masks.{keeps, all_bits}
use Rattle.restriction.specs.Restricted.{kept_slots, kept_choice}

-- with all bits set, each slot is as below, and so is each choice
pub record Unchanged (G : Cfg) : Type 0 where
  pub slot : (s : ℕ) → (kept_slots G all_bits).slot s ≡ G.slot s
  pub choice : (chosen : ℕ → Next → Option ℕ) → Chooses G chosen → (A : ℕ) (n : Next) → kept_choice all_bits (chosen A n) ≡ chosen A n

-- the mask of all bits leaves a grammar as it is
abbrev pub AllBitsChangeNothing : Type 0
AllBitsChangeNothing = (G : Cfg) → Limits G → Unchanged G

-- the derivations of the restriction are those below that use only kept slots
abbrev pub DerivationsUseKeptSlots : Type 0
DerivationsUseKeptSlots =
    (G : Cfg) (m : ℕ) (Xs : List Symbol) (w : List ℕ) →
    Derives (kept_slots G m) Xs w ↔ ((d : Derives G Xs w) × ((s : ℕ) → In s (parse d) → keeps m s ≡ true))
