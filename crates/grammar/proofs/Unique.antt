-- What a grammar owes has at most one proof, so that a grammar can keep it, truncated, in a ghost field. Assumes nothing.
use Rattle.std.proofs.Common.{◌≡◌, ℕ, Some, None, Option, refl, ap, ⊎_elim, arith}
use mathlib.Core.HLevel.{Discrete, hedberg, Π_prop}
use mathlib.Core.Logic.{∥∥₁_elim}
use mathlib.Core.List.{is_set}
use native.Mathlib.Nat.{ℕ_set}
use denote.Struct.Props.{props}
use Rattle.std.proofs.lemmas.Bool.{cases_eq}
use Rattle.theory.specs.Grammar.{Cfg, Symbol, terminal, nonterminal, empty, symbol_set, slot_set}
use Rattle.theory.specs.Sets.{Next}
use Rattle.theory.specs.Sound.{Known, Limits, Sound, Levels, limits_prop, sound_prop, levels_prop}
use Rattle.grammar.specs.Interface.{Chooses, Implements, chooses_prop, implements_prop}

-- options of numbers are equal or not
same_option : Discrete (Option ℕ)
same_option None None = yes refl
same_option None (Some y) = no (λ e. let z : ◌≡◌ {A = ℕ} 0 1 = cc in omega arith)
same_option (Some x) None = no (λ e. let z : ◌≡◌ {A = ℕ} 0 1 = cc in omega arith)
same_option (Some x) (Some y) = ⊎_elim (λ e. yes (ap Some e)) (λ d. no (λ e. d (cc))) (cases_eq x y)

-- so equations of them have at most one proof
option_set : IsSet (Option ℕ)
option_set = hedberg same_option

-- each part has at most one proof
one_known : (T N : ℕ) (X : Symbol) → IsProp (Known T N X)
one_known T N (terminal t) = hlevel props
one_known T N (nonterminal A) = hlevel props

pub one_limits : {G : Cfg} → IsProp (Limits G)
one_limits {G} = limits_prop (hlevel props) (hlevel props) (hlevel props) (hlevel props) (hlevel props) (hlevel props) (Π_prop (λ s. Π_prop (λ h. slot_set ℕ_set (is_set (symbol_set ℕ_set)) (G.slot s) empty))) (hlevel props) (hlevel props) (Π_prop (λ s. Π_prop (λ A. Π_prop (λ Ys. Π_prop (λ X. Π_prop (λ r. Π_prop (λ i. one_known G.terminals G.nonterminals X)))))))

pub one_sound : {G : Cfg} → IsProp (Sound G)
one_sound = sound_prop (hlevel props) (hlevel props) (Π_prop (λ s. Π_prop (λ s'. Π_prop (λ A. Π_prop (λ Ys. Π_prop (λ Ys'. Π_prop (λ n. hlevel props)))))))

pub one_levels : {G : Cfg} {level : ℕ → ℕ} → IsProp (Levels G level)
one_levels = levels_prop (hlevel props) (hlevel props)

pub one_choice : {G : Cfg} {chosen : ℕ → Next → Option ℕ} → IsProp (Chooses G chosen)
one_choice =
    chooses_prop (Π_prop (λ A. Π_prop (λ s. Π_prop (λ n. Π_prop (λ e. option_set _ _)))))
    (Π_prop (λ A. Π_prop (λ s. Π_prop (λ Ys. Π_prop (λ n. Π_prop (λ r. Π_prop (λ p. option_set _ _)))))))
    (Π_prop (λ A. Π_prop (λ t. Π_prop (λ o. option_set _ _))))

-- what a grammar owes has at most one proof
pub one_implements : {G : Cfg} {chosen : ℕ → Next → Option ℕ} {level : ℕ → ℕ} → IsProp (Implements G chosen level)
one_implements = implements_prop one_limits one_sound one_choice one_levels (hlevel props)

-- what is kept truncated can be had whole
pub kept_implements : {G : Cfg} {chosen : ℕ → Next → Option ℕ} {level : ℕ → ℕ} → ∥ Implements G chosen level ∥₁ → Implements G chosen level
kept_implements t = ∥∥₁_elim t one_implements (λ s. s)
