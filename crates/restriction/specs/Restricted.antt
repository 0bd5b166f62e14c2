-- The grammar below with only the slots that a mask keeps, its choice, and what setting the mask answers. Assumes nothing.
use Rattle.std.specs.Prelude.{◌≡◌, ℕ, cond, Some, None, Ok, Err, Option, Result}
use Rattle.fault.specs.declared.Fault.{Fault}
use Rattle.fault.specs.declared.Fault.TheVariants.{SettingRefused}
use Rattle.theory.specs.Grammar.{Cfg, empty}
use Rattle.restriction.specs.Masks.{keeps, LowestFrom}

-- the grammar with only the slots that the mask keeps; the others are empty
abbrev pub kept_slots : Cfg → ℕ → Cfg
kept_slots G m =
    record { terminals = G.terminals; nonterminals = G.nonterminals; start = G.start; slots = G.slots; slot = λ s. cond (keeps m s) (G.slot s) empty }

-- a choice that falls on an emptied slot is none
abbrev pub kept_choice : ℕ → Option ℕ → Option ℕ
kept_choice m None = None
kept_choice m (Some s) = cond (keeps m s) (Some s) None

-- what setting the mask m over R slots answers, and the mask before and after: a bit at or above R is refused at the lowest such bit
abbrev pub MaskSet : (R m before after : ℕ) → Result Unit Fault → Type 0
MaskSet R m before after (Ok _) = LowestFrom m R None × (after ≡ m)
MaskSet R m before after (Err f) = ((p : ℕ) × LowestFrom m R (Some p) × (f ≡ SettingRefused p)) × (after ≡ before)
