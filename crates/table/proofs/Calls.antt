-- What the calls answer, by how they end.
use Rattle.std.proofs.Common.{◌≡◌, ℕ, ◌+◌, ◌*◌, Bool, false, List, length, Some, None, Ok, Err, Decides, Option, Result, refl, ⊎_elim, arith, MatchResult}
use Rattle.std.proofs.lemmas.Bool.{cases_lt}
use Rattle.fault.specs.declared.Fault.{Fault}
use Rattle.theory.specs.Grammar.{Cfg}
use Rattle.theory.specs.Sound.{Ll1}
use Rattle.table.specs.Rows.{needed, Room}
use Rattle.table.specs.Counts.{SoundTable}
use Rattle.table.specs.Calls.{NoRoom, NeededAnswer, Counted, CountRefused, CountAnswer, CheckRefused, no_room, broken, CheckAnswer}
use Rattle.table.specs.CountsOf.{CountsOf}
use Rattle.table.specs.Checked.{Short, Enough, Sufficient, Insufficient, Usable, Unusable, insufficient, CheckedAnswer}
use Rattle.table.specs.Checked as checked
use Rattle.table.specs.declared.counts.Counts.{Counts}
use Rattle.table.specs.declared.Lent.{Lent}
use Rattle.table.proofs.Solution.{sound_obeys, sound_fits, room_enough, fit_counts}

-- the cells that a table needs
pub needed_answer : {G : Cfg} {L : ℕ} {t : List ℕ} (r : Result ℕ Fault) → MatchResult r (λ n. Room G L t × (n ≡ needed G L)) (NoRoom G L (length t)) → NeededAnswer G L t r
needed_answer (Ok n) h = record { answer = h; exactly = (λ e. h.0, λ o. refl) }
needed_answer (Err f) h = record { answer = h; exactly = (λ e. let z : ◌≡◌ {A = ℕ} 0 1 = cc in absurd (omega arith), λ o. absurd (room_enough o h)) }

-- a sound table is not refused
sound_passes : {G : Cfg} {level : ℕ → ℕ} {L : ℕ} {t : List ℕ} {f : Fault} → Ll1 G level → Room G L t → SoundTable G L t → CheckRefused G L t f → ⊥
sound_passes ll r s (no_room n) = room_enough r n
sound_passes ll r s (broken i o b) = b.broken (sound_obeys ll s b.row b.at b.is_row b.short)

module _ {G : Cfg} {level : ℕ → ℕ} (ll : Ll1 G level) {L : ℕ} {T : Type 0} where
  -- counting
  pub count_answer : {t u : List ℕ} (r : Result T Fault) → MatchResult r (λ _. Counted G L t u) (CountRefused G L t u) → CountAnswer G L t u r
  count_answer (Ok x) h = record { answer = h; exactly = (λ e. (h.room, sound_fits ll h.sound), λ o. refl) }
  count_answer (Err f) h = record { answer = h; exactly = (λ e. let z : ◌≡◌ {A = ℕ} 0 1 = cc in absurd (omega arith), λ o. absurd (fit_counts o.0 o.1 h)) }

  -- the check
  pub check_answer : {t : List ℕ} (r : Result T Fault) → MatchResult r (λ _. Room G L t × SoundTable G L t) (CheckRefused G L t) → CheckAnswer G L t r
  check_answer (Ok x) h = record { answer = h; exactly = (λ e. h, λ o. refl) }
  check_answer (Err f) h = record { answer = h; exactly = (λ e. let z : ◌≡◌ {A = ℕ} 0 1 = cc in absurd (omega arith), λ o. absurd (sound_passes ll o.0 o.1 h)) }

-- a memory that is not short is enough
pub enough : (lent : Option ℕ) {n k : ℕ} {b : Bool} → k ≡ n → Decides b (Short lent k) → b ≡ false → Enough lent n
enough None e d f = tt
enough (Some a) {n} {k} e d f = ⊎_elim (λ l. let z : ◌≡◌ {A = ℕ} 0 1 = cc (d.1 l, f) in absurd (omega arith)) (λ l. omega arith) (cases_lt a k)

-- a memory that is enough is not short
not_short : (lent : Option ℕ) (n : ℕ) → Enough lent n → Short lent n → ⊥
not_short None n e s = s
not_short (Some a) n e s = omega arith

-- where lengths and memory are sufficient, they are not insufficient
suffices : {G : Cfg} {L : ℕ} {t : List ℕ} {n : ℕ} {lent : Lent} {f : Fault} → Sufficient G L t n lent → Insufficient G L t n lent f → ⊥
suffices s (checked.no_room l r) = room_enough s.room r
suffices s (checked.too_long l o) = omega (arith, s.short)
suffices {G} {n = n} {lent} s (checked.short_stack r l o) = not_short lent.stack ((n + 1) * G.nonterminals) s.stack o
suffices {n = n} {lent} s (checked.short_output r l e o) = not_short lent.output n s.output o

module _ {G : Cfg} {level : ℕ → ℕ} (ll : Ll1 G level) {L : ℕ} {t : List ℕ} {n : ℕ} {lent : Lent} where
  -- a table that may be used is not refused
  usable_passes : {f : Fault} → Usable G L t n lent → Unusable G L t n lent f → ⊥
  usable_passes u (insufficient i) = suffices u.sufficient i
  usable_passes u (checked.broken i s b) = b.broken (sound_obeys ll u.sound b.row b.at b.is_row b.short)

  -- the check before a call
  pub checked_answer : (r : Result Counts Fault) → MatchResult r (λ counts. Usable G L t n lent × CountsOf G L t counts) (Unusable G L t n lent) → CheckedAnswer G L t n lent r
  checked_answer (Ok x) h = record { answer = h; exactly = (λ e. h.0, λ o. refl) }
  checked_answer (Err f) h = record { answer = h; exactly = (λ e. let z : ◌≡◌ {A = ℕ} 0 1 = cc in absurd (omega arith), λ o. absurd (usable_passes o h)) }

-- what refuses a call that uses no memory over sentences of length 0 refuses the check
pub check_refused : {G : Cfg} {L : ℕ} {t : List ℕ} {f : Fault} → Unusable G L t 0 (record { stack = None; output = None }) f → CheckRefused G L t f
check_refused (insufficient (checked.no_room l r)) = no_room r
check_refused (insufficient (checked.too_long l o)) = absurd (omega arith)
check_refused (insufficient (checked.short_stack r l o)) = absurd o
check_refused (insufficient (checked.short_output r l e o)) = absurd o
check_refused (checked.broken i s b) = broken i s.room b
