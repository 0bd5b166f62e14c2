-- The lengths in ascending order, by their places. Assumes nothing.
use Rattle.std.proofs.Common.{◌≡◌, ℕ, zero, suc, ◌+◌, ◌<◌, ◌≤◌, cond, leb, get_or, sym, refl, ◌∙◌, ⊎_elim, arith}
use Rattle.std.proofs.lemmas.Bool.{cases_lt, le-leb, lt-leb}
use Rattle.theory.specs.Order.{counting_up, ascending}

-- the number at place i of n numbers from k on
counting_at : (k n i : ℕ) → i < n → get_or (counting_up k n) i 0 ≡ k + i
unfolding counting_up
counting_at k zero i l = absurd (omega arith)
counting_at k (suc n) zero l = omega arith
counting_at k (suc n) (suc i) l = counting_at (suc k) n i (omega arith) ∙ omega arith

-- there is none past the end
counting_past : (k n i : ℕ) → n ≤ i → get_or (counting_up k n) i 0 ≡ 0
unfolding counting_up
counting_past k zero i l = refl
counting_past k (suc n) zero l = absurd (omega arith)
counting_past k (suc n) (suc i) l = counting_past (suc k) n i (omega arith)

-- the length at place i
pub ascending_at : (m i : ℕ) → cond (leb i m) i 0 ≡ get_or (ascending m) i 0
ascending_at m i =
    ⊎_elim
    (λ l. rw (lt-leb i m l) (sym (counting_past 0 (suc m) i (omega arith))))
    (λ l. rw (le-leb i m l) (sym (counting_at 0 (suc m) i (omega arith) ∙ omega arith)))
    (cases_lt m i)
