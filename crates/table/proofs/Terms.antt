-- Sums of products where one factor is mostly 0.
use Rattle.std.proofs.Common.{◌≡◌, ℕ, zero, suc, ◌-◌, ◌*◌, ◌^◌, ◌<◌, ◌≤◌, sym, refl, ap, ◌∙◌, le_refl, one-mul, mul-zero, zero-mul, mul-one, add-one, arith}
use Rattle.std.proofs.lemmas.Bool.{ne_eqb}
use Rattle.theory.specs.Count.{one_at, sum_upward, sum_splits}
use Rattle.theory.proofs.Counting.{upward_more}

-- a term whose first factor is 0
no_first : (f h : ℕ → ℕ) (m j : ℕ) → f j ≡ 0 → f j * h (m - j) ≡ 0
no_first f h m j e = ap (λ (x : ℕ). x * h (m - j)) e ∙ zero-mul (h (m - j))

-- the sum of a terminal and a rest has one term
terminal_terms : (h : ℕ → ℕ) (m n : ℕ) → sum_upward (one_at 1) h m (suc (suc n)) ≡ h (m - 1)
unfolding sum_upward
terminal_terms h m zero = omega (arith, zero-mul (h (m - 0)), one-mul (h (m - 1)))
terminal_terms h m (suc n) =
    let i = terminal_terms h m n in
    let ne : (suc (suc n) ≡ 1) → ⊥ = λ e. omega arith in
    let z = no_first (one_at 1) h m (suc (suc n)) (rw (ne_eqb (suc (suc n)) 1 ne)) in
    omega arith

pub terminal_none : (h : ℕ → ℕ) (m : ℕ) → m ≡ 0 → sum_splits (one_at 1) h m ≡ 0
unfolding sum_upward
terminal_none h zero e = omega (arith, zero-mul (h (0 - 0)))
terminal_none h (suc m) e = absurd (omega arith)

terminal_more : (h : ℕ → ℕ) (m : ℕ) → 0 < m → sum_splits (one_at 1) h m ≡ h (m - 1)
terminal_more h zero l = absurd (omega arith)
terminal_more h (suc m) l = rw add-one (terminal_terms h (suc m) m)

-- a terminal needs one token, and leaves the rest all others
pub terminal_before : (h : ℕ → ℕ) (m b v : ℕ) → 1 ≤ m → b ≡ m - 1 → h b ≡ v → sum_splits (one_at 1) h m ≡ v
terminal_before h m b v l e q = terminal_more h m (omega arith) ∙ ap h (sym e) ∙ q

-- the sum of a symbol and the empty rest has one term
last_terms : (f : ℕ → ℕ) (m n : ℕ) → n ≤ m → sum_upward f (one_at 0) m n ≡ 0
unfolding sum_upward
last_terms f m zero l = refl
last_terms f m (suc n) l =
    let i = last_terms f m n (omega arith) in
    let ne : (m - n ≡ 0) → ⊥ = λ e. omega arith in
    let z : one_at 0 (m - n) ≡ 0 = rw (ne_eqb (m - n) 0 ne) in
    let p : f n * one_at 0 (m - n) ≡ 0 = ap (λ (x : ℕ). f n * x) z ∙ mul-zero (f n) in
    omega arith

pub last_sum : (f : ℕ → ℕ) (m : ℕ) → sum_splits f (one_at 0) m ≡ f m
last_sum f m =
    let i = last_terms f m m (le_refl m) in
    let e : m - m ≡ 0 = omega arith in
    let p : f m * one_at 0 (m - m) ≡ f m = ap (λ (x : ℕ). f m * one_at 0 x) e ∙ mul-one (f m) in
    upward_more f (one_at 0) m m ∙ omega arith

-- a sum that is known, below the limit
pub known_sum : (n v : ℕ) → n ≡ v → v < 2 ^ 63 → (v ≡ n) × (n < 2 ^ 63)
known_sum n v e l = (sym e, omega arith)
