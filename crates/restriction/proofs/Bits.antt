-- The lowest bit of a mask by `count_trailing_zeros`, and the mask of all bits. Assumes nothing.
use Rattle.std.proofs.Common.{◌≡◌, ℕ, zero, suc, ◌+◌, ◌-◌, ◌*◌, ◌/◌, ◌%◌, ◌^◌, ◌<◌, ◌≤◌, eqb, ltb, Some, None, sym, refl, ap, ◌∙◌, subst, not-suc-le-zero, lt_of_le_of_lt, mod-lt, mod-eq_of_lt, zero-lt-suc, mul_assoc, pow-suc, lt_of_not-le, div-mul-le_self, div-one, add-one, one-add, arith, pow_pos, pow-add, shr-shr, shr_lt}
use native.Mathlib.Nat.{zero-div}
use lib.Pow.{shl-shr, ones_lt, ones_split}
use lib.Bits.{shifted_even}
use lib.Count.{count_trailing_zeros, under}
use Rattle.std.proofs.lemmas.Bool.{and_from, lt-ltb, eq-eqb}
use Rattle.std.proofs.lemmas.Nat.{shr_high}
use Rattle.restriction.specs.Masks.{bit, all_bits, KeepsAll, LowestFrom}

-- ---- what `count_trailing_zeros` says of a number's bits

-- a bit above the lowest is a bit of the half
next_bit : (n k : ℕ) → bit n (suc k) ≡ bit (n / 2) k
next_bit n k = ap (λ x. x % 2) (ap (λ x. n / 2 ^ x) (sym (one-add k)) ∙ sym (shr-shr n 1 k))

-- the lowest bit
first_bit : (n : ℕ) → bit n 0 ≡ n % 2
first_bit n = ap (λ x. x % 2) (div-one n)

-- the bits below are not set
clear_below : (w n k : ℕ) → k < count_trailing_zeros w n → bit n k ≡ 0
unfolding count_trailing_zeros
clear_below zero n k h = absurd (not-suc-le-zero h)
clear_below (suc w) n k h = go (λ j. clear_below w (n / 2) j) (n % 2) refl k h
  where
    go : ((j : ℕ) → j < count_trailing_zeros w (n / 2) → bit (n / 2) j ≡ 0) → (d : ℕ) → n % 2 ≡ d → (k : ℕ) → k < under d (count_trailing_zeros w (n / 2)) → bit n k ≡ 0
    go ih zero e zero l = first_bit n ∙ e
    go ih zero e (suc j) l = next_bit n j ∙ ih j (omega arith)
    go ih (suc d) e k l = absurd (not-suc-le-zero l)

-- the bit there is set
set_there : (w n : ℕ) → 0 < n → n < 2 ^ w → (count_trailing_zeros w n < w) × (bit n (count_trailing_zeros w n) ≡ 1)
unfolding count_trailing_zeros
set_there zero n p h = absurd (omega arith)
set_there (suc w) n p h = go (set_there w (n / 2)) (n % 2) refl
  where
    go : (0 < n / 2 → n / 2 < 2 ^ w → (count_trailing_zeros w (n / 2) < w) × (bit (n / 2) (count_trailing_zeros w (n / 2)) ≡ 1)) → (d : ℕ) → n % 2 ≡ d
        → (under d (count_trailing_zeros w (n / 2)) < suc w) × (bit n (under d (count_trailing_zeros w (n / 2))) ≡ 1)
    go ih zero e =
        let half : n / 2 < 2 ^ w = shr_lt w 1 (rw add-one h) in
        let pos : 0 < n / 2 = omega arith in
        let at = ih pos half in
        (omega arith, next_bit n (count_trailing_zeros w (n / 2)) ∙ at.1)
    go ih (suc d) e = let lt = mod-lt n (zero-lt-suc 1) in (omega arith, first_bit n ∙ omega arith)

-- ---- the part of n at or above r, left where it stands

-- the bits of what is left after r are the bits from r on
from : (n r k : ℕ) → r ≤ k → bit n k ≡ bit (n / 2 ^ r) (k - r)
from n r k h =
    let e : r + (k - r) ≡ k = omega arith in
    ap (λ x. n / 2 ^ x % 2) (sym e) ∙ ap (λ x. x % 2) (sym (shr-shr n r (k - r)))

-- the part is no larger than n
pub part_fits : (n r : ℕ) → n < 2 ^ 64 → n / 2 ^ r * 2 ^ r % 2 ^ 64 ≡ n / 2 ^ r * 2 ^ r
part_fits n r b = mod-eq_of_lt (lt_of_le_of_lt (div-mul-le_self n (2 ^ r)) b)

-- from r on it has the bits of n
same_above : (n r k : ℕ) → r ≤ k → bit n k ≡ bit (n / 2 ^ r * 2 ^ r) k
same_above n r k h = from n r k h ∙ sym (from (n / 2 ^ r * 2 ^ r) r k h ∙ ap (λ x. bit x (k - r)) (shl-shr (n / 2 ^ r) r))

-- below r it has none
none_below : (a r j : ℕ) → j < r → bit (a * 2 ^ r) j ≡ 0
none_below a r j h =
    let d : ℕ = r - j - 1 in
    let e : suc d + j ≡ r = omega arith in
    ap (λ x. a * 2 ^ x / 2 ^ j % 2) (sym e)
    ∙ ap (λ x. a * x / 2 ^ j % 2) (pow-add 2 (suc d) j)
    ∙ ap (λ x. x / 2 ^ j % 2) (sym (mul_assoc a (2 ^ suc d) (2 ^ j)))
    ∙ ap (λ x. x % 2) (shl-shr (a * 2 ^ suc d) j)
    ∙ shifted_even a d

-- where the part is 0, no bit from r on is set
pub none_in_part : (n r x : ℕ) → x ≡ n / 2 ^ r * 2 ^ r → x ≡ 0 → LowestFrom n r None
none_in_part n r x e z k h l = same_above n r k h ∙ ap (λ y. bit y k) (sym e ∙ z) ∙ ap (λ y. y % 2) (zero-div (2 ^ k))

-- else its trailing zeros lead to the lowest bit from r on that is set
pub lowest_in_part : (n r x : ℕ) → n < 2 ^ 64 → x ≡ n / 2 ^ r * 2 ^ r → 0 < x → LowestFrom n r (Some (count_trailing_zeros 64 x))
lowest_in_part n r x b e p =
    let t : ℕ = count_trailing_zeros 64 x in
    let le : x ≤ n = subst (λ y. y ≤ n) (sym e) (div-mul-le_self n (2 ^ r)) in
    let there = set_there 64 x p (lt_of_le_of_lt le b) in
    let at : (k : ℕ) → bit x k ≡ bit (n / 2 ^ r * 2 ^ r) k = λ k. ap (λ y. bit y k) e in
    let above : r < suc t = lt_of_not-le (λ past. let z = at t ∙ none_below (n / 2 ^ r) r t past in omega arith) in
    let on : r ≤ t = omega arith in
    (on, there.0, same_above n r t on ∙ sym (at t) ∙ there.1, λ k h l. same_above n r k h ∙ sym (at k) ∙ clear_below 64 x k l)

-- ---- the mask of all bits

-- each of its bits is set
all_ones : (r : ℕ) → r < 64 → bit all_bits r ≡ 1
all_ones r h =
    let j : ℕ = 64 - r - 1 in
    let e : suc j + r ≡ 64 = omega arith in
    let s = ap (λ x. 2 ^ x - 1) (sym e) ∙ ones_split (suc j) r in
    let d = ap (λ x. x / 2 ^ r) s ∙ shr_high (2 ^ suc j - 1) r (2 ^ r - 1) (ones_lt r) in
    ap (λ x. x % 2) d ∙ omega (arith, pow-suc 2 j, pow_pos j)

-- it keeps every slot
pub keeps_all : KeepsAll all_bits
keeps_all r h = and_from (ltb r 64) (eqb (bit all_bits r) 1) (lt-ltb r 64 h) (eq-eqb (bit all_bits r) 1 (all_ones r h))
