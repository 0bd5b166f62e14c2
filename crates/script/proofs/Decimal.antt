-- Decimal numerals, digit by digit.
use Rattle.std.proofs.Common.{◌≡◌, ℕ, ◌+◌, ◌-◌, ◌*◌, ◌<◌, ◌≤◌, List, [], ◌∷◌, length, get_or, drop, sym, refl, ap, ◌∙◌, arith}
use Rattle.std.proofs.lemmas.List.{at_drop_all, at_drop_more}
use Rattle.script.specs.Text.{Digit, decimal_after, Numeral}

-- more digits make no smaller number
decimal_le : (n : ℕ) (ds : List ℕ) → n ≤ decimal_after n ds
decimal_le n [] = omega arith
decimal_le n (d ∷ ds) = let h = decimal_le (n * 10 + (d - 48)) ds in omega arith

-- one digit more
pub one_digit : (w : List ℕ) (i value v : ℕ) → i < length w → v ≡ value * 10 + (get_or w i 0 - 48) → decimal_after v (drop (i + 1) w) ≡ decimal_after value (drop i w)
one_digit w i value v l e = ap (λ (n : ℕ). decimal_after n (drop (i + 1) w)) e ∙ sym (at_drop_more (decimal_after value) w i 0 l)

-- a front of the digits that is too large, or is followed by no digit
pub too_large : (w : List ℕ) (i value : ℕ) → i < length w → decimal_after value (drop i w) ≡ decimal_after 0 w → (Digit (get_or w i 0) → value * 10 + (get_or w i 0 - 48) ≤ 18446744073709551615 → ⊥) → (v : ℕ) → Numeral w v × (v ≤ 18446744073709551615) → ⊥
too_large w i value l e h v n = let g = one_digit w i value _ l refl in let f = decimal_le (value * 10 + (get_or w i 0 - 48)) (drop (i + 1) w) in let x = n.0.value in h (n.0.digits i l) (omega arith)

-- all digits are read
pub finished : (w : List ℕ) (i value : ℕ) → 0 < length w → length w ≤ i → ((k : ℕ) → k < i → Digit (get_or w k 0)) → decimal_after value (drop i w) ≡ decimal_after 0 w → Numeral w value
finished w i value p l d e = record { some = p; digits = λ k h. d k (omega arith); value = sym (at_drop_all (decimal_after value) w i l) ∙ e }
