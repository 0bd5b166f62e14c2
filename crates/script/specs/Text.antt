-- Words between single spaces, and decimal numerals.
use Rattle.std.specs.Prelude.{◌≡◌, ℕ, ◌+◌, ◌-◌, ◌*◌, ◌<◌, ◌≤◌, List, [], ◌∷◌, length, slice_index}
use Rattle.std.specs.List.{join_with_byte}

-- words joined by single spaces
abbrev pub spaced : List (List ℕ) → List ℕ
spaced words = join_with_byte 32 words

-- a byte is a decimal digit
abbrev pub Digit : ℕ → Type 0
Digit b = (48 ≤ b) × (b ≤ 57)

-- the number that digits write after the number n
abbrev pub decimal_after : ℕ → List ℕ → ℕ
decimal_after n [] = n
decimal_after n (b ∷ bs) = decimal_after (n * 10 + (b - 48)) bs

-- a word of one digit or more writes the number v
pub record Numeral (word : List ℕ) (v : ℕ) : Type 0 where
  pub some : 0 < length word
  pub digits : (i : ℕ) → i < length word → Digit (slice_index word i)
  pub value : v ≡ decimal_after 0 word
