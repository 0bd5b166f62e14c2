-- The bits of a mask of 64 bits. Assumes nothing.
use Rattle.std.specs.Prelude.{◌≡◌, ℕ, ◌-◌, ◌/◌, ◌%◌, ◌^◌, ◌<◌, ◌≤◌, Bool, true, ◌&&◌, Some, None, Option, ◌==◌, nat_lt}

-- bit r of m, of weight 2 to the r
abbrev pub bit : ℕ → ℕ → ℕ
bit m r = m / 2 ^ r % 2

-- the mask keeps slot r: its bit r is set
abbrev pub keeps : ℕ → ℕ → Bool
keeps m r = nat_lt r 64 && bit m r == 1

-- the mask with all 64 bits set
abbrev pub all_bits : ℕ
all_bits = 2 ^ 64 - 1

-- every one of the 64 bits is set
abbrev pub KeepsAll : ℕ → Type 0
KeepsAll m = (r : ℕ) → r < 64 → keeps m r ≡ true

-- the lowest bit of m that is set among those from r on, or none
abbrev pub LowestFrom : ℕ → ℕ → Option ℕ → Type 0
LowestFrom m r (Some p) = (r ≤ p) × (p < 64) × (bit m p ≡ 1) × ((k : ℕ) → r ≤ k → k < p → bit m k ≡ 0)
LowestFrom m r None = (k : ℕ) → r ≤ k → k < 64 → bit m k ≡ 0
