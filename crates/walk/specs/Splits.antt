-- Sums over the lengths of a first part, and the place of a number in such a sum. Assumes nothing.
use Rattle.std.specs.Prelude.{◌≡◌, ℕ, ◌+◌, ◌-◌, ◌*◌, ◌<◌, List, [], ◌∷◌, length, take, slice_index}

-- the sum over the listed lengths j of f at j times h at m - j
unfoldable pub sum_listed : (ℕ → ℕ) → (ℕ → ℕ) → ℕ → List ℕ → ℕ
sum_listed f h m [] = 0
sum_listed f h m (j ∷ js) = f j * h (m - j) + sum_listed f h m js

-- k stands in the sum over js at place i: the first part has the length j and the rank q, the rest behind it the rank r
pub record SplitAt (f h : ℕ → ℕ) (m : ℕ) (js : List ℕ) (k i j q r : ℕ) : Type 0 where
  pub listed : i < length js
  pub is_length : j ≡ slice_index js i
  pub first : q < f j
  pub rest : r < h (m - j)
  pub is : k ≡ sum_listed f h m (take i js) + (q * h (m - j) + r)
