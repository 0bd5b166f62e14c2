-- What a write at an index leaves of what holds below it and past it.
use Rattle.std.proofs.Common.{◌≡◌, ℕ, ◌+◌, ◌<◌, ◌≤◌, ◌≢◌, List, length, get_or, set, replicate, ⊎_elim, arith, get_or-set_other, get_or-set_same, below_more}
use lib.ListN.{length-replicate}
use Rattle.std.proofs.lemmas.List.{get_or-replicate, get_or_past}
use Rattle.std.proofs.lemmas.Bool.{cases_lt}

-- what holds of each element below i, and of the one written at i
pub below_set : (P : ℕ → ℕ → Type 0) (s : List ℕ) (i v : ℕ) → i < length s → ((k : ℕ) → k < i → P k (get_or s k 0)) → P i v
    → (k : ℕ) → k < i + 1 → P k (get_or (set s i v) k 0)
below_set P s i v lt below here =
    below_more (λ k. P k (get_or (set s i v) k 0)) i
    (λ k h. let ne : k ≢ i = omega arith in rw get_or-set_other (below k h))
    (rw get_or-set_same here)

-- a list of zeros reads as 0 everywhere
pub zeros_at : (n k : ℕ) → get_or {A = ℕ} (replicate n 0) k 0 ≡ 0
zeros_at n k =
    let e = length-replicate {A = ℕ} n 0 in
    ⊎_elim (λ l. get_or-replicate n k 0 0 l) (λ l. get_or_past {X = ℕ} (replicate n 0) k 0 (omega arith)) (cases_lt k n)

-- a write at i leaves the zeros past it
pub past_write : (s : List ℕ) (i k v : ℕ) → ((q : ℕ) → i ≤ q → get_or s q 0 ≡ 0) → i + 1 ≤ k → get_or (set s i v) k 0 ≡ 0
past_write s i k v h l = let ne : k ≢ i = omega arith in rw get_or-set_other (h k (omega arith))
