-- Sums over listed lengths, and the place of a number in such a sum. Assumes nothing.
use Rattle.std.proofs.Common.{◌≡◌, ℕ, zero, suc, ◌+◌, ◌-◌, ◌*◌, ◌/◌, ◌%◌, ◌<◌, ◌≤◌, List, [], ◌∷◌, ◌++◌, length, get_or, take, refl, ap, ◌∙◌, ap₂, ⊎_elim, mod-lt, div-lt_iff_lt-mul, mul-zero, div-add-mod', arith}
use lib.Arith.{digits_lt}
use Rattle.std.proofs.lemmas.List.{take_more, take_all}
use Rattle.std.proofs.lemmas.Bool.{cases_lt}
use Rattle.theory.specs.Lists.{In, here, there}
use Rattle.walk.specs.Splits.{sum_listed, SplitAt}

-- a sum over no lengths
pub listed_none : (f h : ℕ → ℕ) (m : ℕ) → sum_listed f h m [] ≡ 0
unfolding sum_listed
listed_none f h m = refl

-- a sum over two lists in a row
listed_append : (f h : ℕ → ℕ) (m : ℕ) (is js : List ℕ) → sum_listed f h m (is ++ js) ≡ sum_listed f h m is + sum_listed f h m js
unfolding sum_listed
listed_append f h m [] js = omega arith
listed_append f h m (i ∷ is) js = omega (arith, listed_append f h m is js)

-- one more listed length adds one product
pub listed_more : (f h : ℕ → ℕ) (m : ℕ) (js : List ℕ) (i : ℕ) → i < length js
    → sum_listed f h m (take (i + 1) js) ≡ sum_listed f h m (take i js) + f (get_or js i 0) * h (m - get_or js i 0)
unfolding sum_listed
listed_more f h m js i l =
    ap (λ (is : List ℕ). sum_listed f h m is) (take_more js i 0 l) ∙ listed_append f h m (take i js) (get_or js i 0 ∷ []) ∙ omega arith

-- the sum over some of the first lengths is at most the sum over all
pub listed_le : (f h : ℕ → ℕ) (m : ℕ) (js : List ℕ) (i : ℕ) → sum_listed f h m (take i js) ≤ sum_listed f h m js
unfolding sum_listed
listed_le f h m js zero = omega arith
listed_le f h m [] (suc i) = omega arith
listed_le f h m (j ∷ js) (suc i) = omega (arith, listed_le f h m js i)

-- the sum over the first lengths and the product of the next one are at most the sum over all
pub listed_next_le : (f h : ℕ → ℕ) (m : ℕ) (js : List ℕ) (i : ℕ) → i < length js
    → sum_listed f h m (take i js) + f (get_or js i 0) * h (m - get_or js i 0) ≤ sum_listed f h m js
listed_next_le f h m js i l = omega (arith, listed_more f h m js i l, listed_le f h m js (i + 1))

-- one product is at most the sum over all
pub product_le : (f h : ℕ → ℕ) (m : ℕ) (js : List ℕ) (i : ℕ) → i < length js → f (get_or js i 0) * h (m - get_or js i 0) ≤ sum_listed f h m js
product_le f h m js i l = omega (arith, listed_next_le f h m js i l)

-- sums whose terms agree at the listed lengths
pub listed_same : (f f' h h' : ℕ → ℕ) (m : ℕ) (js : List ℕ) → ((j : ℕ) → In j js → f j * h (m - j) ≡ f' j * h' (m - j)) → sum_listed f h m js ≡ sum_listed f' h' m js
unfolding sum_listed
listed_same f f' h h' m [] e = refl
listed_same f f' h h' m (j ∷ js) e =
    ap₂ {C = ℕ} (λ (x y : ℕ). x + y) (e j (here refl)) (listed_same f f' h h' m js (λ i n. e i (there n)))

-- a number that is left after the first i products, where it is below the sum over all, is left inside the list
pub split_inside : (f h : ℕ → ℕ) (m : ℕ) (js : List ℕ) (i k x : ℕ) → k ≡ sum_listed f h m (take i js) + x → k < sum_listed f h m js → i < length js
split_inside f h m js i k x e l =
    ⊎_elim
    (λ (o : i < length js). o)
    (λ o. absurd (omega (arith, ap (λ (is : List ℕ). sum_listed f h m is) (take_all i js o))))
    (cases_lt i (length js))

-- where a product is above something, its right factor is above 0
pub right_factor_positive : (x a b : ℕ) → x < a * b → 0 < b
right_factor_positive x a zero l = absurd (omega (arith, mul-zero a))
right_factor_positive x a (suc b) l = omega arith

-- where x is left after the first i products and is below the next product, quotient and remainder give the ranks of the two parts
pub split_by_division : (f h : ℕ → ℕ) (m : ℕ) (js : List ℕ) (k i j x : ℕ) → i < length js → j ≡ get_or js i 0 → x < f j * h (m - j)
    → k ≡ sum_listed f h m (take i js) + x → SplitAt f h m js k i j (x / h (m - j)) (x % h (m - j))
split_by_division f h m js k i j x l e o s =
    let pos = right_factor_positive x (f j) (h (m - j)) o in
    record {
      listed = l;
      is_length = e;
      first = (div-lt_iff_lt-mul pos).1 o;
      rest = mod-lt x pos;
      is = omega (arith, div-add-mod' x (h (m - j)));
    }

-- what stands behind the products before place i is below the product there
pub split_low : {f h : ℕ → ℕ} {m : ℕ} {js : List ℕ} {k i j q r : ℕ} → SplitAt f h m js k i j q r → q * h (m - j) + r < f j * h (m - j)
split_low s = digits_lt s.first s.rest

-- a number with a place in the sum is below the sum
pub split_below : {f h : ℕ → ℕ} {m : ℕ} {js : List ℕ} {k i j q r : ℕ} → SplitAt f h m js k i j q r → k < sum_listed f h m js
split_below {f} {h} {m} {js} {k} {i} {j} {q} {r} s =
    let e = ap {B = ℕ} (λ (x : ℕ). f x * h (m - x)) s.is_length in
    omega (arith, split_low s, s.is, listed_next_le f h m js i s.listed)
