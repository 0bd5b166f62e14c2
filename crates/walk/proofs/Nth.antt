-- The k-th entry of lists in a row, of the lists at some numbers, and of pairs. Assumes nothing.
use Rattle.std.proofs.Common.{◌≡◌, ℕ, zero, suc, ◌+◌, ◌*◌, ◌<◌, List, [], ◌∷◌, ◌++◌, map, length, get_or, take, sym, refl, ap, ◌∙◌, ap₂, append-nil, arith, length-append}
use lib.ListN.{length-map}
use Rattle.std.proofs.lemmas.List.{get_or_append_left, get_or-append-add, get_or-map}
use Rattle.theory.specs.Lists.{In, here, there, Distinct}
use Rattle.theory.specs.Enumerate.{over, pairs}

-- entry k of two lists in a row, past the first
pub nth_past : {E : Type 0} (d : E) (xs ys : List E) (k r : ℕ) → k ≡ length xs + r → get_or (xs ++ ys) k d ≡ get_or ys r d
nth_past {E} d xs ys k r e = ap {B = E} (λ (n : ℕ). get_or (xs ++ ys) n d) e ∙ get_or-append-add xs ys r d

-- the lists at some numbers, of which entry x of the one at place i is entry k
pub nth_over : {E : Type 0} (d : E) (h : ℕ → List E) (js : List ℕ) (i x k : ℕ) → i < length js → x < length (h (get_or js i 0)) → k ≡ length (over h (take i js)) + x
    → get_or (over h js) k d ≡ get_or (h (get_or js i 0)) x d
unfolding over
nth_over d h [] i x k l o e = absurd (omega arith)
nth_over {E} d h (j ∷ js) zero x k l o e =
    let q : k ≡ x = omega arith in
    ap {B = E} (λ (n : ℕ). get_or (h j ++ over h js) n d) q ∙ get_or_append_left (h j) (over h js) d x o
nth_over d h (j ∷ js) (suc i) x k l o e =
    let a = length-append (h j) (over h (take i js)) in
    let n : ℕ = length (over h (take i js)) + x in
    nth_past d (h j) (over h js) k n (omega arith) ∙ nth_over d h js i x n (omega arith) o refl

-- entry q of the first parts with entry r of the other parts
pub nth_pairs : (us : List (List ℕ)) (vs : List (List (List ℕ))) (q r : ℕ) → q < length us → r < length vs
    → get_or (pairs us vs) (q * length vs + r) [] ≡ get_or us q [] ∷ get_or vs r []
unfolding pairs
nth_pairs [] vs q r l o = absurd (omega arith)
nth_pairs (u ∷ us) vs zero r l o =
    let f = λ (v : List (List ℕ)). u ∷ v in
    let a = length-map vs f in
    let z : zero * length vs + r ≡ r = omega arith in
    ap {B = List (List ℕ)} (λ (n : ℕ). get_or (map f vs ++ pairs us vs) n []) z
    ∙ get_or_append_left (map f vs) (pairs us vs) [] r (omega arith)
    ∙ get_or-map f vs r [] [] o
nth_pairs (u ∷ us) vs (suc q) r l o =
    let f = λ (v : List (List ℕ)). u ∷ v in
    let a = length-map vs f in
    nth_past [] (map f vs) (pairs us vs) (suc q * length vs + r) (q * length vs + r) (omega arith) ∙ nth_pairs us vs q r (omega arith) o

-- no first parts, or no other parts: no pairs
pub pairs_none : (us : List (List ℕ)) → pairs us [] ≡ []
unfolding pairs
pairs_none [] = refl
pairs_none (u ∷ us) = pairs_none us

-- each first part alone
pub pairs_alone : (us : List (List ℕ)) → pairs us ([] ∷ []) ≡ map (λ (u : List ℕ). u ∷ []) us
unfolding pairs
pairs_alone [] = refl
pairs_alone (u ∷ us) = ap {B = List (List (List ℕ))} (λ (r : List (List (List ℕ))). (u ∷ []) ∷ r) (pairs_alone us)

-- one first part before each list of other parts
pub pairs_one : (u : List ℕ) (vs : List (List (List ℕ))) → pairs (u ∷ []) vs ≡ map (λ (v : List (List ℕ)). u ∷ v) vs
unfolding pairs
pairs_one u vs = append-nil (map (λ (v : List (List ℕ)). u ∷ v) vs)

-- empty lists at all the numbers
pub over_none : {E : Type 0} (h : ℕ → List E) (js : List ℕ) → ((j : ℕ) → In j js → h j ≡ []) → over h js ≡ []
unfolding over
over_none h [] z = refl
over_none {E} h (j ∷ js) z = ap₂ {C = List E} (λ (xs ys : List E). xs ++ ys) (z j (here refl)) (over_none h js (λ i m. z i (there m)))

-- empty lists at all the numbers but one
pub over_one : {E : Type 0} (h : ℕ → List E) (x : ℕ) (js : List ℕ) → Distinct js → In x js → ((j : ℕ) → In j js → (j ≡ x → ⊥) → h j ≡ []) → over h js ≡ h x
unfolding over
over_one h x [] d m z = elim m [ ]
over_one {E} h x (j ∷ js) d (here e) z =
    let rest = over_none h js (λ i n. z i (there n) (λ (q : i ≡ x). d.0 i n (sym e ∙ sym q))) in
    ap₂ {C = List E} (λ (xs ys : List E). xs ++ ys) (ap {B = List E} h (sym e)) rest ∙ append-nil (h x)
over_one {E} h x (j ∷ js) d (there m) z =
    ap₂ {C = List E} (λ (xs ys : List E). xs ++ ys) (z j (here refl) (d.0 x m)) (over_one h x js d.1 m (λ i n. z i (there n)))
