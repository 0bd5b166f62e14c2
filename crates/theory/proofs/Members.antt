-- Members of lists, lists in order, and lists without repeats. Assumes nothing.
use Rattle.std.proofs.Common.{◌≡◌, ℕ, zero, suc, ◌<◌, ◌≤◌, ◌⊎◌, List, [], ◌∷◌, ◌++◌, map, length, get_or, take, sym, refl, ap, ◌∙◌, subst, ap₂, inl, inr, arith}
use Rattle.theory.specs.Lists.{In, here, there, Sorted, Distinct, Before, first, later, Exactly}
use Rattle.theory.specs.Enumerate.{over, pairs}

-- a member of two lists in a row is a member of one
pub in_append : {E : Type 0} {w : E} (xs ys : List E) → In w (xs ++ ys) → In w xs ⊎ In w ys
in_append [] ys m = inr m
in_append (x ∷ xs) ys (here e) = inl (here e)
in_append {w = w} (x ∷ xs) ys (there m) = go (in_append xs ys m)
  where
    go : In w xs ⊎ In w ys → In w (x ∷ xs) ⊎ In w ys
    go (inl h) = inl (there h)
    go (inr h) = inr h

-- a member of the first of two lists in a row
pub in_left : {E : Type 0} {w : E} (xs ys : List E) → In w xs → In w (xs ++ ys)
in_left xs ys (here e) = here e
in_left xs ys (there {ys = zs} m) = there (in_left zs ys m)

-- a member of the second of two lists in a row
pub in_right : {E : Type 0} {w : E} (xs ys : List E) → In w ys → In w (xs ++ ys)
in_right [] ys m = m
in_right (x ∷ xs) ys m = there (in_right xs ys m)

-- a member by another name
pub in_cast : {E : Type 0} {w w' : E} (xs : List E) → w' ≡ w → In w xs → In w' xs
in_cast xs e (here p) = here (e ∙ p)
in_cast xs e (there {ys = zs} m) = there (in_cast zs e m)

-- the image of a member
pub in_map : {E F : Type 0} (f : E → F) {w : E} (xs : List E) → In w xs → In (f w) (map f xs)
in_map f xs (here e) = here (ap f e)
in_map f xs (there {ys = zs} m) = there (in_map f zs m)

-- y is the image of a member
pub record Mapped {E F : Type 0} (f : E → F) (xs : List E) (y : F) : Type 0 where
  pub from : E
  pub found : In from xs
  pub is : y ≡ f from

-- a member of the images is the image of a member
pub from_map : {E F : Type 0} (f : E → F) {w : F} (xs : List E) → In w (map f xs) → Mapped f xs w
from_map f [] m = elim m [ ]
from_map f (x ∷ xs) (here e) = record { from = x; found = here refl; is = e }
from_map f (x ∷ xs) (there m) = let h = from_map f xs m in record { from = h.from; found = there h.found; is = h.is }

-- w is a member of the list at one of the numbers
pub record Found {E : Type 0} (h : ℕ → List E) (js : List ℕ) (w : E) : Type 0 where
  pub at : ℕ
  pub listed : In at js
  pub found : In w (h at)

-- a member of the lists at some numbers is a member of one of them
pub from_over : {E : Type 0} (h : ℕ → List E) {w : E} (js : List ℕ) → In w (over h js) → Found h js w
unfolding over
from_over h [] m = elim m [ ]
from_over h {w} (j ∷ js) m = go (in_append (h j) (over h js) m) (λ n. from_over h js n)
  where
    go : In w (h j) ⊎ In w (over h js) → (In w (over h js) → Found h js w) → Found h (j ∷ js) w
    go (inl n) r = record { at = j; listed = here refl; found = n }
    go (inr n) r = let k = r n in record { at = k.at; listed = there k.listed; found = k.found }

-- a member of the list at one of the numbers
pub in_over : {E : Type 0} (h : ℕ → List E) {w : E} (j : ℕ) (js : List ℕ) → In j js → In w (h j) → In w (over h js)
unfolding over
in_over h {w} j js (here {y} {ys} e) n = in_left (h y) (over h ys) (subst (λ (i : ℕ). In w (h i)) e n)
in_over h j js (there {y} {ys} m) n = in_right (h y) (over h ys) (in_over h j ys m n)

-- a first part and a list of other parts
pub record Pair (us : List (List ℕ)) (vs : List (List (List ℕ))) (w : List (List ℕ)) : Type 0 where
  pub front : List ℕ
  pub back : List (List ℕ)
  pub front_in : In front us
  pub back_in : In back vs
  pub is : w ≡ front ∷ back

-- a first part before a list of other parts
pub in_pairs : {u : List ℕ} {v : List (List ℕ)} (us : List (List ℕ)) (vs : List (List (List ℕ))) → In u us → In v vs → In (u ∷ v) (pairs us vs)
unfolding pairs
in_pairs {u} {v} xs vs (here {y} {ys} e) n =
    in_left (map (λ (r : List (List ℕ)). y ∷ r) vs) (pairs ys vs)
    (in_cast (map (λ (r : List (List ℕ)). y ∷ r) vs) (ap {B = List (List ℕ)} (λ (r : List ℕ). r ∷ v) e) (in_map (λ (r : List (List ℕ)). y ∷ r) vs n))
in_pairs xs vs (there {y} {ys} m) n = in_right (map (λ (r : List (List ℕ)). y ∷ r) vs) (pairs ys vs) (in_pairs ys vs m n)

-- a member of the pairs has both
pub from_pairs : {w : List (List ℕ)} (us : List (List ℕ)) (vs : List (List (List ℕ))) → In w (pairs us vs) → Pair us vs w
unfolding pairs
from_pairs [] vs m = elim m [ ]
from_pairs {w} (x ∷ us) vs m = go (in_append (map (λ (r : List (List ℕ)). x ∷ r) vs) (pairs us vs) m) (λ h. from_pairs us vs h)
  where
    go : In w (map (λ (r : List (List ℕ)). x ∷ r) vs) ⊎ In w (pairs us vs) → (In w (pairs us vs) → Pair us vs w) → Pair (x ∷ us) vs w
    go (inl h) r =
        let k = from_map (λ (r : List (List ℕ)). x ∷ r) vs h in
        record { front = x; back = k.from; front_in = here refl; back_in = k.found; is = k.is }
    go (inr h) r = let k = r h in record { front = k.front; back = k.back; front_in = there k.front_in; back_in = k.back_in; is = k.is }

-- a list sorted by a relation is sorted by what follows from it
pub sorted_mono : {E : Type 0} (R R' : E → E → Type 0) (xs : List E) → ((a b : E) → In a xs → In b xs → R a b → R' a b) → Sorted R xs → Sorted R' xs
sorted_mono R R' [] h p = tt
sorted_mono R R' (x ∷ xs) h p =
    (λ y m. h x y (here refl) (there m) (p.0 y m), sorted_mono R R' xs (λ a b m n. h a b (there m) (there n)) p.1)

-- two sorted lists in a row, the first related to the second
pub sorted_append : {E : Type 0} (R : E → E → Type 0) (xs ys : List E) → Sorted R xs → Sorted R ys → ((a b : E) → In a xs → In b ys → R a b) → Sorted R (xs ++ ys)
sorted_append R [] ys p q h = q
sorted_append {E} R (x ∷ xs) ys p q h = (λ y m. go y (in_append xs ys m), sorted_append R xs ys p.1 q (λ a b m n. h a b (there m) n))
  where
    go : (y : E) → In y xs ⊎ In y ys → R x y
    go y (inl m) = p.0 y m
    go y (inr m) = h x y (here refl) m

-- the images of a sorted list
pub sorted_map : {E F : Type 0} (R : E → E → Type 0) (R' : F → F → Type 0) (f : E → F) (xs : List E) → Sorted R xs
    → ((a b : E) → In a xs → In b xs → R a b → R' (f a) (f b)) → Sorted R' (map f xs)
sorted_map R R' f [] p h = tt
sorted_map {F = F} R R' f (x ∷ xs) p h = (λ y m. go y m, sorted_map R R' f xs p.1 (λ a b m n. h a b (there m) (there n)))
  where
    go : (y : F) → In y (map f xs) → R' (f x) y
    go y m =
        let k = from_map f xs m in
        subst (λ (z : F). R' (f x) z) (sym k.is) (h x k.from (here refl) (there k.found) (p.0 k.from k.found))

-- pairs of sorted lists
pub sorted_pairs : (P : List ℕ → List ℕ → Type 0) (Q R : List (List ℕ) → List (List ℕ) → Type 0) (us : List (List ℕ)) (vs : List (List (List ℕ)))
    → Sorted P us → Sorted Q vs
    → ((u u' : List ℕ) (v v' : List (List ℕ)) → In u us → In u' us → P u u' → R (u ∷ v) (u' ∷ v'))
    → ((u : List ℕ) (v v' : List (List ℕ)) → Q v v' → R (u ∷ v) (u ∷ v')) → Sorted R (pairs us vs)
unfolding pairs
sorted_pairs P Q R [] vs p q f g = tt
sorted_pairs P Q R (u ∷ us) vs p q f g =
    sorted_append R (map (λ (r : List (List ℕ)). u ∷ r) vs) (pairs us vs)
    (sorted_map Q R (λ (r : List (List ℕ)). u ∷ r) vs q (λ a b m n h. g u a b h))
    (sorted_pairs P Q R us vs p.1 q (λ a b c d i j. f a b c d (there i) (there j)) g)
    (λ a b m n. go a b m n)
  where
    go : (a b : List (List ℕ)) → In a (map (λ (r : List (List ℕ)). u ∷ r) vs) → In b (pairs us vs) → R a b
    go a b m n =
        let k = from_map (λ (r : List (List ℕ)). u ∷ r) vs m in
        let l = from_pairs us vs n in
        subst (λ (z : List (List ℕ)). R z b) (sym k.is)
        (subst (λ (z : List (List ℕ)). R (u ∷ k.from) z) (sym l.is)
        (f u l.front k.from l.back (here refl) (there l.front_in) (p.0 l.front l.front_in)))

-- sorted lists at some numbers, each related to those at later numbers
pub sorted_over : {E : Type 0} (R : E → E → Type 0) (h : ℕ → List E) (js : List ℕ) → ((j : ℕ) → In j js → Sorted R (h j))
    → ((i j : ℕ) (a b : E) → Before i j js → In a (h i) → In b (h j) → R a b) → Sorted R (over h js)
unfolding over
sorted_over R h [] f g = tt
sorted_over R h (j ∷ js) f g =
    sorted_append R (h j) (over h js) (f j (here refl)) (sorted_over R h js (λ i m. f i (there m)) (λ i k a b o. g i k a b (later o)))
    (λ a b m n. let s = from_over h js n in g j s.at a b (first refl s.listed) m s.found)

-- what stands before something stands in the list
pub before_first : {E : Type 0} {x y : E} {l : List E} → Before x y l → In x l
before_first (first e m) = here e
before_first (later b) = there (before_first b)

-- what stands after something stands in the list
pub before_second : {E : Type 0} {x y : E} {l : List E} → Before x y l → In y l
before_second (first e m) = there m
before_second (later b) = there (before_second b)

-- in a list without repeats nothing stands before itself
pub before_apart : {E : Type 0} {x y : E} {l : List E} → Before x y l → Distinct l → x ≡ y → ⊥
before_apart {y = y} (first e m) d q = d.0 y m (sym e ∙ q)
before_apart (later b) d q = before_apart b d.1 q

-- in a list without repeats no two stand before each other
pub before_asymmetric : {E : Type 0} {x y : E} {l : List E} → Before x y l → Distinct l → Before y x l → ⊥
before_asymmetric {y = y} (first e m) d (first q n) = d.0 y m (sym q)
before_asymmetric {x = x} (first e m) d (later b) = d.0 x (before_second b) (sym e)
before_asymmetric {y = y} (later b) d (first q n) = d.0 y (before_second b) (sym q)
before_asymmetric (later b) d (later c) = before_asymmetric b d.1 c

module _ {E : Type 0} (R : E → E → Type 0) (irr : (a b : E) → R a b → a ≡ b → ⊥) (asy : (a b : E) → R a b → R b a → ⊥) where
  -- sorted lists with the same members are equal
  pub sorted_same : (xs ys : List E) → Sorted R xs → Sorted R ys → ((w : E) → In w xs → In w ys) → ((w : E) → In w ys → In w xs) → xs ≡ ys
  sorted_same [] [] p q f g = refl
  sorted_same [] (y ∷ ys) p q f g = elim (g y (here refl)) [ ]
  sorted_same (x ∷ xs) [] p q f g = elim (f x (here refl)) [ ]
  sorted_same (x ∷ xs) (y ∷ ys) p q f g =
      let e = head (f x (here refl)) (g y (here refl)) in
      ap₂ {B = List E} {C = List E} (λ (a : E) r. a ∷ r) e
      (sorted_same xs ys p.1 q.1 (λ w m. forth w m e (f w (there m))) (λ w m. back w m e (g w (there m))))
    where
      head : In x (y ∷ ys) → In y (x ∷ xs) → x ≡ y
      head (here e) n = e
      head (there m) (here e) = sym e
      head (there m) (there n) = absurd (asy x y (p.0 y n) (q.0 x m))

      forth : (w : E) → In w xs → x ≡ y → In w (y ∷ ys) → In w ys
      forth w m e (here d) = absurd (irr x w (p.0 w m) (e ∙ sym d))
      forth w m e (there n) = n

      back : (w : E) → In w ys → x ≡ y → In w (x ∷ xs) → In w xs
      back w m e (here d) = absurd (irr y w (q.0 w m) (sym e ∙ sym d))
      back w m e (there n) = n

  -- two members of a sorted list are equal or related
  pub sorted_total : (xs : List E) → Sorted R xs → (a b : E) → In a xs → In b xs → (a ≡ b) ⊎ (R a b ⊎ R b a)
  sorted_total [] p a b m n = elim m [ ]
  sorted_total (x ∷ xs) p a b (here d) (here e) = inl (d ∙ sym e)
  sorted_total (x ∷ xs) p a b (here d) (there n) = inr (inl (subst (λ (z : E). R z b) (sym d) (p.0 b n)))
  sorted_total (x ∷ xs) p a b (there m) (here e) = inr (inr (subst (λ (z : E). R z a) (sym e) (p.0 a m)))
  sorted_total (x ∷ xs) p a b (there m) (there n) = sorted_total xs p.1 a b m n

  -- among the members of a sorted list the relation is transitive
  pub sorted_transitive : (xs : List E) → Sorted R xs → (a b c : E) → In a xs → In b xs → In c xs → R a b → R b c → R a c
  sorted_transitive [] p a b c l m n i j = elim l [ ]
  sorted_transitive (x ∷ xs) p a b c (here d) m (here e) i j = absurd (asy a b i (subst (λ (z : E). R b z) (e ∙ sym d) j))
  sorted_transitive (x ∷ xs) p a b c (here d) m (there n) i j = subst (λ (z : E). R z c) (sym d) (p.0 c n)
  sorted_transitive (x ∷ xs) p a b c (there l) (here e) n i j = absurd (asy a b i (subst (λ (z : E). R z a) (sym e) (p.0 a l)))
  sorted_transitive (x ∷ xs) p a b c (there l) (there m) (here e) i j = absurd (asy b c j (subst (λ (z : E). R z b) (sym e) (p.0 b m)))
  sorted_transitive (x ∷ xs) p a b c (there l) (there m) (there n) i j = sorted_transitive xs p.1 a b c l m n i j

  -- a member of a sorted list that is related to the one at place k stands before that place
  pub in_prefix : (d : E) (xs : List E) → Sorted R xs → (k : ℕ) → k < length xs → (a : E) → In a xs → R a (get_or xs k d) → In a (take k xs)
  in_prefix d [] p k l a m r = elim m [ ]
  in_prefix d (x ∷ xs) p zero l a (here e) r = absurd (irr a x r e)
  in_prefix d (x ∷ xs) p zero l a (there m) r = absurd (asy a x r (p.0 a m))
  in_prefix d (x ∷ xs) p (suc k) l a (here e) r = here e
  in_prefix d (x ∷ xs) p (suc k) l a (there m) r = there (in_prefix d xs p.1 k (omega arith) a m r)

-- the member at a place
pub in_at : {E : Type 0} (d : E) (xs : List E) (k : ℕ) → k < length xs → In (get_or xs k d) xs
in_at d [] k l = absurd (omega arith)
in_at d (x ∷ xs) zero l = here refl
in_at d (x ∷ xs) (suc k) l = there (in_at d xs k (omega arith))

-- the place of a member
pub record Placed {E : Type 0} (d : E) (xs : List E) (w : E) : Type 0 where
  pub place : ℕ
  pub below : place < length xs
  pub is : get_or xs place d ≡ w

-- each member has a place
pub placed : {E : Type 0} (d : E) {w : E} (xs : List E) → In w xs → Placed d xs w
placed d [] m = elim m [ ]
placed d (x ∷ xs) (here e) = record { place = 0; below = omega arith; is = sym e }
placed d (x ∷ xs) (there m) = let r = placed d xs m in record { place = suc r.place; below = omega (arith, r.below); is = r.is }

-- a member of the first k is a member
pub from_take : {E : Type 0} {w : E} (k : ℕ) (xs : List E) → In w (take k xs) → In w xs
from_take zero xs m = elim m [ ]
from_take (suc k) [] m = elim m [ ]
from_take (suc k) (x ∷ xs) (here e) = here e
from_take (suc k) (x ∷ xs) (there m) = there (from_take k xs m)

-- the first k of a sorted list
pub sorted_take : {E : Type 0} (R : E → E → Type 0) (k : ℕ) (xs : List E) → Sorted R xs → Sorted R (take k xs)
sorted_take R zero xs p = tt
sorted_take R (suc k) [] p = tt
sorted_take R (suc k) (x ∷ xs) p = (λ y m. p.0 y (from_take k xs m), sorted_take R k xs p.1)

-- the first k of a sorted list are related to the one at place k
pub prefix_related : {E : Type 0} (R : E → E → Type 0) (d : E) (xs : List E) → Sorted R xs → (k : ℕ) → k < length xs → (a : E) → In a (take k xs)
    → R a (get_or xs k d)
prefix_related R d [] p k l a m = absurd (omega arith)
prefix_related R d (x ∷ xs) p zero l a m = elim m [ ]
prefix_related {E} R d (x ∷ xs) p (suc k) l a (here e) =
    subst (λ (z : E). R z (get_or xs k d)) (sym e) (p.0 (get_or xs k d) (in_at d xs k (omega arith)))
prefix_related R d (x ∷ xs) p (suc k) l a (there m) = prefix_related R d xs p.1 k (omega arith) a m

-- a list without the member at hand
without : {E : Type 0} {x : E} (ys : List E) → In x ys → List E
without (y ∷ ys) (here e) = ys
without (y ∷ ys) (there m) = y ∷ without ys m
without [] m = elim m [ ]

-- it is one shorter
length_without : {E : Type 0} {x : E} (ys : List E) (m : In x ys) → length ys ≡ suc (length (without ys m))
unfolding without
length_without (y ∷ ys) (here e) = refl
length_without (y ∷ ys) (there m) = ap suc (length_without ys m)
length_without [] m = elim m [ ]

-- every other member stays
in_without : {E : Type 0} {x w : E} (ys : List E) (m : In x ys) → (x ≡ w → ⊥) → In w ys → In w (without ys m)
unfolding without
in_without (y ∷ ys) (here e) ne (here d) = absurd (ne (e ∙ sym d))
in_without (y ∷ ys) (here e) ne (there n) = n
in_without (y ∷ ys) (there m) ne (here d) = here d
in_without (y ∷ ys) (there m) ne (there n) = there (in_without ys m ne n)
in_without [] m ne n = elim n [ ]

-- a list without repeats is no longer than one that has all its members
pub distinct_length : {E : Type 0} (xs ys : List E) → Distinct xs → ((w : E) → In w xs → In w ys) → length xs ≤ length ys
distinct_length [] ys d h = omega arith
distinct_length (x ∷ xs) ys d h =
    let m = h x (here refl) in
    let l = length_without ys m in
    let r = distinct_length xs (without ys m) d.1 (λ w i. in_without ys m (d.0 w i) (h w (there i))) in
    omega arith

-- only one number of things has a property
pub exactly_unique : {E : Type 0} {P : E → Type 0} (k k' : ℕ) → Exactly k P → Exactly k' P → k ≡ k'
exactly_unique k k' a b =
    let x = distinct_length a.all b.all a.once (λ w i. (b.just w).1 ((a.just w).0 i)) in
    let y = distinct_length b.all a.all b.once (λ w i. (a.just w).1 ((b.just w).0 i)) in
    let p = a.size in
    let q = b.size in
    omega arith

-- where any two things with the property are equal, at most one has it
pub exactly_one : {E : Type 0} {P : E → Type 0} (k : ℕ) → Exactly k P → ((x y : E) → P x → P y → x ≡ y) → k ≤ 1
exactly_one {E} {P} k a h = go a.all a.once (λ x m. (a.just x).0 m) a.size
  where
    go : (l : List E) → Distinct l → ((x : E) → In x l → P x) → length l ≡ k → k ≤ 1
    go [] d f e = omega arith
    go (x ∷ []) d f e = omega arith
    go (x ∷ y ∷ l) d f e = absurd (d.0 y (here refl) (h x y (f x (here refl)) (f y (there (here refl)))))
