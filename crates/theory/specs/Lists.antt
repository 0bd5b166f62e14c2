-- Lists: membership, order of places, and how many things have a property. Assumes nothing.
use Rattle.std.specs.Prelude.{◌≡◌, ℕ, ◌↔◌, List, [], ◌∷◌, ◌++◌, length, ◌≢◌}

-- x stands in the list
pub data In {E : Type 0} (x : E) : List E → Type 0 where
  here : {y : E} {ys : List E} → x ≡ y → In x (y ∷ ys)
  there : {y : E} {ys : List E} → In x ys → In x (y ∷ ys)

-- each element is related by R to every later one
abbrev pub Sorted : {E : Type 0} → (E → E → Type 0) → List E → Type 0
Sorted R [] = Unit {0}
Sorted {E} R (x ∷ xs) = ((y : E) → In y xs → R x y) × Sorted R xs

-- no element stands twice
abbrev pub Distinct : {E : Type 0} → List E → Type 0
Distinct {E} xs = Sorted (λ (x y : E). x ≢ y) xs

-- x stands before y
pub data Before {E : Type 0} (x y : E) : List E → Type 0 where
  first : {z : E} {zs : List E} → x ≡ z → In y zs → Before x y (z ∷ zs)
  later : {z : E} {zs : List E} → Before x y zs → Before x y (z ∷ zs)

-- P holds of exactly k things: some list without repeats holds just those, and its length is k
pub record Exactly {E : Type 0} (k : ℕ) (P : E → Type 0) : Type 0 where
  pub all : List E
  pub once : Distinct all
  pub just : (x : E) → In x all ↔ P x
  pub size : length all ≡ k

-- the lists of a list, one after the other
abbrev pub joined : {E : Type 0} → List (List E) → List E
joined [] = []
joined (x ∷ xs) = x ++ joined xs
