-- The measure falls with every step: a position further, a frame opened, a frame closed. Assumes nothing.
use Rattle.std.proofs.Common.{◌≡◌, ℕ, suc, ◌+◌, ◌-◌, ◌*◌, ◌^◌, ◌<◌, ◌≤◌, List, ◌∷◌, length, ap, mul-le-mul_right, arith}
use native.Mathlib.Nat.{pow-succ', pow-le-pow_right}
use Rattle.theory.specs.Grammar.{Cfg}
use Rattle.theory.specs.Sound.{Limits}
use Rattle.table.proofs.Sides.{side_six}
use Rattle.walk.specs.Depth.{Place, side_of, front_of, next_place}
use Rattle.walk.specs.Measure.{symbols_left, weight, measure}

eights_pos : (c : ℕ) → 0 < 8 ^ c
eights_pos c = let one : 8 ^ 0 ≤ 8 ^ c = pow-le-pow_right (omega arith) {i = 0} {j = c} (omega arith) in omega arith

module _ (G : Cfg) (most : ℕ) (p : Place) (ps : List Place) where
  -- one position further
  pub further_falls : p.position < length (side_of G p) → measure G most (next_place p ∷ ps) < measure G most (p ∷ ps)
  unfolding weight
  further_falls l =
      let c = most - length (p ∷ ps) in
      let digit : symbols_left G p ≡ symbols_left G (next_place p) + 1 = omega arith in
      omega (arith, ap (λ (d : ℕ). d * 8 ^ c) digit, eights_pos c)

  -- a frame opened
  pub open_falls : Limits G → (s : ℕ) → p.position < length (side_of G p) → length (p ∷ ps) < most
      → measure G most (front_of s ∷ next_place p ∷ ps) < measure G most (p ∷ ps)
  unfolding weight
  open_falls limits s l room =
      let c = most - length (front_of s ∷ next_place p ∷ ps) in
      let up : most - length (p ∷ ps) ≡ suc c = omega arith in
      let digit : symbols_left G p ≡ symbols_left G (next_place p) + 1 = omega arith in
      let seven : symbols_left G (front_of s) ≤ 7 = omega (arith, side_six limits s) in
      let small : symbols_left G (front_of s) * 8 ^ c ≤ 7 * 8 ^ c = mul-le-mul_right (8 ^ c) seven in
      omega (arith, ap (λ (d : ℕ). d * 8 ^ suc c) digit, ap (λ (x : ℕ). weight G x (p ∷ ps)) up, pow-succ' 8 c, eights_pos c)

  -- a frame closed
  pub close_falls : p.position ≤ length (side_of G p) → length (p ∷ ps) ≤ most → measure G most ps < measure G most (p ∷ ps)
  unfolding weight
  close_falls l room =
      let c = most - length (p ∷ ps) in
      let up : most - length ps ≡ suc c = omega arith in
      let one : 1 ≤ symbols_left G p = omega arith in
      let large : 1 * 8 ^ c ≤ symbols_left G p * 8 ^ c = mul-le-mul_right (8 ^ c) one in
      omega (arith, ap (λ (x : ℕ). weight G x ps) up, eights_pos c)
