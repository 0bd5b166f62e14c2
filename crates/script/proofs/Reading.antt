-- Reading arguments from the words of a line.
use Rattle.std.proofs.Common.{◌≡◌, ℕ, zero, suc, ◌<◌, ◌≤◌, Bool, true, false, List, [], ◌∷◌, length, get_or, map, set, take, drop, refl, ap, subst, arith, length-drop, MatchOption, Decides}
use Rattle.std.specs.Bool.{then_some}
use Rattle.std.proofs.lemmas.List.{length-map, nil_from_length, take_all}
use Rattle.std.proofs.lemmas.Slice.Zip.{AllZip-long}
use Rattle.script.specs.Says.{number, Writes, WriteAll}
use Rattle.script.specs.Shapes.{Refused, numbers}

-- numbers have a word each
numbers_long : (limit : ℕ) (vs : List ℕ) (ws : List (List ℕ)) → WriteAll (map (number limit) vs) ws → length ws ≡ length vs
numbers_long limit vs ws h = omega (arith, AllZip-long Writes (map (number limit) vs) ws h, length-map vs (number limit))

-- number i is written by the first word after i words
number_at : (limit : ℕ) (vs : List ℕ) (ws : List (List ℕ)) (i : ℕ) (w : List ℕ) (rest : List (List ℕ)) → drop i ws ≡ w ∷ rest → i < length vs → WriteAll (map (number limit) vs) ws → Writes (number limit (get_or vs i 0)) w
number_at limit [] ws i w rest e l h = absurd (omega arith)
number_at limit (v ∷ vs) [] i w rest e l h = absurd h
number_at limit (v ∷ vs) (x ∷ ws) zero w rest e l h = let p : x ≡ w = cc in subst (λ (y : List ℕ). Writes (number limit v) y) p h.0
number_at limit (v ∷ vs) (x ∷ ws) (suc i) w rest e l h = number_at limit vs ws i w rest e (omega arith) h.1

-- fewer words than numbers
pub too_few : (limit n i : ℕ) (ws : List (List ℕ)) → drop i ws ≡ [] → i < n → Refused (numbers n limit) ws
too_few limit n i ws e l vs s h = omega (arith, length-drop i ws, ap length e, numbers_long limit vs ws h)

-- a word that is no number
pub no_number : (limit n i : ℕ) (ws : List (List ℕ)) (w : List ℕ) (rest : List (List ℕ)) → drop i ws ≡ w ∷ rest → i < n → ((v : ℕ) → Writes (number limit v) w → ⊥) → Refused (numbers n limit) ws
no_number limit n i ws w rest e l r vs s h = r (get_or vs i 0) (number_at limit vs ws i w rest e (omega arith) h)

-- the words after one more
pub left_after : (i : ℕ) (ws : List (List ℕ)) (w : List ℕ) (rest : List (List ℕ)) → drop i ws ≡ w ∷ rest → rest ≡ drop (suc i) ws
left_after zero [] w rest e = cc
left_after (suc i) [] w rest e = cc
left_after zero (x ∷ ws) w rest e = cc
left_after (suc i) (x ∷ ws) w rest e = left_after i ws w rest e

-- one number more
pub one_more : (limit i v : ℕ) (vs : List ℕ) (ws : List (List ℕ)) (w : List ℕ) (rest : List (List ℕ)) → drop i ws ≡ w ∷ rest → i < length vs → Writes (number limit v) w → WriteAll (map (number limit) (take i vs)) (take i ws) → WriteAll (map (number limit) (take (suc i) (set vs i v))) (take (suc i) ws)
one_more limit i v [] ws w rest e l p h = absurd (omega arith)
one_more limit zero v (u ∷ vs) [] w rest e l p h = cc
one_more limit (suc i) v (u ∷ vs) [] w rest e l p h = cc
one_more limit zero v (u ∷ vs) (x ∷ ws) w rest e l p h = let q : w ≡ x = cc in (subst (λ (y : List ℕ). Writes (number limit v) y) q p, tt)
one_more limit (suc i) v (u ∷ vs) (x ∷ ws) w rest e l p h = (h.0, one_more limit i v vs ws w rest e (omega arith) p h.1)

-- the numbers after the last word that was read
pub all_numbers : (limit n i : ℕ) (vs : List ℕ) (ws : List (List ℕ)) (b : Bool) → n ≤ i → length vs ≡ n → WriteAll (map (number limit) (take i vs)) (take i ws) → Decides b (drop i ws ≡ []) → MatchOption (then_some b vs) (Refused (numbers n limit) ws) (λ us. WriteAll (map (number limit) us) ws)
all_numbers limit n i vs ws true l s h d = let e = ap length (d.0 refl) in rw (← take_all i vs (omega arith), ← take_all i ws (omega (arith, length-drop i ws))) h
all_numbers limit n i vs ws false l s h d = λ us t k. let m = d.1 (nil_from_length (drop i ws) (omega (arith, length-drop i ws, numbers_long limit us ws k))) in cc

-- three numbers, one by one
pub three_numbers : (limit : ℕ) (vs : List ℕ) (ws : List (List ℕ)) → length vs ≡ 3 → WriteAll (map (number limit) vs) ws → WriteAll (number limit (get_or vs 0 0) ∷ number limit (get_or vs 1 0) ∷ number limit (get_or vs 2 0) ∷ []) ws
three_numbers limit (a ∷ b ∷ v ∷ []) ws l h = h
three_numbers limit [] ws l h = absurd (omega arith)
three_numbers limit (a ∷ []) ws l h = absurd (omega arith)
three_numbers limit (a ∷ b ∷ []) ws l h = absurd (omega arith)
three_numbers limit (a ∷ b ∷ v ∷ u ∷ vs) ws l h = absurd (omega arith)

-- one number, read from the only word
pub one_number : (limit v : ℕ) (w : List ℕ) (ws rest : List (List ℕ)) (b : Bool) → ws ≡ w ∷ rest → Writes (number limit v) w → Decides b (rest ≡ []) → MatchOption (then_some b v) (Refused (numbers 1 limit) ws) (λ u. WriteAll (number limit u ∷ []) ws)
one_number limit v w ws rest true e h d = let p : ws ≡ w ∷ [] = cc (d.0 refl) in rw p (h, tt)
one_number limit v w ws rest false e h d = λ vs l k. let m = d.1 (nil_from_length rest (omega (arith, ap length e, numbers_long limit vs ws k))) in cc
