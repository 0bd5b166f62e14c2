-- The words of a text: cutting it at its spaces and joining words by spaces undo each other.
use Rattle.std.proofs.Common.{◌≡◌, ℕ, ◌+◌, ◌-◌, ◌<◌, Bool, true, false, cond, not, eqb, List, [], ◌∷◌, length, take, drop, Some, None, Option, is_some, position, refl, sym, ap, ◌∙◌, subst, arith, Bor, Decides}
use Rattle.std.specs.List.{All, position_or_len}
use Rattle.std.proofs.lemmas.Bool.{ltb-false}
use Rattle.std.proofs.lemmas.List.Elements.{All-head, All-tail}
use Rattle.std.proofs.lemmas.List.Quantifiers.{position-Some}
use Rattle.std.proofs.lemmas.List.Splits.{length-slice_split, slice_split_at, slice_split_first, slice_split_none}
use Rattle.std.proofs.lemmas.List.Sums.{fails_before_first, position_or_len_is}
use Rattle.std.proofs.lemmas.List.{take_rest}
use Rattle.script.specs.Text.{spaced}
use Rattle.script.specs.Cut.{cut, unread_of}

-- a byte is a space
abbrev pub space : ℕ → Bool
space b = eqb b 32

-- no byte of a word is a space
abbrev pub Plain : List ℕ → Type 0
Plain w = All (λ b. space b ≡ false) w

-- a text has a word
pub cut_some : (t : List ℕ) → 0 < length (cut t)
cut_some t = omega (arith, length-slice_split space t)

-- words without spaces, joined and cut again
pub cut_spaced : (w : List ℕ) (ws : List (List ℕ)) → All Plain (w ∷ ws) → cut (spaced (w ∷ ws)) ≡ w ∷ ws
cut_spaced w [] h = slice_split_none space w (All-head Plain w [] h)
cut_spaced w (v ∷ vs) h = slice_split_at space w 32 (spaced (v ∷ vs)) (All-head Plain w (v ∷ vs) h) refl ∙ ap (λ (x : List (List ℕ)). w ∷ x) (cut_spaced v vs (All-tail Plain w (v ∷ vs) h))

-- the first word of a text with a space, and the others
pub cut_at : (t : List ℕ) (i : ℕ) → position space t ≡ Some i → cut t ≡ take i t ∷ cut (drop (i + 1) t)
cut_at t i e =
    let h = position-Some space t i 0 e in
    let p : position_or_len space t ≡ i = position_or_len_is space t i 0 (omega arith) h.2 (λ l. h.1) in
    subst (λ (n : ℕ). cut t ≡ take n t ∷ cut (drop (n + 1) t)) p (slice_split_first space t 0 (omega arith))

fails : (b : Bool) (i : ℕ) → cond b (Some i) None ≡ None → b ≡ false
fails true i e = cc
fails false i e = refl

-- the only word of a text without a space
pub cut_all : (t : List ℕ) → position space t ≡ None → cut t ≡ t ∷ []
cut_all t e = let l = ltb-false (position_or_len space t) (length t) (fails _ _ e) in slice_split_none space t (λ k d h. fails_before_first space t k d (omega arith))

-- all words are read where no text is left
pub all_read : (o : Option (Bor (List ℕ))) (b : Bool) → is_some o ≡ not b → Decides b (unread_of o ≡ [])
all_read None true e = (λ h. refl, λ h. refl)
all_read None false e = cc
all_read (Some t) true e = cc
all_read (Some t) false e = (λ h. cc, λ h. let l = cut_some t.now in absurd (omega (arith, ap length h)))

-- the next word of a text with a space
pub next_word : (o : Option (Bor (List ℕ))) (t : Bor (List ℕ)) (i : ℕ) → o ≡ Some t → position space t.now ≡ Some i → unread_of o ≡ take i t.now ∷ cut (take (length t.now - (i + 1)) (drop (i + 1) t.now))
next_word o t i e h = ap unread_of e ∙ cut_at t.now i h ∙ ap (λ (x : List ℕ). take i t.now ∷ cut x) (sym (take_rest t.now (i + 1)))

-- the last word of a text
pub last_word : (o q : Option (Bor (List ℕ))) (t : Bor (List ℕ)) → o ≡ Some t → q ≡ None → position space t.now ≡ None → unread_of o ≡ t.now ∷ unread_of q
last_word o q t e f h = ap unread_of e ∙ cut_all t.now h ∙ ap (λ (x : List (List ℕ)). t.now ∷ x) (sym (ap unread_of f))
