-- A line without its line end.
use Rattle.std.proofs.Common.{◌≡◌, ◌≢◌, ℕ, ◌+◌, ◌-◌, true, false, eqb, List, [], ◌∷◌, ◌++◌, length, take, drop, Some, None, Option, ap, ◌∙◌, append_assoc, Bor, MatchOption, unwrap_or}
use Rattle.std.specs.Cmp.Lexicographic.{pointwise}
use Rattle.std.proofs.lemmas.Bool.Decides.{Decides-eqb}
use Rattle.std.proofs.lemmas.Slice.Eq.{strip_suffix_is}
use Rattle.script.specs.LineEnd.{LineEndOff, lf, cr_lf}

-- what `strip_suffix` gives of a text at one byte
abbrev pub Strips : List ℕ → ℕ → Option (Bor (List ℕ)) → Type 0
Strips s b r = MatchOption r (pointwise eqb (drop (length s - 1) s) (b ∷ []) ≡ false) (λ x. (pointwise eqb (drop (length s - 1) s) (b ∷ []) ≡ true) × (x.now ≡ take (length s - 1) s) × (length x.now + 1 ≡ length s))

before_lf : (line : List ℕ) (text : Bor (List ℕ)) (o : Option (Bor (List ℕ))) → line ≡ text.now ++ (10 ∷ []) → MatchOption o ((front : List ℕ) → text.now ≢ front ++ (13 ∷ [])) (λ x. text.now ≡ x.now ++ (13 ∷ [])) → LineEndOff line (unwrap_or o text).now
before_lf line text None e h = lf e (λ p. h p.0 p.1)
before_lf line text (Some front) e h = cr_lf (e ∙ ap (λ (x : List ℕ). x ++ (10 ∷ [])) h ∙ append_assoc front.now (13 ∷ []) (10 ∷ []))

-- a text before LF, without the CR at its end, if it has one
pub line_end_off : (line : List ℕ) (text r : Bor (List ℕ)) (p o : Option (Bor (List ℕ))) → r ≡ unwrap_or o text → p ≡ Some text → Strips line 10 p → Strips text.now 13 o → LineEndOff line r.now
line_end_off line text r p o e f g h =
    rw e (before_lf line text o (strip_suffix_is Decides-eqb line (10 ∷ []) (Some text) (rw f at g)) (strip_suffix_is Decides-eqb text.now (13 ∷ []) o h))
