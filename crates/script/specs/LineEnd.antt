-- A line without its line end.
use Rattle.std.specs.Prelude.{◌≡◌, ℕ, List, [], ◌∷◌, ◌++◌}

-- the last byte of a text is b
abbrev pub EndsIn : ℕ → List ℕ → Type 0
EndsIn b t = (u : List ℕ) × (t ≡ u ++ (b ∷ []))

-- what is left of a line without its line end: all of it, if it does not end in LF; else what stands before CR LF, if it ends so;
-- else what stands before LF
pub data LineEndOff (line text : List ℕ) : Type 0 where
  no_end : line ≡ text → (EndsIn 10 line → ⊥) → LineEndOff line text
  lf : line ≡ text ++ (10 ∷ []) → (EndsIn 13 text → ⊥) → LineEndOff line text
  cr_lf : line ≡ text ++ (13 ∷ 10 ∷ []) → LineEndOff line text
