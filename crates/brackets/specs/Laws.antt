-- The law of the bracket family, as the contract cites it.
use Rattle.std.specs.Prelude.{◌≡◌, ℕ, ◌+◌, ◌<◌, ◌↔◌, List, [], ◌∷◌, ◌++◌}
use Rattle.theory.specs.Grammar.{Sentence}
use Rattle.brackets.specs.Brackets.{bracket_grammar}

-- w is empty, or it is a pair of kind i with a sentence inside and a sentence after it
pub data Bracketed (k : ℕ) (w : List ℕ) : Type 0 where
  nothing : w ≡ [] → Bracketed k w
  pair : (i : ℕ) (u v : List ℕ) → i < k → w ≡ i ∷ (u ++ ((k + i) ∷ v)) → Sentence (bracket_grammar k) 0 u → Sentence (bracket_grammar k) 0 v → Bracketed k w

-- the sentences of k kinds of brackets are these and no other
abbrev pub SentencesAreBrackets : Type 0
SentencesAreBrackets = (k : ℕ) (w : List ℕ) → Sentence (bracket_grammar k) 0 w ↔ Bracketed k w
