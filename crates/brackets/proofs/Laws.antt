-- The sentences of the bracket family. Assumes nothing.
use Rattle.std.proofs.Common.{◌≡◌, ℕ, ◌+◌, ◌<◌, List, [], ◌∷◌, ◌++◌, sym, refl, ◌∙◌, subst, append-nil, arith}
use Rattle.std.proofs.lemmas.Bool.{lt-ltb, le-ltb, eq-eqb}
use Rattle.theory.specs.Grammar.{Symbol, RuleAt, Derives, done, read, expand, Sentence}
use Rattle.theory.proofs.Parts.{join}
use Rattle.theory.proofs.Unique.{sentence}
use Rattle.brackets.specs.Brackets.{bracket_side, bracket_grammar}
use Rattle.brackets.specs.Laws.{Bracketed, nothing, pair, SentencesAreBrackets}
use Rattle.brackets.specs.Facts.{Form, form}
use Rattle.brackets.specs.Facts as facts

module _ (k : ℕ) where
  -- a sentence by the empty right-hand side is empty
  by_nothing : {w u v : List ℕ} → w ≡ u ++ v → Derives (bracket_grammar k) [] u → Derives (bracket_grammar k) [] v → Bracketed k w
  by_nothing e done done = nothing e

  -- a sentence by a pair
  by_pair : {w u v : List ℕ} (i : ℕ) → i < k → w ≡ u ++ v → Derives (bracket_grammar k) (bracket_side k i) u → Derives (bracket_grammar k) [] v → Bracketed k w
  by_pair {w} i l e (read {a = a} {w = x} p (expand s Ys u v r f d (read {a = b} {w = y} q d'))) done =
      let h : w ≡ i ∷ (u ++ ((k + i) ∷ y)) = cc (append-nil (a ∷ x)) in pair i u y l h (sentence s Ys r d) d'

  -- a sentence is of one of the two forms
  pub sentence_form : (w : List ℕ) → Sentence (bracket_grammar k) 0 w → Bracketed k w
  sentence_form w (expand s Ys u v r e d d') = go (form k s 0 Ys r)
    where
      go : Form k s 0 Ys → Bracketed k w
      go (facts.pair l z y) = by_pair s l e (subst (λ (Zs : List Symbol). Derives (bracket_grammar k) Zs u) y d) d'
      go (facts.nothing l z y) = by_nothing e (subst (λ (Zs : List Symbol). Derives (bracket_grammar k) Zs u) y d) d'

  -- slot i holds a pair
  pair_rule : (i : ℕ) → i < k → RuleAt (bracket_grammar k) i 0 (bracket_side k i)
  pair_rule i l = rw (lt-ltb i k l)

  -- slot k is the empty right-hand side
  empty_rule : RuleAt (bracket_grammar k) k 0 []
  empty_rule = rw (le-ltb k k (omega arith), eq-eqb k k refl)

  -- both forms are sentences
  pub form_sentence : (w : List ℕ) → Bracketed k w → Sentence (bracket_grammar k) 0 w
  form_sentence w (nothing e) = expand k [] [] [] empty_rule e done done
  form_sentence w (pair i u v l e d d') =
      expand i (bracket_side k i) (i ∷ (u ++ ((k + i) ∷ v))) [] (pair_rule i l) (e ∙ sym (append-nil (i ∷ (u ++ ((k + i) ∷ v))))) (read refl (join d (read refl d') refl)) done

-- the sentences of the bracket family
pub sentences_are_brackets : SentencesAreBrackets
sentences_are_brackets k w = (sentence_form k w, form_sentence k w)
