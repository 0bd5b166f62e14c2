-- The parse goes through exactly for what the symbols derive, where each nonterminal is followed by what may follow it. Assumes nothing.
use Rattle.std.proofs.Common.{◌≡◌, ℕ, List, [], ◌∷◌, ◌++◌, Option, sym, refl, ap, ◌∙◌, subst, append_assoc, append-nil}
use Rattle.theory.specs.Grammar.{Symbol, nonterminal, Cfg, Derives, done, read, expand, Sentence}
use Rattle.theory.specs.Sets.{Next, next_of, FollowOrEnd}
use Rattle.theory.specs.Count.{right_of}
use Rattle.theory.proofs.Unique.{FitsIn, context, predicts, fits_tail, fits_slot, fits_one}
use Rattle.theory.proofs.Rewriting.{derives_back}
use Rattle.theory.proofs.Counting.{is_rule}
use Rattle.grammar.specs.Interface.{Chooses, Implements}
use Rattle.parser.specs.Parser.{GoesThrough, finished, matched, replaced, StopsAfter}
use Rattle.parser.specs.Laws.{GoesThroughExactlyForSentences}
use Rattle.parser.proofs.Deterministic.{not_both}

module _ {G : Cfg} {chosen : ℕ → Next → Option ℕ} (c : Chooses G chosen) where
  -- the parse goes through what symbols derive, and on through what stands behind them
  pub derives_through : {Xs : List Symbol} {u : List ℕ} → Derives G Xs u → (K : Next → Type 0) → FitsIn G K Xs → (Zs : List Symbol) (x : List ℕ) → K (next_of x)
      → GoesThrough G chosen Zs x → GoesThrough G chosen (Xs ++ Zs) (u ++ x)
  derives_through done K g Zs x k p = p
  derives_through (read e d) K g Zs x k p = matched e (derives_through d K (fits_tail g) Zs x k p)
  derives_through (expand {A} {Xs} {x = y} s Ys u v h e d₁ d₂) K g Zs x k p =
      let f = g [] Xs A refl in
      let m = context {K = K} v A d₂ f.0 f.1 x k in
      let i = derives_through d₂ K (fits_tail g) Zs x k p in
      let j = derives_through d₁ (FollowOrEnd G A) (fits_slot s A Ys h) (Xs ++ Zs) (v ++ x) m i in
      let q : y ++ x ≡ u ++ (v ++ x) = ap {B = List ℕ} (λ (r : List ℕ). r ++ x) e ∙ append_assoc u v x in
      subst (λ (r : List ℕ). GoesThrough G chosen (nonterminal A ∷ (Xs ++ Zs)) r) (sym q)
      (replaced s (c.predicted A s Ys (next_of (u ++ (v ++ x))) h (predicts s A u h d₁ (v ++ x) m))
      (subst (λ (Ws : List Symbol). GoesThrough G chosen (Ws ++ (Xs ++ Zs)) (u ++ (v ++ x))) (sym (ap right_of h)) j))

  -- symbols derive what the parse goes through
  pub through_derives : {Xs : List Symbol} {w : List ℕ} → GoesThrough G chosen Xs w → Derives G Xs w
  through_derives finished = done
  through_derives (matched e p) = read e (through_derives p)
  through_derives (replaced {A} {Xs} {w} s e p) =
      derives_back s A (right_of (G.slot s)) (is_rule (G.slot s) (c.own A s (next_of w) e)) [] Xs (through_derives p)

  -- the parse goes through each sentence
  pub sentence_through : {A : ℕ} {w : List ℕ} → Sentence G A w → GoesThrough G chosen (nonterminal A ∷ []) w
  sentence_through {A} {w} d =
      subst (λ (r : List ℕ). GoesThrough G chosen (nonterminal A ∷ []) r) (append-nil w)
      (derives_through d (FollowOrEnd G A) (fits_one A) [] [] tt finished)

  -- so it stops at none
  pub sentence_never_stops : {A k : ℕ} {w : List ℕ} → Sentence G A w → StopsAfter G chosen (nonterminal A ∷ []) w k → ⊥
  sentence_never_stops d q = not_both (sentence_through d) q

-- the parse goes through exactly for the sentences
pub goes_through_exactly_for_sentences : {G : Cfg} {chosen : ℕ → Next → Option ℕ} {level : ℕ → ℕ} → Implements G chosen level → GoesThroughExactlyForSentences G chosen
goes_through_exactly_for_sentences i = record {
  from_start = λ w. (through_derives i.choice, sentence_through i.choice);
  from_each = λ A w. (through_derives i.choice, sentence_through i.choice);
}
