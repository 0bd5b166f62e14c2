-- Every parse ends, by levels and the number of tokens, and in one way. Assumes nothing.
use Rattle.std.proofs.Common.{◌≡◌, ℕ, zero, suc, ◌+◌, ◌*◌, ◌<◌, ◌≤◌, ◌⊎◌, List, [], ◌∷◌, ◌++◌, length, Some, None, Option, refl, subst, inl, inr, ⊎_elim, append-nil, arith}
use Rattle.std.proofs.lemmas.Bool.{cases_eq}
use Rattle.theory.specs.Grammar.{Symbol, terminal, nonterminal, Cfg, RuleAt}
use Rattle.theory.specs.Sets.{Nullable, none, next, Next, token, end, next_of, Leads, at_front, past}
use Rattle.theory.specs.Sound.{Levels}
use Rattle.theory.specs.Count.{right_of}
use Rattle.theory.proofs.Counting.{is_rule}
use Rattle.grammar.specs.Interface.{Chooses, Implements}
use Rattle.parser.specs.Parser.{GoesThrough, finished, matched, replaced, StopsAfter, tokens_left, other_token, no_choice, after_match, after_replacement}
use Rattle.parser.specs.Laws.{EndsInOneWay}
use Rattle.parser.proofs.Deterministic.{not_both, one_place, within}

-- equal tokens have one number
same_token : {a t : ℕ} → token a ≡ token t → a ≡ t
same_token e = cc

-- the end is no token
end_no_token : {t : ℕ} → end ≡ token t → ⊥
end_no_token e = let z : ◌≡◌ {A = ℕ} 0 1 = cc in omega arith

module _ {G : Cfg} {chosen : ℕ → Next → Option ℕ} {level : ℕ → ℕ} (c : Chooses G chosen) (l : Levels G level) where
  -- the parse goes through or stops
  Ended : List Symbol → List ℕ → Type 0
  Ended Xs w = GoesThrough G chosen Xs w ⊎ ((k : ℕ) × StopsAfter G chosen Xs w k)

  -- with no symbols left it has ended
  ended_none : (w : List ℕ) → Ended [] w
  unfolding Ended
  ended_none [] = inl finished
  ended_none (a ∷ w) = inr (0, tokens_left)

  -- a terminal at the front
  ended_terminal : (t : ℕ) (Xs : List Symbol) (a : ℕ) (w : List ℕ) → Ended Xs w → Ended (terminal t ∷ Xs) (a ∷ w)
  unfolding Ended
  ended_terminal t Xs a w r = ⊎_elim same other (cases_eq a t)
    where
      same : a ≡ t → GoesThrough G chosen (terminal t ∷ Xs) (a ∷ w) ⊎ ((k : ℕ) × StopsAfter G chosen (terminal t ∷ Xs) (a ∷ w) k)
      same e = ⊎_elim (λ p. inl (matched e p)) (λ q. inr (suc q.0, after_match e q.1)) r

      other : (a ≡ t → ⊥) → GoesThrough G chosen (terminal t ∷ Xs) (a ∷ w) ⊎ ((k : ℕ) × StopsAfter G chosen (terminal t ∷ Xs) (a ∷ w) k)
      other ne = inr (0, other_token (λ e. ne (same_token e)))

  -- a nonterminal at the front
  ended_nonterminal : (A : ℕ) (Xs : List Symbol) (w : List ℕ) → ((s : ℕ) → RuleAt G s A (right_of (G.slot s)) → Ended (right_of (G.slot s) ++ Xs) w)
      → Ended (nonterminal A ∷ Xs) w
  unfolding Ended
  ended_nonterminal A Xs w h = go (chosen A (next_of w)) refl
    where
      go : (o : Option ℕ) → chosen A (next_of w) ≡ o → GoesThrough G chosen (nonterminal A ∷ Xs) w ⊎ ((k : ℕ) × StopsAfter G chosen (nonterminal A ∷ Xs) w k)
      go None e = inr (0, no_choice e)
      go (Some s) e =
          ⊎_elim (λ p. inl (replaced s e p)) (λ q. inr (q.0, after_replacement s e q.1))
          (h s (is_rule (G.slot s) (c.own A s (next_of w) e)))

  -- f is past the tokens and the levels of what leads the symbols
  record Enough (f : ℕ) (Ys : List Symbol) (w : List ℕ) : Type 0 where
    pub tokens : 16 * length w ≤ f
    pub leading : (B : ℕ) → Leads G Ys B → 16 * length w + level B < f

  -- with a token less it is
  enough_less : (f : ℕ) (Ys : List Symbol) (v w : List ℕ) → length v < length w → 16 * length w ≤ f → Enough f Ys v
  enough_less f Ys v w h k = record { tokens = omega arith; leading = λ B d. omega (arith, l.small B) }

  -- the parse of Ys before Xs ends, where that of Xs ends with the tokens that are left: all of them if Ys is nullable, or fewer
  ended_before : (f : ℕ) (Ys : List Symbol) (w : List ℕ) → Enough f Ys w → (Xs : List Symbol) → (Nullable G Ys → Ended Xs w)
      → ((v : List ℕ) → length v < length w → Ended Xs v) → Ended (Ys ++ Xs) w
  unfolding Ended
  ended_before f [] w n Xs all fewer = all none
  ended_before f (terminal t ∷ Ys) [] n Xs all fewer = inr (0, other_token end_no_token)
  ended_before f (terminal t ∷ Ys) (a ∷ w) n Xs all fewer =
      ended_terminal t (Ys ++ Xs) a w
      (ended_before f Ys w (enough_less f Ys w (a ∷ w) (omega arith) n.tokens) Xs (λ z. fewer w (omega arith)) (λ v h. fewer v (omega arith)))
  ended_before zero (nonterminal A ∷ Ys) w n Xs all fewer = absurd (omega (arith, n.leading A (at_front refl)))
  ended_before (suc f) (nonterminal A ∷ Ys) w n Xs all fewer =
      ended_nonterminal A (Ys ++ Xs) w
      (λ s h. let Zs = right_of (G.slot s) in
      ended_before f Zs w
      (record {
        tokens = omega (arith, n.leading A (at_front refl));
        leading = λ B d. omega (arith, n.leading A (at_front refl), l.falls A B (record { slot = s; side = Zs; holds = h; leads = d }));
      })
      (Ys ++ Xs)
      (λ z. ended_before (suc f) Ys w (record { tokens = n.tokens; leading = λ B d. n.leading B (past (next s Zs h z none) d) }) Xs (λ y. all (next s Zs h z y)) fewer)
      (λ v i. ended_before (suc f) Ys v (enough_less (suc f) Ys v w i n.tokens) Xs (λ y. fewer v i) (λ u j. fewer u (omega arith))))

  -- every parse goes through or stops
  pub ends : (Xs : List Symbol) (w : List ℕ) → GoesThrough G chosen Xs w ⊎ ((k : ℕ) × StopsAfter G chosen Xs w k)
  unfolding Ended
  ends Xs w =
      subst (λ (Ws : List Symbol). GoesThrough G chosen Ws w ⊎ ((k : ℕ) × StopsAfter G chosen Ws w k)) (append-nil Xs)
      (ended_before (16 * length w + 16) Xs w (record { tokens = omega arith; leading = λ B d. omega (arith, l.small B) }) [] (λ z. ended_none w) (λ v h. ended_none v))

-- a parse ends, and in one way
pub ends_in_one_way : {G : Cfg} {chosen : ℕ → Next → Option ℕ} {level : ℕ → ℕ} → Implements G chosen level → EndsInOneWay G chosen
ends_in_one_way i = record {
  ends = ends i.choice i.levels;
  not_both = λ Xs w k. not_both;
  one_place = λ Xs w j k. one_place;
  within = λ Xs w k. within;
}
