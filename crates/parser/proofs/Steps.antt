-- A parse followed step by step: how it ends from where it has come to is how it ends from the beginning. Assumes nothing.
use Rattle.std.proofs.Common.{◌≡◌, ℕ, suc, ◌+◌, List, ◌∷◌, ◌++◌, Some, Option, subst, arith}
use Rattle.theory.specs.Grammar.{Symbol, terminal, nonterminal, Cfg}
use Rattle.theory.specs.Sets.{Next, next_of}
use Rattle.theory.specs.Count.{right_of}
use Rattle.parser.specs.Parser.{GoesThrough, matched, replaced, StopsAfter, after_match, after_replacement}

-- the parse of w by Xs comes to the symbols Zs and the tokens v when n tokens are gone
pub record ComesTo (G : Cfg) (chosen : ℕ → Next → Option ℕ) (Xs : List Symbol) (w : List ℕ) (Zs : List Symbol) (v : List ℕ) (n : ℕ) : Type 0 where
  pub through : GoesThrough G chosen Zs v → GoesThrough G chosen Xs w
  pub stops : (k : ℕ) → StopsAfter G chosen Zs v k → StopsAfter G chosen Xs w (n + k)

module _ {G : Cfg} {chosen : ℕ → Next → Option ℕ} {Xs : List Symbol} {w : List ℕ} where
  -- a stop after an equal number
  stops_at : {i j : ℕ} → i ≡ j → StopsAfter G chosen Xs w i → StopsAfter G chosen Xs w j
  stops_at e q = subst (λ (k : ℕ). StopsAfter G chosen Xs w k) e q

  -- it begins with all symbols and all tokens
  pub comes_first : ComesTo G chosen Xs w Xs w 0
  comes_first = record { through = λ p. p; stops = λ k q. stops_at (omega arith) q }

  -- a terminal goes with an equal token
  pub comes_match : {t a n : ℕ} {Zs : List Symbol} {v : List ℕ} → ComesTo G chosen Xs w (terminal t ∷ Zs) (a ∷ v) n → a ≡ t → ComesTo G chosen Xs w Zs v (n + 1)
  comes_match c e = record { through = λ p. c.through (matched e p); stops = λ k q. stops_at (omega arith) (c.stops (suc k) (after_match e q)) }

  -- a nonterminal is replaced by the right-hand side of its choice
  pub comes_replace : {A n : ℕ} {Zs : List Symbol} {v : List ℕ} (s : ℕ) → ComesTo G chosen Xs w (nonterminal A ∷ Zs) v n → chosen A (next_of v) ≡ Some s
      → ComesTo G chosen Xs w (right_of (G.slot s) ++ Zs) v n
  comes_replace s c e = record { through = λ p. c.through (replaced s e p); stops = λ k q. c.stops k (after_replacement s e q) }

  -- where it stops at once, it stops there
  pub comes_stop : {n : ℕ} {Zs : List Symbol} {v : List ℕ} → ComesTo G chosen Xs w Zs v n → StopsAfter G chosen Zs v 0 → StopsAfter G chosen Xs w n
  comes_stop c q = stops_at (omega arith) (c.stops 0 q)
