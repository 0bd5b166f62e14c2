-- The parser by a choice of slots: it holds a list of symbols, at first the start alone, and takes the tokens from the left. Assumes nothing.
-- A terminal at the front goes together with an equal token; any other token, or none, stops the parse.
-- A nonterminal at the front is replaced by the right-hand side of the slot chosen for it and what comes next; no choice stops the parse.
-- With no symbols left the parse is over, and tokens that are left stop it.
use Rattle.std.specs.Prelude.{◌≡◌, ℕ, suc, List, [], ◌∷◌, ◌++◌, Some, None, Option, ◌≢◌}
use Rattle.theory.specs.Grammar.{Symbol, terminal, nonterminal, Cfg}
use Rattle.theory.specs.Sets.{Next, token, next_of}
use Rattle.theory.specs.Count.{right_of}

-- the parse goes through: it ends with no symbols and no tokens left
pub data GoesThrough (G : Cfg) (chosen : ℕ → Next → Option ℕ) : List Symbol → List ℕ → Type 0 where
  finished : GoesThrough G chosen [] []
  matched : {t a : ℕ} {Xs : List Symbol} {w : List ℕ} → a ≡ t → GoesThrough G chosen Xs w → GoesThrough G chosen (terminal t ∷ Xs) (a ∷ w)
  replaced : {A : ℕ} {Xs : List Symbol} {w : List ℕ} (s : ℕ) → chosen A (next_of w) ≡ Some s → GoesThrough G chosen (right_of (G.slot s) ++ Xs) w
      → GoesThrough G chosen (nonterminal A ∷ Xs) w

-- the parse stops when so many tokens are gone
pub data StopsAfter (G : Cfg) (chosen : ℕ → Next → Option ℕ) : List Symbol → List ℕ → ℕ → Type 0 where
  tokens_left : {a : ℕ} {w : List ℕ} → StopsAfter G chosen [] (a ∷ w) 0
  other_token : {t : ℕ} {Xs : List Symbol} {w : List ℕ} → (next_of w ≢ token t) → StopsAfter G chosen (terminal t ∷ Xs) w 0
  no_choice : {A : ℕ} {Xs : List Symbol} {w : List ℕ} → chosen A (next_of w) ≡ None → StopsAfter G chosen (nonterminal A ∷ Xs) w 0
  after_match : {t a k : ℕ} {Xs : List Symbol} {w : List ℕ} → a ≡ t → StopsAfter G chosen Xs w k → StopsAfter G chosen (terminal t ∷ Xs) (a ∷ w) (suc k)
  after_replacement : {A k : ℕ} {Xs : List Symbol} {w : List ℕ} (s : ℕ) → chosen A (next_of w) ≡ Some s → StopsAfter G chosen (right_of (G.slot s) ++ Xs) w k
      → StopsAfter G chosen (nonterminal A ∷ Xs) w k
