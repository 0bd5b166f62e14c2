-- What every grammar of the crate's trait answers and owes. Assumes nothing.
use Rattle.std.specs.Prelude.{◌≡◌, ℕ, zero, suc, ◌+◌, ◌≤◌, List, [], ◌∷◌, length, Some, None, Option}
use Rattle.theory.specs.Grammar.{Symbol, terminal, nonterminal, Cfg, RuleAt}
use Rattle.theory.specs.Sets.{Next, token, end, Predict}
use Rattle.theory.specs.Sound.{Limits, Sound, Levels}
use Rattle.theory.specs.Count.{left_of, right_of}

-- the byte of a symbol: t for terminal t, 128 + A for nonterminal A
abbrev pub byte_of : Symbol → ℕ
byte_of (terminal t) = t
byte_of (nonterminal A) = 128 + A

-- the byte of the symbol at a position, none past the end
abbrev pub byte_at : List Symbol → ℕ → Option ℕ
byte_at [] i = None
byte_at (X ∷ Xs) zero = Some (byte_of X)
byte_at (X ∷ Xs) (suc i) = byte_at Xs i

-- what a lookahead stands for: a terminal, or the end where there is none
abbrev pub next_of_lookahead : Option ℕ → Next
next_of_lookahead (Some t) = token t
next_of_lookahead None = end

-- what the choice for a nonterminal and what comes next owes: it is a filled slot of that nonterminal, or none;
-- it finds the slot whose predict set has what comes next; it is none at what is no terminal
pub record Chooses (G : Cfg) (chosen : ℕ → Next → Option ℕ) : Type 0 where
  pub own : (A s : ℕ) (n : Next) → chosen A n ≡ Some s → left_of (G.slot s) ≡ Some A
  pub predicted : (A s : ℕ) (Ys : List Symbol) (n : Next) → RuleAt G s A Ys → Predict G s n → chosen A n ≡ Some s
  pub unknown_terminal : (A t : ℕ) → G.terminals ≤ t → chosen A (token t) ≡ None
  deriving IsProp as chooses_prop

-- what a grammar with its choice and its levels owes: it keeps the limits, it is sound, and choice and levels are as they should be
pub record Implements (G : Cfg) (chosen : ℕ → Next → Option ℕ) (level : ℕ → ℕ) : Type 0 where
  pub limits : Limits G
  pub sound : Sound G
  pub choice : Chooses G chosen
  pub levels : Levels G level
  pub level_outside : (A : ℕ) → G.nonterminals ≤ A → level A ≡ 0
  deriving IsProp as implements_prop

-- a question out of range answers none, or 0 for a length or a level
pub record OutsideIsNone (G : Cfg) (chosen : ℕ → Next → Option ℕ) (level : ℕ → ℕ) : Type 0 where
  pub no_left : (s : ℕ) → G.slots ≤ s → left_of (G.slot s) ≡ None
  pub no_length : (s : ℕ) → G.slots ≤ s → length (right_of (G.slot s)) ≡ 0
  pub no_symbol_of_slot : (s i : ℕ) → G.slots ≤ s → byte_at (right_of (G.slot s)) i ≡ None
  pub no_symbol_at : (s i : ℕ) → length (right_of (G.slot s)) ≤ i → byte_at (right_of (G.slot s)) i ≡ None
  pub no_choice_of : (A : ℕ) (n : Next) → G.nonterminals ≤ A → chosen A n ≡ None
  pub no_choice_at : (A t : ℕ) → G.terminals ≤ t → chosen A (token t) ≡ None
  pub no_level : (A : ℕ) → G.nonterminals ≤ A → level A ≡ 0
