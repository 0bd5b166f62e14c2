-- The limits of a grammar, the three soundness rules, and levels. Assumes nothing.
use Rattle.std.specs.Prelude.{◌≡◌, ℕ, ◌<◌, ◌≤◌, List, length}
use Rattle.theory.specs.Lists.{In}
use Rattle.theory.specs.Grammar.{Symbol, terminal, nonterminal, empty, Cfg, RuleAt}
use Rattle.theory.specs.Sets.{Nullable, Next, Predict, LeftCorner, Reaches}

-- a symbol of a grammar with T terminals and N nonterminals
abbrev pub Known : ℕ → ℕ → Symbol → Type 0
Known T N (terminal t) = t < T
Known T N (nonterminal A) = A < N

-- 1 to 52 terminals, 1 to 16 nonterminals, at most 64 slots, right-hand sides of at most 6 symbols, and every symbol one of the grammar's
pub record Limits (G : Cfg) : Type 0 where
  pub terminals_low : 1 ≤ G.terminals
  pub terminals_high : G.terminals ≤ 52
  pub nonterminals_low : 1 ≤ G.nonterminals
  pub nonterminals_high : G.nonterminals ≤ 16
  pub start_known : G.start < G.nonterminals
  pub slots_high : G.slots ≤ 64
  pub outside : (s : ℕ) → G.slots ≤ s → G.slot s ≡ empty
  pub left_known : (s A : ℕ) (Ys : List Symbol) → RuleAt G s A Ys → A < G.nonterminals
  pub side_short : (s A : ℕ) (Ys : List Symbol) → RuleAt G s A Ys → length Ys ≤ 6
  pub side_known : (s A : ℕ) (Ys : List Symbol) (X : Symbol) → RuleAt G s A Ys → In X Ys → Known G.terminals G.nonterminals X
  deriving IsProp as limits_prop

-- no right-hand side of two or more symbols is nullable
abbrev pub NoLongNullableSide : Cfg → Type 0
NoLongNullableSide G = (s A : ℕ) (Ys : List Symbol) → RuleAt G s A Ys → 2 ≤ length Ys → Nullable G Ys → ⊥

-- no nonterminal reaches itself by one or more left-corner steps
abbrev pub NoLeftRecursion : Cfg → Type 0
NoLeftRecursion G = (A : ℕ) → Reaches G A A → ⊥

-- two slots of one nonterminal share no member of their predict sets
abbrev pub PredictSetsApart : Cfg → Type 0
PredictSetsApart G = (s s' A : ℕ) (Ys Ys' : List Symbol) (n : Next) → RuleAt G s A Ys → RuleAt G s' A Ys' → Predict G s n → Predict G s' n → s ≡ s'

-- a sound grammar keeps the three rules
pub record Sound (G : Cfg) : Type 0 where
  pub no_long_nullable_side : NoLongNullableSide G
  pub no_left_recursion : NoLeftRecursion G
  pub predict_sets_apart : PredictSetsApart G
  deriving IsProp as sound_prop

-- levels: a number below 16 for each nonterminal, which falls from it to each of its left corners
pub record Levels (G : Cfg) (level : ℕ → ℕ) : Type 0 where
  pub small : (A : ℕ) → level A < 16
  pub falls : (A B : ℕ) → LeftCorner G A B → level B < level A
  deriving IsProp as levels_prop

-- what the laws ask of a grammar: it keeps the limits, its predict sets are apart, and it has levels.
-- Whether a long right-hand side may be nullable makes no difference to them.
pub record Ll1 (G : Cfg) (level : ℕ → ℕ) : Type 0 where
  pub limits : Limits G
  pub apart : PredictSetsApart G
  pub levels : Levels G level
