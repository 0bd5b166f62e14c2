-- The smallest sets of a grammar: what is nullable, FIRST, FOLLOW, predict sets and left corners. Each is the smallest relation closed under its lines.
-- Every filled slot counts, whether the start reaches it or not. Assumes nothing.
use Rattle.std.specs.Prelude.{◌≡◌, ℕ, List, [], ◌∷◌, ◌++◌}
use Rattle.theory.specs.Grammar.{Symbol, terminal, nonterminal, Cfg, RuleAt}

-- all the symbols are nonterminals that derive the empty list
pub data Nullable (G : Cfg) : List Symbol → Type 0 where
  none : Nullable G []
  next : {A : ℕ} {Xs : List Symbol} (s : ℕ) (Ys : List Symbol) → RuleAt G s A Ys → Nullable G Ys → Nullable G Xs → Nullable G (nonterminal A ∷ Xs)

-- terminal a is in FIRST of the symbols
pub data First (G : Cfg) : List Symbol → ℕ → Type 0 where
  itself : {t a : ℕ} {Xs : List Symbol} → a ≡ t → First G (terminal t ∷ Xs) a
  inside : {A a : ℕ} {Xs : List Symbol} (s : ℕ) (Ys : List Symbol) → RuleAt G s A Ys → First G Ys a → First G (nonterminal A ∷ Xs) a
  behind : {A a : ℕ} {Xs : List Symbol} → Nullable G (nonterminal A ∷ []) → First G Xs a → First G (nonterminal A ∷ Xs) a

-- terminal a is in FOLLOW(B): for a rule A → P B Q, FIRST(Q) is, and FOLLOW(A) where Q is nullable
pub data Follow (G : Cfg) : ℕ → ℕ → Type 0 where
  from_first : {B a : ℕ} (s A : ℕ) (Ys P Q : List Symbol) → RuleAt G s A Ys → Ys ≡ P ++ (nonterminal B ∷ Q) → First G Q a → Follow G B a
  from_left : {B a : ℕ} (s A : ℕ) (Ys P Q : List Symbol) → RuleAt G s A Ys → Ys ≡ P ++ (nonterminal B ∷ Q) → Nullable G Q → Follow G A a → Follow G B a

-- what comes next in an input: a terminal, or the end
pub data Next : Type 0 where
  token : ℕ → Next
  end : Next

-- what comes next where these tokens are left
abbrev pub next_of : List ℕ → Next
next_of [] = end
next_of (a ∷ w) = token a

-- n may come after A: a terminal of FOLLOW(A), or the end
abbrev pub FollowOrEnd : Cfg → ℕ → Next → Type 0
FollowOrEnd G A (token a) = Follow G A a
FollowOrEnd G A end = Unit {0}

-- n is in the predict set of slot s: FIRST of its right-hand side; and where that side is nullable, FOLLOW of its left-hand side and the end of input
pub data Predict (G : Cfg) (s : ℕ) : Next → Type 0 where
  by_first : (A : ℕ) (Ys : List Symbol) (a : ℕ) → RuleAt G s A Ys → First G Ys a → Predict G s (token a)
  by_follow : {n : Next} (A : ℕ) (Ys : List Symbol) → RuleAt G s A Ys → Nullable G Ys → FollowOrEnd G A n → Predict G s n

-- nonterminal B stands among the symbols with only nullable symbols before it
pub data Leads (G : Cfg) : List Symbol → ℕ → Type 0 where
  at_front : {A B : ℕ} {Xs : List Symbol} → A ≡ B → Leads G (nonterminal A ∷ Xs) B
  past : {A B : ℕ} {Xs : List Symbol} → Nullable G (nonterminal A ∷ []) → Leads G Xs B → Leads G (nonterminal A ∷ Xs) B

-- B is a left corner of A: it leads a right-hand side of A
pub record LeftCorner (G : Cfg) (A B : ℕ) : Type 0 where
  pub slot : ℕ
  pub side : List Symbol
  pub holds : RuleAt G slot A side
  pub leads : Leads G side B

-- one or more left-corner steps lead from A to B
pub data Reaches (G : Cfg) : ℕ → ℕ → Type 0 where
  one_step : {A B : ℕ} → LeftCorner G A B → Reaches G A B
  more : {A C : ℕ} (B : ℕ) → LeftCorner G A B → Reaches G B C → Reaches G A C
