-- Sentential forms: lists of symbols, rewritten one nonterminal at a time. Assumes nothing.
use Rattle.std.specs.Prelude.{◌≡◌, ℕ, List, ◌∷◌, ◌++◌}
use Rattle.theory.specs.Grammar.{Symbol, nonterminal, Cfg, RuleAt}

-- Xs rewrites to Zs in zero or more steps, each of which replaces one nonterminal, at any place, by the right-hand side of one of its rules
pub data Rewrites (G : Cfg) : List Symbol → List Symbol → Type 0 where
  stop : {Xs Zs : List Symbol} → Xs ≡ Zs → Rewrites G Xs Zs
  step : {Xs Zs : List Symbol} (s A : ℕ) (Ys P Q : List Symbol) → RuleAt G s A Ys → Xs ≡ P ++ (nonterminal A ∷ Q) → Rewrites G (P ++ (Ys ++ Q)) Zs
      → Rewrites G Xs Zs

-- A rewrites to Zs in one or more steps
pub record RewritesAtLeastOnce (G : Cfg) (A : ℕ) (Zs : List Symbol) : Type 0 where
  pub slot : ℕ
  pub side : List Symbol
  pub holds : RuleAt G slot A side
  pub rest : Rewrites G side Zs
