-- The laws of a change of start, as the contracts cite them.
use Rattle.std.specs.Prelude.{◌≡◌, ℕ, ◌<◌, ◌≤◌, ◌↔◌, List, Some, None, Option}
use Rattle.theory.specs.Grammar.{Symbol, Cfg, Derives}
use Rattle.start_change.specs.Started.{with_start}

-- the derivations are those below
abbrev pub DerivationsAreThoseBelow : Type 0
DerivationsAreThoseBelow = (G : Cfg) (o : Option ℕ) (Xs : List Symbol) (w : List ℕ) → Derives (with_start G o) Xs w ↔ Derives G Xs w

-- the start is the stored one if it is a nonterminal below, else that below; with none stored the grammar is the one below
pub record Starts (G : Cfg) : Type 0 where
  pub stored : (A : ℕ) → A < G.nonterminals → (with_start G (Some A)).start ≡ A
  pub not_below : (A : ℕ) → G.nonterminals ≤ A → with_start G (Some A) ≡ G
  pub none_stored : with_start G None ≡ G

-- what the start is
abbrev pub StartIsStoredOrBelow : Type 0
StartIsStoredOrBelow = (G : Cfg) → Starts G
