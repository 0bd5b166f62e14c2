-- When lengths and memory are sufficient for a call over sentences of one length, and what its check answers. Assumes nothing.
use Rattle.std.specs.Prelude.{ℕ, ◌+◌, ◌*◌, ◌<◌, ◌≤◌, List, length, is_ok, Some, None, Decides, Option, Result, MatchResult}
use Rattle.fault.specs.declared.Fault.{Fault}
use Rattle.fault.specs.declared.Fault.TheVariants.{TooLong, ShortMemory, BrokenCell}
use Rattle.fault.specs.declared.Memory.TheVariants.{Stack, Output}
use Rattle.theory.specs.Grammar.{Cfg}
use Rattle.table.specs.Rows.{Room}
use Rattle.table.specs.Layouts.{Laid, NoOffsetsPast}
use Rattle.table.specs.Equations.{LowestBroken}
use Rattle.table.specs.Counts.{SoundTable}
use Rattle.table.specs.CountsOf.{CountsOf}
use Rattle.table.specs.Calls.{NoRoom}
use Rattle.table.specs.declared.layout.Layout.{Layout}
use Rattle.table.specs.declared.counts.Counts.{Counts}
use Rattle.table.specs.declared.Lent.{Lent}

-- a memory of which so much is lent is shorter than n; a memory that is not used never is
abbrev pub Short : Option ℕ → ℕ → Type 0
Short None n = ⊥
Short (Some k) n = k < n

-- the memory is long enough for n
abbrev pub Enough : Option ℕ → ℕ → Type 0
Enough None n = Unit {0}
Enough (Some k) n = n ≤ k

-- lengths and memory are sufficient for a call over sentences of length n: the table has room, n is one of its lengths,
-- the stack has an entry for each nonterminal at each of n + 1 places, and the output a byte for each token
pub record Sufficient (G : Cfg) (L : ℕ) (cells : List ℕ) (n : ℕ) (lent : Lent) : Type 0 where
  pub room : Room G L cells
  pub short : n ≤ L
  pub stack : Enough lent.stack ((n + 1) * G.nonterminals)
  pub output : Enough lent.output n

-- why they are not: the bound is above 48; the length is above the bound; there are too few cells; the stack or the output is too short.
-- Each only where those before it do not hold. No other fault
pub data Insufficient (G : Cfg) (L : ℕ) (cells : List ℕ) (n : ℕ) (lent : Lent) : Fault → Type 0 where
  no_room : {f : Fault} → (L ≤ 48 → n ≤ L) → NoRoom G L (length cells) f → Insufficient G L cells n lent f
  too_long : L ≤ 48 → L < n → Insufficient G L cells n lent (TooLong n)
  short_stack : Room G L cells → n ≤ L → Short lent.stack ((n + 1) * G.nonterminals) → Insufficient G L cells n lent (ShortMemory Stack)
  short_output : Room G L cells → n ≤ L → Enough lent.stack ((n + 1) * G.nonterminals) → Short lent.output n
      → Insufficient G L cells n lent (ShortMemory Output)

-- the layout of a table that is sufficient
pub record SufficientLayout (G : Cfg) (L : ℕ) (cells : List ℕ) (n : ℕ) (lent : Lent) (layout : Layout) : Type 0 where
  pub sufficient : Sufficient G L cells n lent
  pub laid : Laid G L layout
  pub past : NoOffsetsPast G layout

-- the table may be used for the call: lengths and memory are sufficient, and it is sound
pub record Usable (G : Cfg) (L : ℕ) (cells : List ℕ) (n : ℕ) (lent : Lent) : Type 0 where
  pub sufficient : Sufficient G L cells n lent
  pub sound : SoundTable G L cells

-- why it may not: lengths or memory are not sufficient, or a needed cell breaks its equation, and the lowest such is named. No other fault
pub data Unusable (G : Cfg) (L : ℕ) (cells : List ℕ) (n : ℕ) (lent : Lent) : Fault → Type 0 where
  insufficient : {f : Fault} → Insufficient G L cells n lent f → Unusable G L cells n lent f
  broken : (i : ℕ) → Sufficient G L cells n lent → LowestBroken G L cells i → Unusable G L cells n lent (BrokenCell i)

-- what the check before a call answers
pub record CheckedAnswer (G : Cfg) (L : ℕ) (cells : List ℕ) (n : ℕ) (lent : Lent) (r : Result Counts Fault) : Type 0 where
  -- the counts of a table that may be used, or why it may not
  pub answer : MatchResult r (λ counts. Usable G L cells n lent × CountsOf G L cells counts) (Unusable G L cells n lent)
  -- Ok is answered exactly where the table may be used
  pub exactly : Decides (is_ok r) (Usable G L cells n lent)
