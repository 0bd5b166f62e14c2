-- What numbering answers. Assumes nothing.
use Rattle.std.specs.Prelude.{ℕ, List, [], ◌∷◌, length, is_ok, Some, None, Decides, Option, Result, MatchResult}
use Rattle.fault.specs.declared.Fault.{Fault}
use Rattle.fault.specs.declared.Fault.TheVariants.{ParseStopped}
use Rattle.theory.specs.Grammar.{nonterminal, Cfg, Sentence}
use Rattle.theory.specs.Sets.{Next}
use Rattle.theory.specs.Order.{ascending, Rank}
use Rattle.table.specs.Checked.{Usable, Unusable}
use Rattle.table.specs.declared.Lent.{Lent}
use Rattle.parser.specs.Parser.{StopsAfter}

-- what numbering is lent besides the cells: a stack of so many entries, and no output
abbrev pub lent_stack : ℕ → Lent
lent_stack entries = record { stack = Some entries; output = None }

-- how numbering refuses the tokens: lengths, memory or table may not be used, or the parse of the tokens stops. No other fault
pub data NumberRefused (G : Cfg) (chosen : ℕ → Next → Option ℕ) (L : ℕ) (cells : List ℕ) (entries : ℕ) (tokens : List ℕ) : Fault → Type 0 where
  unusable : {f : Fault} → Unusable G L cells (length tokens) (lent_stack entries) f → NumberRefused G chosen L cells entries tokens f
  stopped : (gone : ℕ) → Usable G L cells (length tokens) (lent_stack entries) → StopsAfter G chosen (nonterminal G.start ∷ []) tokens gone
      → NumberRefused G chosen L cells entries tokens (ParseStopped gone)

-- what numbering answers
pub record NumberAnswer (G : Cfg) (chosen : ℕ → Next → Option ℕ) (L : ℕ) (cells : List ℕ) (entries : ℕ) (tokens : List ℕ) (r : Result ℕ Fault) : Type 0 where
  -- the table may be used, and the number is the rank of the tokens among the start's sentences; or why they are refused
  pub answer : MatchResult r (λ k. Usable G L cells (length tokens) (lent_stack entries) × Rank G ascending G.start tokens k) (NumberRefused G chosen L cells entries tokens)
  -- Ok is answered exactly where the table may be used and the tokens are a sentence of the start
  pub exactly : Decides (is_ok r) (Usable G L cells (length tokens) (lent_stack entries) × Sentence G G.start tokens)
