-- What each command answers and what it changes. Assumes nothing.
use Rattle.std.specs.Prelude.{◌≡◌, ℕ, cond, List, replicate, Some, None, Ok, Err, vec_items, Option, Result, nat_lt}
use Rattle.fault.specs.declared.Fault.{Fault}
use Rattle.theory.specs.Grammar.{Cfg}
use Rattle.theory.specs.Sets.{Next}
use Rattle.brackets.specs.Brackets.{bracket_grammar, bracket_choice, kinds_allowed, kinds_answer}
use Rattle.brackets.specs.declared.Brackets.{Brackets}
use Rattle.restriction.specs.Masks.{all_bits}
use Rattle.restriction.specs.Restricted.{kept_slots, kept_choice, MaskSet}
use Rattle.start_change.specs.Started.{with_start, start_answer}
use Rattle.script.specs.declared.Command.{Command}
use Rattle.script.specs.declared.Command.TheVariants as command
use Rattle.grammar.specs.Interface.{next_of_lookahead}
use Rattle.session.specs.Asked.{slot_answer, CountReply, CheckReply, TableReply, cell_answer, written_answer, written, flipped_answer, flipped}
use Rattle.session.specs.declared.answer.Answer.{Answer}
use Rattle.session.specs.declared.answer.Answer.TheVariants.{Done, Level, Refused}
use Rattle.session.specs.declared.state.Session.{Session}

-- a setting is answered by done, or by the fault that refused it
abbrev pub setting_answer : Result (Unit {0}) Fault → Answer
setting_answer (Ok u) = Done
setting_answer (Err f) = Refused f

-- the commands that ask a grammar or its table, or look at the cells: what they answer, and what they leave in the cells
pub data Asks (G : Cfg) (chosen : ℕ → Next → Option ℕ) (level : ℕ → ℕ) (L : ℕ) (before after : List ℕ) : Command → Answer → Type 0 where
  choice : (A : ℕ) (next : Option ℕ) → after ≡ before → Asks G chosen level L before after (command.Choice A next) (slot_answer (chosen A (next_of_lookahead next)))
  level_of : (A : ℕ) → after ≡ before → Asks G chosen level L before after (command.Level A) (Level (level A))
  count : (a : Answer) → CountReply G L before after a → Asks G chosen level L before after command.Count a
  check : (a : Answer) → CheckReply G L before a → after ≡ before → Asks G chosen level L before after command.Check a
  table : (a : Answer) → TableReply G L before a → after ≡ before → Asks G chosen level L before after command.Table a
  cell : (i : ℕ) → after ≡ before → Asks G chosen level L before after (command.Cell i) (cell_answer before i)
  flip : (i b : ℕ) → after ≡ flipped before i b → Asks G chosen level L before after (command.Flip i b) (flipped_answer before i b)
  poke : (i v : ℕ) → after ≡ written before i v → Asks G chosen level L before after (command.Poke i v) (written_answer before i)

-- whether a command asks for memory: to lend other cells, or to show the table
abbrev pub Allocates : Command → Type 0
Allocates (command.Brackets k) = ⊥
Allocates command.Neutral = ⊥
Allocates (command.Restrict m) = ⊥
Allocates (command.Start s) = ⊥
Allocates (command.Choice A w) = ⊥
Allocates (command.Level A) = ⊥
Allocates (command.Memory c s o) = Unit {0}
Allocates (command.Bound b) = ⊥
Allocates command.Count = ⊥
Allocates command.Check = ⊥
Allocates command.Table = Unit {0}
Allocates (command.Cell i) = ⊥
Allocates (command.Flip i b) = ⊥
Allocates (command.Poke i v) = ⊥

-- the grammar of a session's pile (its levels are all 0)
abbrev pub session_grammar : Session Brackets → Cfg
session_grammar s = with_start (kept_slots (bracket_grammar s.pile.below.below.kinds) s.pile.below.mask) s.pile.start

-- the choice of a session's pile
abbrev pub session_choice : Session Brackets → ℕ → Next → Option ℕ
session_choice s A n = kept_choice s.pile.below.mask (bracket_choice s.pile.below.below.kinds A n)

-- the pile's settings are the same
pub record SamePile (before after : Session Brackets) : Type 0 where
  pub kinds : after.pile.below.below.kinds ≡ before.pile.below.below.kinds
  pub mask : after.pile.below.mask ≡ before.pile.below.mask
  pub start : after.pile.start ≡ before.pile.start

-- the amounts of working stack and output and the bound are the same
pub record SameAmounts (before after : Session Brackets) : Type 0 where
  pub stack : after.stack ≡ before.stack
  pub output : after.output ≡ before.output
  pub bound : after.bound ≡ before.bound

-- the lent memory and the bound are the same
pub record SameMemory (before after : Session Brackets) : Type 0 where
  pub cells : vec_items after.cells ≡ vec_items before.cells
  pub amounts : SameAmounts before after

-- what each command answers and what it changes
pub data Runs (before after : Session Brackets) : Command → Answer → Type 0 where
  brackets : (k : ℕ) → after.pile.below.below.kinds ≡ cond (kinds_allowed k) k before.pile.below.below.kinds
      → after.pile.below.mask ≡ before.pile.below.mask → after.pile.start ≡ before.pile.start → SameMemory before after
      → Runs before after (command.Brackets k) (setting_answer (kinds_answer k))
  neutral : after.pile.below.below.kinds ≡ before.pile.below.below.kinds → after.pile.below.mask ≡ all_bits → after.pile.start ≡ None → SameMemory before after
      → Runs before after command.Neutral Done
  restrict : (m : ℕ) (r : Result (Unit {0}) Fault) → after.pile.below.below.kinds ≡ before.pile.below.below.kinds
      → MaskSet (bracket_grammar before.pile.below.below.kinds).slots m before.pile.below.mask after.pile.below.mask r
      → after.pile.start ≡ before.pile.start → SameMemory before after → Runs before after (command.Restrict m) (setting_answer r)
  start : (s : ℕ) → after.pile.below.below.kinds ≡ before.pile.below.below.kinds → after.pile.below.mask ≡ before.pile.below.mask
      → after.pile.start ≡ cond (nat_lt s (bracket_grammar before.pile.below.below.kinds).nonterminals) (Some s) before.pile.start → SameMemory before after
      → Runs before after (command.Start s) (setting_answer (start_answer (bracket_grammar before.pile.below.below.kinds).nonterminals s))
  memory : (c s o : ℕ) → SamePile before after → vec_items after.cells ≡ replicate c 0 → after.stack ≡ s → after.output ≡ o → after.bound ≡ before.bound
      → Runs before after (command.Memory c s o) Done
  bound : (b : ℕ) → SamePile before after → vec_items after.cells ≡ vec_items before.cells → after.stack ≡ before.stack → after.output ≡ before.output → after.bound ≡ b
      → Runs before after (command.Bound b) Done
  asks : (c : Command) (a : Answer) → SamePile before after → SameAmounts before after
      → Asks (session_grammar before) (session_choice before) (λ A. 0) before.bound (vec_items before.cells) (vec_items after.cells) c a
      → Runs before after c a

-- what a session is at first: one kind of brackets, both layers neutral, 20000 cells that are 0, 1000 stack entries, 400 output bytes, the bound 8
pub record AtFirst (s : Session Brackets) : Type 0 where
  pub kinds : s.pile.below.below.kinds ≡ 1
  pub mask : s.pile.below.mask ≡ all_bits
  pub start : s.pile.start ≡ None
  pub cells : vec_items s.cells ≡ replicate 20000 0
  pub stack : s.stack ≡ 1000
  pub output : s.output ≡ 400
  pub bound : s.bound ≡ 8
