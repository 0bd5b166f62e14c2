-- What a line is answered by, and what it changes. Assumes nothing.
use Rattle.std.specs.Prelude.{◌≡◌, ℕ, List, Some, None, Option}
use Rattle.brackets.specs.declared.Brackets.{Brackets}
use Rattle.script.specs.LineEnd.{LineEndOff}
use Rattle.script.specs.Says.{Reads}
use Rattle.script.specs.declared.Command.{Command}
use Rattle.script.specs.declared.Line.TheVariants as line
use Rattle.session.specs.Runs.{Runs, Allocates}
use Rattle.session.specs.declared.answer.Answer.{Answer}
use Rattle.session.specs.declared.answer.Answer.TheVariants.{Unreadable}
use Rattle.session.specs.declared.state.Session.{Session}

-- a line without its line end is a text; a blank text has no answer and changes nothing; an unreadable one is answered so and changes nothing;
-- any other says a command, which runs
pub data Answers (before after : Session Brackets) (bytes : List ℕ) : Option Answer → Type 0 where
  blank : (text : List ℕ) → LineEndOff bytes text → Reads text line.Blank → after ≡ before → Answers before after bytes None
  unreadable : (text : List ℕ) → LineEndOff bytes text → Reads text line.Unreadable → after ≡ before → Answers before after bytes (Some Unreadable)
  runs : (text : List ℕ) (c : Command) (a : Answer) → LineEndOff bytes text → Reads text (line.Command c) → Runs before after c a → Answers before after bytes (Some a)

-- the line says a command that asks for memory
abbrev pub LineAllocates : List ℕ → Type 0
LineAllocates bytes = (text : List ℕ) × (c : Command) × LineEndOff bytes text × Reads text (line.Command c) × Allocates c
