-- The laws of the text: a line says one command at most, and each command within its limits is read from a line.
use Rattle.std.specs.Prelude.{◌≡◌, ℕ, ◌≤◌, List, [], ◌∷◌, map, codes, decimal}
use Rattle.script.specs.Text.{spaced}
use Rattle.script.specs.Says.{Argument, number, end, text, keyword_of, arguments, Says, Reads}
use Rattle.script.specs.declared.Command.{Command}
use Rattle.script.specs.declared.Line.{Line}
use Rattle.script.specs.declared.Line.TheVariants as line

-- no line says two commands
abbrev pub OneCommand : Type 0
OneCommand = (bytes : List ℕ) (c d : Command) → Says bytes c → Says bytes d → c ≡ d

-- no line is read in two ways
abbrev pub OneReading : Type 0
OneReading = (bytes : List ℕ) (a b : Line) → Reads bytes a → Reads bytes b → a ≡ b

-- each number is at most its limit
abbrev pub Within : List Argument → Type 0
Within [] = Unit {0}
Within (number limit v ∷ more) = (v ≤ limit) × Within more
Within (end ∷ more) = Within more

-- the word of an argument, with no leading zeros
abbrev pub word_of : Argument → List ℕ
word_of (number limit v) = decimal v
word_of end = codes "end"

-- the line of a command
abbrev pub line_of : Command → List ℕ
line_of c = spaced (text (keyword_of c) ∷ map word_of (arguments c))

-- each command within its limits is read from its line
abbrev pub EveryCommand : Type 0
EveryCommand = (c : Command) → Within (arguments c) → Reads (line_of c) (line.Command c)
