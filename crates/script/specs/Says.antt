-- Which command a line says, and how a line is read.
use Rattle.std.specs.Prelude.{◌≡◌, ◌≢◌, ℕ, ◌≤◌, List, [], ◌∷◌, length, codes, Some, None, Option, Result, MatchResult}
use Rattle.std.specs.List.{AllZip}
use Rattle.script.specs.Text.{spaced, Numeral}
use Rattle.script.specs.declared.keyword.Keyword.{Keyword}
use Rattle.script.specs.declared.keyword.Keyword.TheVariants as key
use Rattle.script.specs.declared.keyword.UnknownKeyword.{UnknownKeyword}
use Rattle.script.specs.declared.Command.{Command}
use Rattle.script.specs.declared.Command.TheVariants.{Brackets, Neutral, Restrict, Start, Choice, Level, Memory, Bound, Count, Check, Table, Cell, Flip, Poke}
use Rattle.script.specs.declared.Line.{Line}
use Rattle.script.specs.declared.Line.TheVariants as line

-- the first word of a command
abbrev pub text : Keyword → List ℕ
text key.Brackets = codes "brackets"
text key.Neutral = codes "neutral"
text key.Restrict = codes "restrict"
text key.Start = codes "start"
text key.Choice = codes "choice"
text key.Level = codes "level"
text key.Memory = codes "memory"
text key.Bound = codes "bound"
text key.Count = codes "count"
text key.Check = codes "check"
text key.Table = codes "table"
text key.Cell = codes "cell"
text key.Flip = codes "flip"
text key.Poke = codes "poke"

-- the result is the keyword that a word is, or an error if the word is none
abbrev pub Names : List ℕ → Result Keyword UnknownKeyword → Type 0
Names word r = MatchResult r (λ k. word ≡ text k) (λ e. (k : Keyword) → word ≢ text k)

-- the keyword of a command
abbrev pub keyword_of : Command → Keyword
keyword_of (Brackets kinds) = key.Brackets
keyword_of Neutral = key.Neutral
keyword_of (Restrict mask) = key.Restrict
keyword_of (Start start) = key.Start
keyword_of (Choice nonterminal next) = key.Choice
keyword_of (Level nonterminal) = key.Level
keyword_of (Memory cells stack output) = key.Memory
keyword_of (Bound bound) = key.Bound
keyword_of Count = key.Count
keyword_of Check = key.Check
keyword_of Table = key.Table
keyword_of (Cell cell) = key.Cell
keyword_of (Flip cell bit) = key.Flip
keyword_of (Poke cell value) = key.Poke

-- what a word after the keyword stands for: a number up to a limit, or the end of the input
pub data Argument : Type 0 where
  number : ℕ → ℕ → Argument
  end : Argument

-- the largest number of one byte
abbrev pub max_byte : ℕ
max_byte = 255

-- the largest number of 64 bits
abbrev pub max_u64 : ℕ
max_u64 = 18446744073709551615

-- the most cells, places of a stack or bytes of output that a script asks for
abbrev pub max_size : ℕ
max_size = 1000000

-- a number of one byte
abbrev pub byte : ℕ → Argument
byte v = number max_byte v

-- a number of 64 bits
abbrev pub any : ℕ → Argument
any v = number max_u64 v

-- a number of cells, of places of a stack or of bytes of output
abbrev pub size : ℕ → Argument
size v = number max_size v

-- the second argument of a choice: the next terminal, none at the end of the input
abbrev pub next_argument : Option ℕ → Argument
next_argument (Some t) = byte t
next_argument None = end

-- the arguments of a command, in their order
abbrev pub arguments : Command → List Argument
arguments (Brackets kinds) = byte kinds ∷ []
arguments Neutral = []
arguments (Restrict mask) = any mask ∷ []
arguments (Start start) = byte start ∷ []
arguments (Choice nonterminal next) = byte nonterminal ∷ next_argument next ∷ []
arguments (Level nonterminal) = byte nonterminal ∷ []
arguments (Memory cells stack output) = size cells ∷ size stack ∷ size output ∷ []
arguments (Bound bound) = any bound ∷ []
arguments Count = []
arguments Check = []
arguments Table = []
arguments (Cell cell) = any cell ∷ []
arguments (Flip cell bit) = any cell ∷ any bit ∷ []
arguments (Poke cell value) = any cell ∷ any value ∷ []

-- a word writes an argument
abbrev pub Writes : Argument → List ℕ → Type 0
Writes (number limit v) word = Numeral word v × (v ≤ limit)
Writes end word = word ≡ codes "end"

-- words write arguments, one for each
abbrev pub WriteAll : List Argument → List (List ℕ) → Type 0
WriteAll more words = AllZip Writes more words

-- a line is the keyword of a command and a word for each of its arguments, with single spaces between
pub record Says (bytes : List ℕ) (c : Command) : Type 0 where
  pub words : List (List ℕ)
  pub joined : bytes ≡ spaced (text (keyword_of c) ∷ words)
  pub written : WriteAll (arguments c) words

-- a line is empty or begins with '#', however long it is
abbrev pub IsBlank : List ℕ → Type 0
IsBlank [] = Unit {0}
IsBlank (b ∷ bs) = b ≡ 35

-- what a line is: blank; else a command, if it has at most 1,000,000 bytes and says one; else unreadable
abbrev pub Reads : List ℕ → Line → Type 0
Reads bytes line.Blank = IsBlank bytes
Reads bytes (line.Command c) = (IsBlank bytes → ⊥) × (length bytes ≤ 1000000) × Says bytes c
Reads bytes line.Unreadable = (IsBlank bytes → ⊥) × (length bytes ≤ 1000000 → (c : Command) → Says bytes c → ⊥)
