-- The shapes of the arguments of commands, and when words have none of a shape.
use Rattle.std.specs.Prelude.{◌≡◌, ℕ, List, [], ◌∷◌, length, map, Option, MatchOption}
use Rattle.script.specs.Says.{Argument, number, byte, max_byte, max_u64, max_size, next_argument, keyword_of, arguments, Writes, WriteAll}
use Rattle.script.specs.declared.Command.{Command}
use Rattle.script.specs.declared.keyword.Keyword.{Keyword}
use Rattle.script.specs.declared.keyword.Keyword.TheVariants as key

-- none, some numbers up to a limit, or a byte and what comes next
pub data Shape : Type 0 where
  none : Shape
  numbers : ℕ → ℕ → Shape
  choice : Shape

-- the shape of a keyword's arguments
abbrev pub shape : Keyword → Shape
shape key.Brackets = numbers 1 max_byte
shape key.Neutral = none
shape key.Restrict = numbers 1 max_u64
shape key.Start = numbers 1 max_byte
shape key.Choice = choice
shape key.Level = numbers 1 max_byte
shape key.Memory = numbers 3 max_size
shape key.Bound = numbers 1 max_u64
shape key.Count = none
shape key.Check = none
shape key.Table = none
shape key.Cell = numbers 1 max_u64
shape key.Flip = numbers 2 max_u64
shape key.Poke = numbers 2 max_u64

-- no arguments of a shape are written by the words
abbrev pub Refused : Shape → List (List ℕ) → Type 0
Refused none ws = WriteAll [] ws → ⊥
Refused (numbers n limit) ws = (vs : List ℕ) → length vs ≡ n → WriteAll (map (number limit) vs) ws → ⊥
Refused choice ws = (a : ℕ) (x : Option ℕ) → WriteAll (byte a ∷ next_argument x ∷ []) ws → ⊥

-- the result stands for an argument that a word writes, or is none if it writes no such argument
abbrev pub ReadWord : {X : Type 0} → (X → Argument) → List ℕ → Option X → Type 0
ReadWord {X} argument word r = MatchOption r ((x : X) → Writes (argument x) word → ⊥) (λ x. Writes (argument x) word)

-- the result stands for arguments of a shape that the words write, or is none if they write none
abbrev pub ReadWords : {X : Type 0} → Shape → (X → List Argument) → List (List ℕ) → Option X → Type 0
ReadWords s more ws r = MatchOption r (Refused s ws) (λ x. WriteAll (more x) ws)

-- the result is the command of a keyword whose arguments are written by the words, or none if they write no arguments of its shape
abbrev pub ReadAs : Keyword → List (List ℕ) → Option Command → Type 0
ReadAs k ws r = MatchOption r (Refused (shape k) ws) (λ c. (keyword_of c ≡ k) × WriteAll (arguments c) ws)
