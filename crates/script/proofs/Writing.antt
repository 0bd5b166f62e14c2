-- Each command within its limits has a line.
use Rattle.std.proofs.Common.{◌≡◌, ℕ, ◌+◌, ◌*◌, ◌<◌, ◌≤◌, Bool, true, ◌&&◌, leb, List, [], ◌∷◌, map, length, get_or, decimal, Some, None, sym, refl, arith, length-append, rules, leb-true}
use Rattle.std.proofs.lemmas.Bool.{and_parts}
use Rattle.std.proofs.lemmas.Fmt.{decimal_nonempty, digits_decimal, digits_value-decimal, length-decimal-le}
use Rattle.std.proofs.lemmas.Str.Parse.{IsNumeralModel, numerals_by_fold, tells_by_index}
use Rattle.script.specs.Text.{Digit, decimal_after, Numeral, spaced}
use Rattle.script.specs.Says.{Argument, number, end, text, keyword_of, arguments, WriteAll}
use Rattle.script.specs.Laws.{Within, word_of, EveryCommand}
use Rattle.script.specs.declared.Command.{Command}
use Rattle.script.specs.declared.Command.TheVariants.{Brackets, Neutral, Restrict, Start, Choice, Level, Memory, Bound, Count, Check, Table, Cell, Flip, Poke}
use Rattle.script.proofs.Keywords.{text_length, spaced_blank}

-- each limit is a number of 64 bits
abbrev limited : List Argument → Bool
limited [] = true
limited (number limit v ∷ more) = leb limit 18446744073709551615 && limited more
limited (end ∷ more) = limited more

-- at most three arguments, with limits of 64 bits
abbrev small : List Argument → Bool
small more = limited more && leb (length more) 3

arguments_small : (c : Command) → small (arguments c) ≡ true
arguments_small (Brackets v) = refl
arguments_small Neutral = refl
arguments_small (Restrict v) = refl
arguments_small (Start v) = refl
arguments_small (Choice v (Some t)) = refl
arguments_small (Choice v None) = refl
arguments_small (Level v) = refl
arguments_small (Memory a b v) = refl
arguments_small (Bound v) = refl
arguments_small Count = refl
arguments_small Check = refl
arguments_small Table = refl
arguments_small (Cell v) = refl
arguments_small (Flip a b) = refl
arguments_small (Poke a b) = refl

own : IsNumeralModel (λ ds. (i : ℕ) → i < length ds → Digit (get_or ds i 0)) (decimal_after 0)
own = numerals_by_fold _ tells_by_index decimal_after (search rules)

decimal_numeral : (v : ℕ) → v ≤ 18446744073709551615 → Numeral (decimal v) v
decimal_numeral v h = record { some = decimal_nonempty v (omega arith); digits = digits_decimal own v (omega arith); value = sym (digits_value-decimal own v (omega arith)) }

-- a word of an argument has at most 20 bytes, and so on for the others
word_length : (a : Argument) (more : List Argument) → limited (a ∷ more) ≡ true → Within (a ∷ more) → (length (word_of a) ≤ 20) × (limited more ≡ true) × Within more
word_length (number limit v) more l h =
    let p = and_parts (leb limit 18446744073709551615) (limited more) l in
    let q = leb-true limit 18446744073709551615 p.0 in
    (length-decimal-le 20 v (omega arith) (omega arith) (omega arith), p.1, h.1)
word_length end more l h = (omega arith, l, h)

write_words : (more : List Argument) → limited more ≡ true → Within more → WriteAll more (map word_of more)
write_words [] l h = tt
write_words (number limit v ∷ more) l h = let p = and_parts (leb limit 18446744073709551615) (limited more) l in let q = leb-true limit 18446744073709551615 p.0 in ((decimal_numeral v (omega arith), h.0), write_words more p.1 h.1)
write_words (end ∷ more) l h = (refl, write_words more l h)

spaced_length : (w : List ℕ) (more : List Argument) → limited more ≡ true → Within more → length (spaced (w ∷ map word_of more)) ≤ length w + 21 * length more
spaced_length w [] l h = omega arith
spaced_length w (a ∷ more) l h =
    let p = word_length a more l h in
    let r = spaced_length (word_of a) more p.1 p.2 in
    simp length-append (omega arith)

-- each command within its limits is read from its line
pub every_command : EveryCommand
every_command c h =
    let p = and_parts (limited (arguments c)) _ (arguments_small c) in
    let n = leb-true (length (arguments c)) 3 p.1 in
    let t = text_length (keyword_of c) in
    let f = spaced_length (text (keyword_of c)) (arguments c) p.0 h in
    (spaced_blank (keyword_of c) (map word_of (arguments c)), omega arith, record { words = map word_of (arguments c); joined = refl; written = write_words (arguments c) p.0 h })
