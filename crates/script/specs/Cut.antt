-- The words of a text, cut at each space.
use Rattle.std.specs.Prelude.{ℕ, List, [], Some, None, Option, ◌==◌}
use Rattle.std.specs.Borrow.{Bor}
use Rattle.std.specs.List.{slice_split}
use Rattle.script.specs.declared.words.Words.{Words}

-- the words of a text
abbrev pub cut : List ℕ → List (List ℕ)
cut text = slice_split (λ b. b == 32) text

-- the words of what is not read yet, none once all is read
abbrev pub unread_of : Option (Bor (List ℕ)) → List (List ℕ)
unread_of None = []
unread_of (Some t) = cut t.now

-- the words of a text that are not read yet
abbrev pub unread : Words → List (List ℕ)
unread words = unread_of words.rest
