-- A number that falls with every step of a walk over open frames. Assumes nothing.
use Rattle.std.specs.Prelude.{ℕ, suc, ◌+◌, ◌-◌, ◌*◌, ◌^◌, List, [], ◌∷◌, length}
use Rattle.theory.specs.Grammar.{Cfg}
use Rattle.walk.specs.Depth.{Place, side_of}

-- how many symbols stand behind a place, and one more
abbrev pub symbols_left : Cfg → Place → ℕ
symbols_left G p = length (side_of G p) + 1 - p.position

-- the number to base 8 with these digits from digit c on, the top's the lowest
unfoldable pub weight : Cfg → ℕ → List Place → ℕ
weight G c [] = 0
weight G c (p ∷ ps) = symbols_left G p * 8 ^ c + weight G (suc c) ps

-- that number for at most `most` places, where the bottom's digit is always the same one
abbrev pub measure : Cfg → ℕ → List Place → ℕ
measure G most ps = weight G (most - length ps) ps
