-- The text of each answer. Assumes nothing.
use Rattle.std.specs.Prelude.{ℕ, List, ◌∷◌, ◌++◌, flat_map, vec_items, codes, decimal}
use Rattle.fault.specs.Faults.{fault_text}
use Rattle.session.specs.declared.answer.Answer.{Answer}
use Rattle.session.specs.declared.answer.Answer.TheVariants.{Done, Counted, Sound, Slot, NoSlot, Level, Table, Cell, NoSuchCell, Refused, Unreadable}

-- each number after a space
abbrev pub spaced : List ℕ → List ℕ
spaced = flat_map (λ n. 32 ∷ decimal n)

-- the text of each answer
abbrev pub answer_text : Answer → List ℕ
answer_text Done = codes "ok"
answer_text Counted = codes "counted"
answer_text Sound = codes "sound"
answer_text (Slot s) = codes "slot " ++ decimal s
answer_text NoSlot = codes "none"
answer_text (Level k) = codes "level " ++ decimal k
answer_text (Table cells) = codes "table" ++ spaced (vec_items cells)
answer_text (Cell v) = codes "cell " ++ decimal v
answer_text NoSuchCell = codes "no such cell"
answer_text (Refused f) = fault_text f
answer_text Unreadable = codes "unreadable"
