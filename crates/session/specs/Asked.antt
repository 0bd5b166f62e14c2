-- What the console answers to each question and what it leaves. Assumes nothing.
use Rattle.std.specs.Prelude.{◌≡◌, ℕ, ◌^◌, cond, ◌&&◌, List, length, take, Some, None, vec_items, Option, Vec, bit_xor, nat_lt, slice_index, slice_set}
use Rattle.fault.specs.declared.Fault.{Fault}
use Rattle.std.specs.declared.alloc.Global.{Global}
use Rattle.theory.specs.Grammar.{Cfg}
use Rattle.table.specs.Rows.{needed, Room}
use Rattle.table.specs.Counts.{SoundTable}
use Rattle.table.specs.Calls as calls
use Rattle.session.specs.declared.answer.Answer.{Answer}
use Rattle.session.specs.declared.answer.Answer.TheVariants.{Done, Counted, Sound, Slot, NoSlot, Table, Cell, NoSuchCell, Refused}

-- the answer to a choice
abbrev pub slot_answer : Option ℕ → Answer
slot_answer None = NoSlot
slot_answer (Some s) = Slot s

-- how counting is answered, and what it leaves in the cells
pub data CountReply (G : Cfg) (L : ℕ) (before after : List ℕ) : Answer → Type 0 where
  counted : calls.Counted G L before after → CountReply G L before after Counted
  refused : (f : Fault) → calls.CountRefused G L before after f → CountReply G L before after (Refused f)

-- how a check is answered
pub data CheckReply (G : Cfg) (L : ℕ) (cells : List ℕ) : Answer → Type 0 where
  sound : Room G L cells → SoundTable G L cells → CheckReply G L cells Sound
  refused : (f : Fault) → calls.CheckRefused G L cells f → CheckReply G L cells (Refused f)

-- how the console shows a table: its needed cells, or why there is no room for it
pub data TableReply (G : Cfg) (L : ℕ) (cells : List ℕ) : Answer → Type 0 where
  shown : (v : Vec ℕ Global) → Room G L cells → vec_items v ≡ take (needed G L) cells → TableReply G L cells (Table v)
  refused : (f : Fault) → calls.NoRoom G L (length cells) f → TableReply G L cells (Refused f)

-- what a cell holds, if there is one of that number
abbrev pub cell_answer : List ℕ → ℕ → Answer
cell_answer cells i = cond (nat_lt i (length cells)) (Cell (slice_index cells i)) NoSuchCell

-- done if there is a cell of that number
abbrev pub written_answer : List ℕ → ℕ → Answer
written_answer cells i = cond (nat_lt i (length cells)) Done NoSuchCell

-- the cells with v written at i, if there is such a cell
abbrev pub written : List ℕ → ℕ → ℕ → List ℕ
written cells i v = cond (nat_lt i (length cells)) (slice_set cells i v) cells

-- done if there is a cell of that number, and the bit is one of 64
abbrev pub flipped_answer : List ℕ → ℕ → ℕ → Answer
flipped_answer cells i b = cond (nat_lt i (length cells) && nat_lt b 64) Done NoSuchCell

-- the cells with bit b of cell i flipped, if there is such a cell and such a bit
abbrev pub flipped : List ℕ → ℕ → ℕ → List ℕ
flipped cells i b = cond (nat_lt i (length cells) && nat_lt b 64) (slice_set cells i (bit_xor (slice_index cells i) (2 ^ b))) cells
