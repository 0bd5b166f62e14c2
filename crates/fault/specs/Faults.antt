-- The number, the stage, the place and the text of each fault. Assumes nothing.
use Rattle.std.specs.Prelude.{◌≡◌, ℕ, Bool, ◌&&◌, ◌↔◌, List, ◌++◌, codes, decimal, ◌==◌}
use Rattle.fault.specs.declared.Stage.{Stage}
use Rattle.fault.specs.declared.Stage.TheVariants.{File, Grammar, Spelling, Table, Sentence, Layer, Tour}
use Rattle.fault.specs.declared.Memory.{Memory}
use Rattle.fault.specs.declared.Memory.TheVariants.{Cells, Stack, Output}
use Rattle.fault.specs.declared.Fault.{Fault}
use Rattle.fault.specs.declared.Fault.TheVariants.{MissingByte, UnexpectedMark, FieldOutOfLimits, TrailingBytes, LongNullableSide, LeftRecursion, PredictClash, SpellingClash, TooLong, ShortMemory, CountTooLarge, BrokenCell, NumberTooLarge, ParseStopped, NotSpelled, SettingRefused, OtherCampaign}

-- the number of a fault
abbrev pub fault_number : Fault → ℕ
fault_number (MissingByte p) = 1
fault_number (UnexpectedMark p) = 2
fault_number (FieldOutOfLimits p) = 3
fault_number (TrailingBytes p) = 4
fault_number (LongNullableSide p) = 5
fault_number (LeftRecursion p) = 6
fault_number (PredictClash p) = 7
fault_number (SpellingClash p) = 8
fault_number (TooLong p) = 9
fault_number (ShortMemory m) = 10
fault_number (CountTooLarge p) = 11
fault_number (BrokenCell p) = 12
fault_number (NumberTooLarge p) = 13
fault_number (ParseStopped p) = 14
fault_number (NotSpelled p) = 15
fault_number (SettingRefused p) = 16
fault_number (OtherCampaign p) = 17

-- the stage at which a fault comes
abbrev pub fault_stage : Fault → Stage
fault_stage (MissingByte p) = File
fault_stage (UnexpectedMark p) = File
fault_stage (FieldOutOfLimits p) = File
fault_stage (TrailingBytes p) = File
fault_stage (LongNullableSide p) = Grammar
fault_stage (LeftRecursion p) = Grammar
fault_stage (PredictClash p) = Grammar
fault_stage (SpellingClash p) = Spelling
fault_stage (TooLong p) = Table
fault_stage (ShortMemory m) = Table
fault_stage (CountTooLarge p) = Table
fault_stage (BrokenCell p) = Table
fault_stage (NumberTooLarge p) = Sentence
fault_stage (ParseStopped p) = Sentence
fault_stage (NotSpelled p) = Spelling
fault_stage (SettingRefused p) = Layer
fault_stage (OtherCampaign p) = Tour

-- the number of a stage
abbrev pub stage_number : Stage → ℕ
stage_number File = 1
stage_number Grammar = 2
stage_number Spelling = 3
stage_number Table = 4
stage_number Sentence = 5
stage_number Layer = 6
stage_number Tour = 7

-- the place that names a memory
abbrev pub memory_place : Memory → ℕ
memory_place Cells = 1
memory_place Stack = 2
memory_place Output = 3

-- the place of a fault
abbrev pub fault_place : Fault → ℕ
fault_place (MissingByte p) = p
fault_place (UnexpectedMark p) = p
fault_place (FieldOutOfLimits p) = p
fault_place (TrailingBytes p) = p
fault_place (LongNullableSide p) = p
fault_place (LeftRecursion p) = p
fault_place (PredictClash p) = p
fault_place (SpellingClash p) = p
fault_place (TooLong p) = p
fault_place (ShortMemory m) = memory_place m
fault_place (CountTooLarge p) = p
fault_place (BrokenCell p) = p
fault_place (NumberTooLarge p) = p
fault_place (ParseStopped p) = p
fault_place (NotSpelled p) = p
fault_place (SettingRefused p) = p
fault_place (OtherCampaign p) = p

-- whether the numbers and the places of two faults are equal
abbrev pub same_fault : Fault → Fault → Bool
same_fault f g = fault_number f == fault_number g && fault_place f == fault_place g

-- a fault as text: "fault NUMBER stage STAGE place PLACE"
abbrev pub fault_text : Fault → List ℕ
fault_text f = codes "fault " ++ (decimal (fault_number f) ++ (codes " stage " ++ (decimal (stage_number (fault_stage f)) ++ (codes " place " ++ decimal (fault_place f)))))

-- two faults are equal exactly where their numbers and their places are
abbrev pub NumberAndPlaceIdentify : Type 0
NumberAndPlaceIdentify = (f g : Fault) → (f ≡ g) ↔ ((fault_number f ≡ fault_number g) × (fault_place f ≡ fault_place g))
