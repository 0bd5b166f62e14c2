-- Where a parse stands: the frame at work, the suspended frames below it, and the tokens that are gone. Assumes nothing.
use Rattle.std.specs.Prelude.{◌≡◌, ℕ, ◌<◌, ◌≤◌, List, [], ◌∷◌, ◌++◌, map, length, take, drop, Some, Ok, Err, Option, Result}
use Rattle.theory.specs.Lists.{joined}
use Rattle.theory.specs.Grammar.{Symbol, nonterminal, Cfg}
use Rattle.theory.specs.Sets.{Next}
use Rattle.theory.specs.Order.{LengthOrder, Rank}
use Rattle.theory.specs.Count.{left_of}
use Rattle.stack.specs.Held.{held}
use Rattle.stack.specs.declared.Stack.{Stack}
use Rattle.walk.specs.Depth.{Place, suffix_of, next_place, Chain}
use Rattle.walk.specs.Measure.{measure}
use Rattle.parser.specs.Parser.{StopsAfter}
use Rattle.parser.proofs.Steps.{ComesTo}
use Rattle.numbering.specs.Parts.{frame_side, AllParts, all_tokens}
use Rattle.numbering.specs.declared.frame.Frame.{Frame}
use Rattle.numbering.specs.declared.parsing.Stopped.{Stopped}

-- the suspended frames, the last one first
abbrev pub suspended_frames : Stack Frame → List Frame
suspended_frames s = held s

-- how many frames there is room for
abbrev pub room_of : Stack Frame → ℕ
room_of s = length s.entries.now

-- where the frame at work stands
abbrev pub place_of : Frame → Place
place_of f = record { slot = f.slot; position = f.position }

-- where a suspended frame stands: past the nonterminal for which the next frame was opened
abbrev pub suspended_place : Frame → Place
suspended_place f = next_place (place_of f)

-- where all frames stand
abbrev pub places : Frame → List Frame → List Place
places f fs = place_of f ∷ map suspended_place fs

-- the tokens of the parts that a frame has
abbrev pub frame_tokens : LengthOrder → Cfg → Frame → List ℕ
frame_tokens order G f = joined (all_tokens order G (take f.position (frame_side G f)) f.parts)

-- the tokens of all frames, those of the lowest first
abbrev pub gone_tokens : LengthOrder → Cfg → List Frame → List ℕ
gone_tokens order G [] = []
gone_tokens order G (f ∷ fs) = gone_tokens order G fs ++ frame_tokens order G f

-- the symbols that the suspended frames have left
abbrev pub symbols_below : Cfg → List Frame → List Symbol
symbols_below G [] = []
symbols_below G (f ∷ fs) = suffix_of G (suspended_place f) ++ symbols_below G fs

-- the symbols that all frames have left
abbrev pub symbols_left : Cfg → Frame → List Frame → List Symbol
symbols_left G f fs = suffix_of G (place_of f) ++ symbols_below G fs

-- the symbols of a frame before its position have their parts
pub record FrameParts (order : LengthOrder) (G : Cfg) (f : Frame) : Type 0 where
  pub six : length f.parts ≡ 6
  pub far : f.position ≤ length (frame_side G f)
  pub parts : AllParts order G (take f.position (frame_side G f)) f.parts

-- so it is with all frames
abbrev pub AllFrames : LengthOrder → Cfg → List Frame → Type 0
AllFrames order G [] = Unit {0}
AllFrames order G (f ∷ fs) = FrameParts order G f × AllFrames order G fs

-- the lowest frame is in a slot of the start
abbrev pub StartLowest : Cfg → Frame → List Frame → Type 0
StartLowest G f [] = left_of (G.slot f.slot) ≡ Some G.start
StartLowest G f (g ∷ fs) = StartLowest G g fs

-- the parse of the tokens stands at the frame f, with the frames fs suspended, when so many tokens are gone
pub record ParseAt (order : LengthOrder) (G : Cfg) (chosen : ℕ → Next → Option ℕ) (level : ℕ → ℕ) (tokens : List ℕ) (f : Frame) (fs : List Frame) (gone : ℕ) : Type 0 where
  pub reach : gone ≤ length tokens
  pub lowest : StartLowest G f fs
  pub frames : AllFrames order G (f ∷ fs)
  pub chain : Chain G level (places f fs) gone
  pub read : gone_tokens order G (f ∷ fs) ≡ take gone tokens
  pub comes : ComesTo G chosen (nonterminal G.start ∷ []) tokens (symbols_left G f fs) (drop gone tokens) gone

-- the parse goes on from the frames f and fs to the frames g and gs, with a measure that falls
pub record Goes_on (order : LengthOrder) (G : Cfg) (chosen : ℕ → Next → Option ℕ) (level : ℕ → ℕ) (tokens : List ℕ) (room : ℕ) (f : Frame) (fs : List Frame) (g : Frame)
    (gs : List Frame) (gone : ℕ) : Type 0 where
  pub at : ParseAt order G chosen level tokens g gs gone
  pub falls : measure G room (places g gs) < measure G room (places f fs)

-- the parse of the tokens stops when so many are gone
abbrev pub ParseStops : Cfg → (ℕ → Next → Option ℕ) → List ℕ → Stopped → Type 0
ParseStops G chosen tokens stopped = StopsAfter G chosen (nonterminal G.start ∷ []) tokens stopped.gone

-- how a parse ends: the rank of the tokens, or how many of them are gone where it stops
abbrev pub ParseAnswer : LengthOrder → Cfg → (ℕ → Next → Option ℕ) → List ℕ → Result ℕ Stopped → Type 0
ParseAnswer order G chosen tokens (Ok k) = Rank G order G.start tokens k
ParseAnswer order G chosen tokens (Err stopped) = ParseStops G chosen tokens stopped
