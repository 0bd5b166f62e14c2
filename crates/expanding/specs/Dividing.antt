-- Which slot, which length and which ranks a number stands for. Assumes nothing.
use Rattle.std.specs.Prelude.{◌≡◌, ℕ, ◌+◌, ◌<◌, ◌≤◌, List, [], ◌++◌, length, Some, slice_index, slice_index_or}
use Rattle.theory.specs.Grammar.{Cfg}
use Rattle.theory.specs.Order.{LengthOrder}
use Rattle.theory.specs.Count.{left_of}
use Rattle.theory.specs.Enumerate.{sentences}
use Rattle.walk.specs.Splits.{SplitAt}
use Rattle.walk.specs.Ways.{slot_ways, ways_before}
use Rattle.expanding.specs.declared.frame.Frame.{Frame}
use Rattle.expanding.specs.declared.frame.Part.{Part}
use Rattle.expanding.specs.Frames.{ways_left, to_write, rest_frame}

-- the cells of a row, by length
abbrev pub cell_of : List ℕ → ℕ → ℕ
cell_of row j = slice_index row j

-- k stands at some place of the sum over the lengths js of a first part, at which it has the part p
pub record Divided (f h : ℕ → ℕ) (m : ℕ) (js : List ℕ) (k : ℕ) (p : Part) : Type 0 where
  pub place : ℕ
  pub split : SplitAt f h m js k place p.length p.rank p.rest

-- f is at the front of a slot of A, with m tokens to write, and with the rank that k has among the ways of that slot, behind those of the slots of A before it
pub record Opened (G : Cfg) (A m k : ℕ) (f : Frame) : Type 0 where
  pub filled : f.slot < G.slots
  pub of : left_of (G.slot f.slot) ≡ Some A
  pub front : f.position ≡ 0
  pub long : f.length ≡ m
  pub low : f.rank < slot_ways G m f.slot
  pub is : k ≡ ways_before G A m f.slot + f.rank

-- p is the first part of what f, which stands before A, is still to write: a sentence of A, before what the rest is to write
pub record Parted (order : LengthOrder) (G : Cfg) (f : Frame) (A : ℕ) (p : Part) : Type 0 where
  pub short : p.length ≤ f.length
  pub first : p.rank < length (sentences order G A p.length)
  pub rest : p.rest < length (ways_left order G (rest_frame f p))
  pub writes : to_write order G f ≡ slice_index_or (sentences order G A p.length) p.rank [] ++ to_write order G (rest_frame f p)
