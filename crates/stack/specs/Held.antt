-- What a stack over lent entries holds, and what its calls change. Assumes nothing.
use Rattle.std.specs.Prelude.{◌≡◌, ◌+◌, ◌<◌, List, [], ◌∷◌, reverse, length, take, Some, None, Option, Ok, Err, Result, slice_set}
use Rattle.stack.specs.declared.Stack.{Stack}

-- what a stack holds, the last pushed first
unfoldable pub held : {E : Type 0} → Stack E → List E
held s = reverse (take s.depth s.entries.now)

-- the first element, none of the empty list
abbrev pub first_of : {E : Type 0} → List E → Option E
first_of [] = None
first_of (x ∷ xs) = Some x

-- in each record below `same` says that the stack still has the slice that was lent

-- x is put on top, into the first entry that is free, and all other entries are unchanged
pub record Put {E : Type 0} (x : E) (before after : Stack E) : Type 0 where
  pub same : after.entries.ghost_name ≡ before.entries.ghost_name
  pub room : before.depth < length before.entries.now
  pub entries : after.entries.now ≡ slice_set before.entries.now before.depth x
  pub deeper : after.depth ≡ before.depth + 1
  pub holds : held after ≡ x ∷ held before

-- every entry is taken, and nothing is changed
pub record Full {E : Type 0} (before after : Stack E) : Type 0 where
  pub same : after.entries.ghost_name ≡ before.entries.ghost_name
  pub full : before.depth ≡ length before.entries.now
  pub entries : after.entries.now ≡ before.entries.now
  pub as_deep : after.depth ≡ before.depth

-- what a push leaves: x on top, or x handed back and nothing changed, since every entry is taken
abbrev pub Pushed : {E : Type 0} → E → Stack E → Stack E → Result (Unit {0}) E → Type 0
Pushed x before after (Ok done) = Put x before after
Pushed x before after (Err back) = Full before after × (back ≡ x)

-- x was on top and is taken off, and all entries are unchanged
pub record Taken {E : Type 0} (x : E) (before after : Stack E) : Type 0 where
  pub same : after.entries.ghost_name ≡ before.entries.ghost_name
  pub entries : after.entries.now ≡ before.entries.now
  pub deeper : before.depth ≡ after.depth + 1
  pub holds : held before ≡ x ∷ held after

-- the stack was empty, and nothing is changed
pub record Empty {E : Type 0} (before after : Stack E) : Type 0 where
  pub same : after.entries.ghost_name ≡ before.entries.ghost_name
  pub entries : after.entries.now ≡ before.entries.now
  pub was_empty : before.depth ≡ 0
  pub is_empty : after.depth ≡ 0

-- what a pop leaves: the top is answered and taken off, or none is answered of an empty stack
abbrev pub Popped : {E : Type 0} → Stack E → Stack E → Option E → Type 0
Popped before after (Some x) = Taken x before after
Popped before after None = Empty before after
