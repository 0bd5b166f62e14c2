-- The top of a stack, put on, taken off and read. Assumes nothing.
use Rattle.std.proofs.Common.{◌≡◌, ◌+◌, ◌-◌, ◌<◌, List, [], ◌∷◌, reverse, length, get_or, take, set, refl, ap, ◌∙◌, arith}
use Rattle.std.proofs.lemmas.List.{take_more, take_more_set, reverse-append, get_or-reverse, length-reverse, length-take-le}
use Rattle.std.proofs.lemmas.Option.{slice_get-get_or}
use Rattle.std.specs.List.{slice_get}
use Rattle.stack.specs.declared.Stack.{Stack}
use Rattle.stack.specs.Held.{held, first_of, Put, Taken}

-- a stack of depth 0 holds nothing
pub held_none : {E : Type 0} (s : Stack E) → s.depth ≡ 0 → held s ≡ []
unfolding held
held_none s e = rw e

-- a stack holds as many as its depth
pub held_length : {E : Type 0} (s : Stack E) → length (held s) ≡ s.depth
unfolding held
held_length s = length-reverse (take s.depth s.entries.now) ∙ length-take-le s.depth s.entries.now s.inside

-- x put on top
pub put : {E : Type 0} (x : E) (s t : Stack E) → t.entries.ghost_name ≡ s.entries.ghost_name → s.depth < length s.entries.now → t.entries.now ≡ set s.entries.now s.depth x → t.depth ≡ s.depth + 1 → Put x s t
unfolding held
put x s t n l i j = record {
  same = n;
  room = l;
  entries = i;
  deeper = j;
  holds = rw (i, j) (ap reverse (take_more_set s.entries.now s.depth x l) ∙ reverse-append (take s.depth s.entries.now) (x ∷ []));
}

-- the top taken off
pub taken : {E : Type 0} (x : E) (s t : Stack E) → t.entries.ghost_name ≡ s.entries.ghost_name → t.entries.now ≡ s.entries.now → s.depth ≡ t.depth + 1 → Taken (get_or s.entries.now t.depth x) s t
unfolding held
taken x s t n i j = record {
  same = n;
  entries = i;
  deeper = j;
  holds = rw (i, j) (ap reverse (take_more s.entries.now t.depth x (omega (arith, s.inside))) ∙ reverse-append (take t.depth s.entries.now) (get_or s.entries.now t.depth x ∷ []));
}

-- the first element of a list
first_is : {E : Type 0} (xs : List E) → slice_get xs 0 ≡ first_of xs
first_is [] = refl
first_is (x ∷ xs) = refl

-- the last element of a list is the first of the reversed list
last_is : {E : Type 0} (xs : List E) → slice_get xs (length xs - 1) ≡ slice_get (reverse xs) 0
last_is [] = refl
last_is (x ∷ xs) =
    grind (arith, slice_get-get_or (x ∷ xs) (length (x ∷ xs) - 1) x, slice_get-get_or (reverse (x ∷ xs)) 0 x, get_or-reverse (x ∷ xs) 0 x, length-reverse (x ∷ xs))

-- the top read: the last of the entries below the depth
pub top : {E : Type 0} (s : Stack E) → slice_get (take s.depth s.entries.now) (length (take s.depth s.entries.now) - 1) ≡ first_of (held s)
unfolding held
top s = last_is (take s.depth s.entries.now) ∙ first_is (reverse (take s.depth s.entries.now))
