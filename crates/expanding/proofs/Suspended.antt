-- The steps of an expansion, where the suspended frames are on a stack. Assumes nothing.
use Rattle.std.proofs.Common.{◌≡◌, ℕ, ◌<◌, List, [], ◌∷◌, map, length, Some, None, sym, ap, ◌∙◌, subst, arith, length-set}
use Rattle.theory.specs.Sound.{Ll1}
use Rattle.theory.specs.Order.{LengthOrder, ListsLengths}
use Rattle.grammar.specs.declared.Grammar.{Ghosts}
use Rattle.grammar.specs.declared.Symbol.TheVariants as value
use Rattle.stack.specs.declared.Stack.{Stack}
use Rattle.stack.specs.Held.{held, Put, Taken, Empty}
use Rattle.stack.proofs.Tops.{held_none, held_length}
use Rattle.table.specs.GrammarCountsOf.{grammar_of, bound_of}
use Rattle.walk.specs.Measure.{measure}
use Rattle.expanding.specs.declared.frame.Frame.{Frame}
use Rattle.expanding.specs.declared.frame.Part.{Part}
use Rattle.expanding.specs.declared.expansion.Expansion.{Expansion}
use Rattle.expanding.specs.Frames.{rest_frame, place_of, all_to_write}
use Rattle.expanding.specs.Dividing.{Opened, Parted}
use Rattle.expanding.specs.Expansions.{ExpansionAt, room_of, symbol_here, Stands, to_come, measure_of, Goes}
use Rattle.expanding.proofs.Steps.{close_step, close_same, close_less, open_room, open_step, open_same, open_less}

module _ {T U : Type 0} {members : Ghosts T} (order : U → LengthOrder) (d : Expansion T U members)
    (ll : Ll1 (grammar_of d.unranking.counts.now) (members.levels d.unranking.counts.now.grammar.now)) (lists : ListsLengths (order d.unranking.policy.now)) (st : Stands order d) where
  -- d with another frame at work, over other suspended ones
  abbrev with_frames : Frame → Stack Frame → Expansion T U members
  with_frames f s = record { unranking = d.unranking; suspended = s; frame = f }

  -- a step to the frames fs, with the same room
  steps : (f : Frame) (s : Stack Frame) (fs : List Frame) → f ∷ held s ≡ fs → length s.entries.now ≡ room_of d
      → ExpansionAt (order d.unranking.policy.now) (grammar_of d.unranking.counts.now) (members.levels d.unranking.counts.now.grammar.now) (bound_of d.unranking.counts.now) (room_of d) fs
      → all_to_write (order d.unranking.policy.now) (grammar_of d.unranking.counts.now) fs ≡ to_come order d
      → measure (grammar_of d.unranking.counts.now) (room_of d) (map place_of fs) < measure_of d → Goes order d (with_frames f s)
  steps f s fs is e at same falls = record {
    at = rw (is, e) at;
    same = subst (λ (gs : List Frame). all_to_write (order d.unranking.policy.now) (grammar_of d.unranking.counts.now) gs ≡ to_come order d) (sym is) same;
    falls = rw e (subst (λ (gs : List Frame). measure (grammar_of d.unranking.counts.now) (room_of d) (map place_of gs) < measure_of d) (sym is) falls);
  }

  module _ (e : None ≡ symbol_here d) {t : Stack Frame} where
    -- the frame at work is done, and the last suspended one goes on
    pub pop_step : {g : Frame} → Taken g d.suspended t → Goes order d (with_frames g t)
    pop_step {g} h = steps g t (held d.suspended) (sym h.holds) (ap length h.entries) (close_step ll lists st e) (close_same ll lists st e) (close_less ll lists st e)

    -- the frame at work is done, and none is suspended
    pub end_step : Empty d.suspended t → (to_come order d ≡ []) × (to_come order (with_frames d.frame t) ≡ [])
    end_step h =
        let before = held_none d.suspended h.was_empty in
        let nothing = sym (close_same ll lists (rw before at st) e) in
        (rw before nothing, rw (held_none t h.is_empty) nothing)

  module _ (A : ℕ) (e : Some (value.Nonterminal A) ≡ symbol_here d) where
    -- the stack has room for one more
    pub push_room : d.suspended.depth < room_of d
    push_room = omega (arith, open_room ll lists st A e, held_length d.suspended)

    -- a frame is opened, and the rest of the frame at work is suspended
    pub push_step : {p : Part} {g h : Frame} {t : Stack Frame} → Parted (order d.unranking.policy.now) (grammar_of d.unranking.counts.now) d.frame A p
        → Opened (grammar_of d.unranking.counts.now) A p.length p.rank g → h ≡ rest_frame d.frame p → Put h d.suspended t → Goes order d (with_frames g t)
    push_step {p} {g} {h} {t} parted o is put =
        steps g t (g ∷ rest_frame d.frame p ∷ held d.suspended) (ap {B = List Frame} (λ (fs : List Frame). g ∷ fs) (put.holds ∙ ap {B = List Frame} (λ (x : Frame). x ∷ held d.suspended) is))
        (ap length put.entries ∙ length-set d.suspended.entries.now d.suspended.depth h) (open_step ll lists st A e p g parted o) (open_same ll lists st A e p g parted o)
        (open_less ll lists st A e p g parted o)
