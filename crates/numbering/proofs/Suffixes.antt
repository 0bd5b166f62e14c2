-- What the rows of a table say of the suffix at a position of a frame, and how the part there adds up with those behind it. Assumes nothing.
use Rattle.std.proofs.Common.{◌≡◌, ℕ, zero, suc, ◌+◌, ◌^◌, ◌<◌, ◌≤◌, List, ◌∷◌, length, get_or, drop, slice_index, Some, sym, ap, ◌∙◌, add-zero, add-one, zero-add, arith}
use Rattle.std.specs.List.{range_with_len, sum_by}
use Rattle.std.proofs.lemmas.List.{drop_all}
use Rattle.std.proofs.lemmas.List.Sums.{sum_by-cons}
use Rattle.theory.specs.Grammar.{Symbol, terminal, nonterminal, Cfg}
use Rattle.theory.specs.Sound.{Ll1}
use Rattle.theory.specs.Order.{LengthOrder, ListsLengths}
use Rattle.theory.specs.Count.{left_of, right_of, if_left, side_count, count}
use Rattle.theory.proofs.Counting.{slots_none, slots_more, slots_le, is_rule}
use Rattle.grammar.specs.Symbols.{symbol_at}
use Rattle.grammar.specs.declared.Symbol.TheVariants as value
use Rattle.table.specs.Reading.{side_ways, SoundCells}
use Rattle.table.specs.declared.Row.TheVariants.{Nonterminal, Suffix}
use Rattle.table.proofs.RowCells.{row_read, row_long, row_count, row_low, ways_read}
use Rattle.table.proofs.Sides.{nonterminal_known}
use Rattle.walk.specs.Splits.{sum_listed}
use Rattle.walk.specs.Ways.{CountedBy, slot_ways, ways_before}
use Rattle.walk.proofs.Ways.{counted_first, counted_rest, sum_count}
use Rattle.walk.proofs.Slots.{own_ways, ways_before_le}
use Rattle.numbering.specs.Parts.{no_part, frame_side, PartOf, AddsUp, PartsFrom, tokens_from, AddsUpFrom, entry_at, Joins}
use Rattle.numbering.specs.declared.frame.Part.{Part}
use Rattle.numbering.specs.declared.frame.Frame.{Frame}
use Rattle.grammar.proofs.Symbols.{terminal_at, nonterminal_at}
use Rattle.numbering.proofs.Adding.{part_there, both_length, add_terminal, add_last, add_joined}

module _ {G : Cfg} {level : ℕ → ℕ} {order : LengthOrder} (ll : Ll1 G level) (lists : ListsLengths order) (f : Frame) (p : ℕ) (parts : PartsFrom order G f p) (u : Part)
    (rest : AddsUpFrom order G f (p + 1) u) where
  -- the part of the symbol at the position
  abbrev part : Part
  part = get_or f.parts p no_part

  module _ {X : Symbol} (at : drop p (frame_side G f) ≡ X ∷ drop (suc p) (frame_side G f)) where
    parts_at : drop p f.parts ≡ part ∷ drop (suc p) f.parts
    parts_at = part_there order G X (drop (suc p) (frame_side G f)) p f.parts (rw at at parts)

    -- it is one of the symbol's
    of : PartOf order G X part
    of = let a = rw (at, parts_at) at parts in a.0

    behind : AddsUp order G (drop (suc p) (frame_side G f)) (drop (suc p) f.parts) u
    behind = rw add-one at rest

    -- as many tokens from the position on as the two parts have
    length_from : length (tokens_from order G f p) ≡ part.length + u.length
    length_from = rw (at, parts_at) (both_length ll lists X (drop (suc p) (frame_side G f)) part (drop (suc p) f.parts) u of behind)

    -- what holds of the symbol and the part, with what is behind, holds of all from the position on
    all_from : {d : Part} → AddsUp order G (X ∷ drop (suc p) (frame_side G f)) (part ∷ drop (suc p) f.parts) d → AddsUpFrom order G f p d
    all_from a = rw (at, parts_at) a

  module _ {t : ℕ} (said : Some (value.Terminal t) ≡ symbol_at (frame_side G f) p) where
    is_terminal : drop p (frame_side G f) ≡ terminal t ∷ drop (suc p) (frame_side G f)
    is_terminal = terminal_at (frame_side G f) p t said

    -- what is behind a terminal has no more tokens
    pub rest_short : u.length ≤ length (tokens_from order G f p)
    rest_short = omega (arith, length_from is_terminal)

    pub terminal_here : AddsUpFrom order G f p (record { length = u.length + 1; rank = u.rank })
    terminal_here = all_from is_terminal (add_terminal ll lists t _ part _ u (of is_terminal) (behind is_terminal))

  module _ {A : ℕ} (said : Some (value.Nonterminal A) ≡ symbol_at (frame_side G f) p) where
    at : drop p (frame_side G f) ≡ nonterminal A ∷ drop (suc p) (frame_side G f)
    at = nonterminal_at (frame_side G f) p A said

    known : A < G.nonterminals
    known = nonterminal_known ll.limits f.slot p A _ at

    -- the two parts have as many tokens as all from the position on
    pub length_both : part.length + u.length ≡ length (tokens_from order G f p)
    length_both = sym (length_from at)

    -- the last symbol
    pub last_here : p + 1 ≡ length (frame_side G f) → AddsUpFrom order G f p part
    last_here last = all_from at (add_last ll lists A _ part _ (drop_all (suc p) (frame_side G f) (omega arith)) (of at))

    module _ {L : ℕ} {cells offsets : List ℕ} (sound : SoundCells G L cells offsets) (inside : f.slot < G.slots) (there : p < length (frame_side G f))
        (short : length (tokens_from order G f p) ≤ L) (n : ℕ) (long : n ≡ length (frame_side G f)) (more : p + 1 ≡ n → ⊥) (firsts rests : List ℕ)
        (first_row : firsts ≡ row_read sound (Nonterminal A)) (rest_row : rests ≡ row_read sound (Suffix f.slot (p + 1))) where
      -- the row of the rests is one of the table's
      row : (f.slot < G.slots) × (p + 1 < length (frame_side G f))
      row = (inside, omega arith)

      -- the rows count the sentences of the nonterminal and the ways of what is behind
      rows_count : CountedBy G A (drop (suc p) (frame_side G f)) (part.length + u.length) (entry_at firsts) (entry_at rests)
      rows_count = record {
        first = λ j l. ap {B = ℕ} (λ (row : List ℕ). entry_at row j) first_row ∙ row_count sound (Nonterminal A) j known (omega (arith, length_both));
        rest =
            λ k l. ap {B = ℕ} (λ (row : List ℕ). entry_at row k) rest_row
            ∙ row_count sound (Suffix f.slot (p + 1)) k row (omega (arith, length_both))
            ∙ ap (λ (i : ℕ). side_count (count G) (drop i (frame_side G f)) k) (add-one p);
      }

      -- what joining the part and the rest asks: the rows have an entry for each length, the ranks are below the counts, and all ways of the suffix fit
      pub joins
          : record {
            first_long : part.length + u.length < length firsts;
            rest_long : part.length + u.length < length rests;
            part_low : part.rank < slice_index firsts part.length;
            rest_low : u.rank < slice_index rests u.length;
            small : sum_listed (entry_at firsts) (entry_at rests) (part.length + u.length) (order (part.length + u.length)) < 2 ^ 63;
          }
      joins =
          let b = behind at in
          record {
            first_long = omega (arith, length_both, ap {B = ℕ} length first_row, row_long sound (Nonterminal A) known);
            rest_long = omega (arith, length_both, ap {B = ℕ} length rest_row, row_long sound (Suffix f.slot (p + 1)) row);
            part_low = omega (arith, of at, counted_first ll lists rows_count part.length (omega arith));
            rest_low = omega (arith, b.low, counted_rest ll lists rows_count u.length (omega arith));
            small =
                omega (
                  arith,
                  sum_count ll lists rows_count,
                  ap {B = ℕ} (λ (Ys : List Symbol). side_count (count G) Ys (part.length + u.length)) at,
                  row_low sound (Suffix f.slot p) (part.length + u.length) (inside, there) (omega (arith, length_both)),
                );
          }

      -- a nonterminal with more behind it
      pub joined_here : {k : ℕ} → Joins order firsts rests part u k → AddsUpFrom order G f p (record { length = part.length + u.length; rank = k })
      joined_here j = all_from at (add_joined ll lists firsts rests rows_count j (behind at))

module _ {G : Cfg} {level : ℕ → ℕ} (ll : Ll1 G level) {L : ℕ} {cells offsets : List ℕ} (sound : SoundCells G L cells offsets) (A m : ℕ) (short : m ≤ L) where
  -- the ways of a slot, as they are read
  ways_of_slot : (s : ℕ) → s < G.slots
      → if_left (left_of (G.slot s)) A (side_ways (right_of (G.slot s)) (row_read sound (Suffix s 0)) m) ≡ if_left (left_of (G.slot s)) A (slot_ways G m s)
  ways_of_slot s l = ap (if_left (left_of (G.slot s)) A) (ways_read sound s m l short)

  -- how many ways a slot has, if it is one of A's, as they are read
  abbrev pub read_ways : ℕ → ℕ
  read_ways s = if_left (left_of (G.slot s)) A (side_ways (right_of (G.slot s)) (row_read sound (Suffix s 0)) m)

  -- those of the slots from s on, added to those of the slots before
  ways_listed : (n s : ℕ) → s + n ≤ G.slots → ways_before G A m s + sum_by read_ways (range_with_len s n) ≡ ways_before G A m (s + n)
  ways_listed zero s l = omega (arith, ap (ways_before G A m) (add-zero s))
  ways_listed (suc n) s l =
      let e : s + suc n ≡ (s + 1) + n = omega arith in
      omega (arith, sum_by-cons read_ways s (range_with_len (s + 1) n), ways_listed n (s + 1) (omega arith), slots_more G A (slot_ways G m) s, ways_of_slot s (omega arith), ap (ways_before G A m) e)

  -- all of the slots before s
  pub ways_all : (s : ℕ) → s ≤ G.slots → sum_by read_ways (range_with_len 0 s) ≡ ways_before G A m s
  ways_all s l = omega (arith, ways_listed s 0 (omega arith), ap (ways_before G A m) (zero-add s), slots_none G A (slot_ways G m))

  -- the ways of the slots before one of A's, with a rank in that slot, fit
  pub ways_before_fit : (s q r : ℕ) → s ≤ q → q < G.slots → left_of (G.slot q) ≡ Some A → r ≤ slot_ways G m q → ways_before G A m s + r < 2 ^ 63
  ways_before_fit s q r l o own low =
      let known = ll.limits.left_known q A (right_of (G.slot q)) (is_rule (G.slot q) own) in
      omega (
        arith,
        slots_le G A (slot_ways G m) s q l,
        ways_before_le ll A m q o,
        own_ways (left_of (G.slot q)) A (slot_ways G m q) own,
        row_low sound (Nonterminal A) m known short,
      )
