-- The parts, the slots and the ranks that a number stands for. Assumes nothing.
use Rattle.std.proofs.Common.{◌≡◌, ℕ, ◌+◌, ◌-◌, ◌*◌, ◌/◌, ◌%◌, ◌^◌, ◌<◌, ◌≤◌, List, [], ◌∷◌, ◌++◌, length, get_or, take, sym, refl, ap, ◌∙◌, arith}
use Rattle.std.proofs.lemmas.List.{drop_all}
use Rattle.theory.specs.Lists.{joined}
use Rattle.theory.specs.Grammar.{Symbol, nonterminal, Cfg}
use Rattle.theory.specs.Sound.{Ll1}
use Rattle.theory.specs.Order.{LengthOrder, ListsLengths}
use Rattle.theory.specs.Count.{left_of, right_of, if_left, count, side_count}
use Rattle.theory.specs.Enumerate.{sentences}
use Rattle.theory.proofs.Counting.{slots_more}
use Rattle.table.specs.Reading.{numbered_row, row_cells, side_ways, SoundCells}
use Rattle.table.specs.declared.Row.TheVariants.{Nonterminal, Suffix}
use Rattle.table.proofs.Sides.{drop_next, nonterminal_known}
use Rattle.table.proofs.RowCells.{row_long, row_count, row_low, ways_read}
use Rattle.walk.specs.Depth.{side_of, suffix_of, next_place}
use Rattle.walk.specs.Splits.{sum_listed}
use Rattle.walk.specs.Ways.{ways, CountedBy, slot_ways, ways_before}
use Rattle.walk.proofs.Splits.{listed_more, product_le, split_inside, split_by_division}
use Rattle.walk.proofs.Ways.{length_order, order_short, ways_none, last_length, last_nth, sum_ways, sum_count, split_short, split_first, split_rest, split_nth}
use Rattle.walk.proofs.Slots.{slot_own, slot_inside}
use Rattle.expanding.specs.declared.frame.Frame.{Frame}
use Rattle.expanding.specs.declared.frame.Part.{Part}
use Rattle.expanding.specs.Frames.{place_of, FrameOf, AtNonterminal}
use Rattle.expanding.specs.Dividing.{cell_of, Divided, Opened, Parted}

-- the length at a place of the lengths up to m is at most m
pub length_short : {order : LengthOrder} → ListsLengths order → (m i j : ℕ) → i < m + 1 → j ≡ get_or (order m) i 0 → j ≤ m
length_short lists m i j l is = omega (arith, length_order lists m, order_short lists m i (omega (arith, length_order lists m)))

module _ {order : LengthOrder} (lists : ListsLengths order) (f h : ℕ → ℕ) (m i j : ℕ) (l : i < m + 1) (is : j ≡ get_or (order m) i 0) where
  -- the place is one of the order's
  listed : i < length (order m)
  listed = omega (arith, length_order lists m)

  same_product : f j * h (m - j) ≡ f (get_or (order m) i 0) * h (m - get_or (order m) i 0)
  same_product = ap {B = ℕ} (λ (x : ℕ). f x * h (m - x)) is

  -- the product there is at most the sum
  pub product_in_sum : f j * h (m - j) ≤ sum_listed f h m (order m)
  product_in_sum = omega (arith, same_product, product_le f h m (order m) i listed)

  -- what is left behind the product there
  pub behind_product : (k x b : ℕ) → k ≡ sum_listed f h m (take i (order m)) + x → x ≡ f j * h (m - j) + b → k ≡ sum_listed f h m (take (i + 1) (order m)) + b
  behind_product k x b e q = omega (arith, same_product, listed_more f h m (order m) i listed)

  -- what is below the product there, divided
  pub divided : (k x : ℕ) (p : Part) → k ≡ sum_listed f h m (take i (order m)) + x → x < f j * h (m - j)
      → p.length ≡ j → p.rank ≡ x / h (m - j) → p.rest ≡ x % h (m - j) → Divided f h m (order m) k p
  divided k x p e o a b c = record { place = i; split = rw (a, b, c) (split_by_division f h m (order m) k i j x listed is o e) }

-- nothing is left behind all products
pub no_more_products : {order : LengthOrder} → ListsLengths order → (f h : ℕ → ℕ) (m i k x : ℕ) → m + 1 ≤ i → k ≡ sum_listed f h m (take i (order m)) + x
    → k < sum_listed f h m (order m) → ⊥
no_more_products {order} lists f h m i k x l e o = omega (arith, split_inside f h m (order m) i k x e o, length_order lists m)

module _ {G : Cfg} {level : ℕ → ℕ} (ll : Ll1 G level) {L : ℕ} {cells firsts : List ℕ} (sound : SoundCells G L cells firsts) where
  module _ (A m s x k r : ℕ) (short : m ≤ L) (inside : s < G.slots) (is : k ≡ ways_before G A m s + x)
      (read : r ≡ if_left (left_of (G.slot s)) A (side_ways (right_of (G.slot s)) (row_cells L cells (numbered_row firsts (Suffix s 0))) m)) where
    read_ways : r ≡ if_left (left_of (G.slot s)) A (slot_ways G m s)
    read_ways = read ∙ ap (λ (n : ℕ). if_left (left_of (G.slot s)) A n) (ways_read sound s m inside short)

    -- a rank below the ways of the slot
    pub opened : x < r → Opened G A m k (record { slot = s; position = 0; length = m; rank = x })
    opened l =
        let o = slot_own (left_of (G.slot s)) A (slot_ways G m s) x (omega (arith, read_ways)) in
        record { filled = inside; of = o.0; front = refl; long = refl; low = o.1; is = is }

    -- what is left behind them
    pub behind_slot : (b : ℕ) → x ≡ r + b → k ≡ ways_before G A m (s + 1) + b
    behind_slot b e = omega (arith, slots_more G A (slot_ways G m) s, read_ways)

  -- the cell of the start at n, as it is read, is its count
  pub start_count : (n A : ℕ) (row : List ℕ) → n ≤ L → A ≡ G.start → row ≡ row_cells L cells (numbered_row firsts (Nonterminal A))
      → (n < length row) × (get_or row n 0 ≡ count G G.start n)
  start_count n A row short a e =
      let at : A < G.nonterminals = omega (arith, ll.limits.start_known) in (
        omega (arith, ap length e, row_long sound (Nonterminal A) at),
        ap {B = ℕ} (λ (r : List ℕ). get_or r n 0) e ∙ row_count sound (Nonterminal A) n at short ∙ ap {B = ℕ} (λ (B : ℕ). count G B n) a,
      )

  -- nothing is left behind all slots
  pub no_more_slots : (A m s k x : ℕ) → s ≡ G.slots → k ≡ ways_before G A m s + x → k < count G A m → ⊥
  no_more_slots A m s k x e i l = omega (arith, slot_inside ll A m s k x (omega arith) i l)

-- the rows that count the first parts and the rests of a frame
pub record RowsFor (order : LengthOrder) (G : Cfg) (f : Frame) (A : ℕ) (first rest : List ℕ) : Type 0 where
  pub first_long : f.length < length first
  pub rest_long : f.length < length rest
  pub counted : CountedBy G A (suffix_of G (next_place (place_of f))) f.length (cell_of first) (cell_of rest)
  pub low : f.rank < sum_listed (cell_of first) (cell_of rest) f.length (order f.length)
  pub within : sum_listed (cell_of first) (cell_of rest) f.length (order f.length) < 2 ^ 63

module _ {G : Cfg} {level : ℕ → ℕ} {order : LengthOrder} (ll : Ll1 G level) (lists : ListsLengths order) (f : Frame) (A : ℕ) (at : AtNonterminal G f A) where
  -- the nonterminal stands inside the right-hand side
  pub before_inside : f.position < length (side_of G (place_of f))
  before_inside = omega (arith, (drop_next (side_of G (place_of f)) f.position (nonterminal A) _ at).1)

  -- the last symbol has the whole length and rank
  pub last_parted : {L : ℕ} → FrameOf order G L f → f.position + 1 ≡ length (side_of G (place_of f))
      → Parted order G f A (record { length = f.length; rank = f.rank; rest = 0 })
  last_parted fr e =
      let none : suffix_of G (next_place (place_of f)) ≡ [] = drop_all (f.position + 1) (side_of G (place_of f)) (omega arith) in
      let alone : suffix_of G (place_of f) ≡ nonterminal A ∷ [] = at ∙ ap {B = List Symbol} (λ (v : List Symbol). nonterminal A ∷ v) none in
      let zero : f.length - f.length ≡ 0 = omega arith in
      let low : f.rank < length (sentences order G A f.length) =
      omega (arith, fr.low, ap {B = ℕ} (λ (v : List Symbol). length (ways order G v f.length)) alone, last_length ll lists A f.length) in
      let rest : ways order G (suffix_of G (next_place (place_of f))) (f.length - f.length) ≡ [] ∷ [] =
      ap {B = List (List (List ℕ))} (λ (v : List Symbol). ways order G v (f.length - f.length)) none
      ∙ ap {B = List (List (List ℕ))} (λ (x : ℕ). ways order G [] x) zero
      ∙ ways_none order G in
      record {
        short = omega arith;
        first = low;
        rest = omega (arith, ap {B = ℕ} length rest);
        writes =
            ap {B = List ℕ} (λ (v : List Symbol). joined (get_or (ways order G v f.length) f.rank [])) alone
            ∙ ap {B = List ℕ} joined (last_nth ll lists A f.length f.rank low)
            ∙ ap {B = List ℕ} (λ (v : List (List (List ℕ))). get_or (sentences order G A f.length) f.rank [] ++ joined (get_or v 0 [])) (sym rest);
      }

  -- any other has the length and the rank that the sum over the two rows gives
  pub split_parted : {first rest : List ℕ} → RowsFor order G f A first rest → (p : Part)
      → Divided (cell_of first) (cell_of rest) f.length (order f.length) f.rank p → Parted order G f A p
  split_parted rows p d = record {
    short = split_short ll lists rows.counted d.split;
    first = split_first ll lists rows.counted d.split;
    rest = split_rest ll lists rows.counted d.split;
    writes =
        ap {B = List ℕ} (λ (v : List Symbol). joined (get_or (ways order G v f.length) f.rank [])) at
        ∙ ap {B = List ℕ} joined (split_nth ll lists rows.counted d.split);
  }

  -- the two rows, as they are read
  pub rows_for : {L : ℕ} {cells firsts : List ℕ} → SoundCells G L cells firsts → FrameOf order G L f → f.position + 1 < length (side_of G (place_of f))
      → {first rest : List ℕ} → first ≡ row_cells L cells (numbered_row firsts (Nonterminal A)) → rest ≡ row_cells L cells (numbered_row firsts (Suffix f.slot (f.position + 1)))
      → RowsFor order G f A first rest
  rows_for sound fr more {first} {rest} a b =
      let G-row = nonterminal_known ll.limits f.slot f.position A (suffix_of G (next_place (place_of f))) at in
      let counted : CountedBy G A (suffix_of G (next_place (place_of f))) f.length (cell_of first) (cell_of rest) = record {
        first = λ j l. ap {B = ℕ} (λ (row : List ℕ). cell_of row j) a ∙ row_count sound (Nonterminal A) j G-row (omega (arith, fr.short));
        rest = λ k l. ap {B = ℕ} (λ (row : List ℕ). cell_of row k) b ∙ row_count sound (Suffix f.slot (f.position + 1)) k (fr.filled, more) (omega (arith, fr.short));
      } in
      let whole = ap {B = ℕ} (λ (v : List Symbol). length (ways order G v f.length)) at in
      let wide = ap {B = ℕ} (λ (v : List Symbol). side_count (count G) v f.length) at in
      record {
        first_long = omega (arith, ap length a, row_long sound (Nonterminal A) G-row, fr.short);
        rest_long = omega (arith, ap length b, row_long sound (Suffix f.slot (f.position + 1)) (fr.filled, more), fr.short);
        counted = counted;
        low = omega (arith, fr.low, whole, sum_ways ll lists counted);
        within = omega (arith, sum_count ll lists counted, wide, row_low sound (Suffix f.slot f.position) f.length (fr.filled, omega arith) fr.short);
      }
