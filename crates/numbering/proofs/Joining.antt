-- The sum that joins a first part and a rest. Assumes nothing.
use Rattle.std.proofs.Common.{◌≡◌, ℕ, ◌+◌, ◌-◌, ◌*◌, ◌^◌, ◌<◌, ◌≤◌, List, get_or, take, refl, ap, arith}
use Rattle.theory.specs.Order.{LengthOrder, ListsLengths}
use Rattle.walk.specs.Splits.{sum_listed, SplitAt}
use Rattle.walk.proofs.Splits.{listed_more, listed_next_le, split_below}
use Rattle.walk.proofs.Ways.{length_order, order_short, order_place}
use Rattle.numbering.specs.Parts.{entry_at}
use Rattle.numbering.specs.declared.frame.Part.{Part}

module _ {order : LengthOrder} (lists : ListsLengths order) where
  -- each length up to m has a place among the lengths listed
  pub never_missed : (m j : ℕ) → j ≤ m → ((i : ℕ) → i < m + 1 → get_or (order m) i 0 ≡ j → ⊥) → ⊥
  never_missed m j l h = let p = order_place lists m j l in h p.place (omega (arith, p.below, length_order lists m)) p.is

  module _ (m i j : ℕ) (inside : i ≤ m) (listed : j ≡ get_or (order m) i 0) where
    -- a length that is listed is at most m
    pub listed_short : j ≤ m
    listed_short = omega (arith, order_short lists m i (omega (arith, length_order lists m)))

    module _ (firsts rests : List ℕ) (before : ℕ) (is : before ≡ sum_listed (entry_at firsts) (entry_at rests) m (take i (order m))) where
      -- its product, with those of the lengths before it, is no more than all
      pub product_fits : sum_listed (entry_at firsts) (entry_at rests) m (order m) < 2 ^ 63 → before + get_or firsts j 0 * get_or rests (m - j) 0 < 2 ^ 63
      product_fits small =
          let le = listed_next_le (entry_at firsts) (entry_at rests) m (order m) i (omega (arith, length_order lists m)) in
          omega (arith, ap (λ (x : ℕ). get_or firsts x 0 * get_or rests (m - x) 0) listed)

      -- it is one more term
      pub product_more : before + get_or firsts j 0 * get_or rests (m - j) 0 ≡ sum_listed (entry_at firsts) (entry_at rests) m (take (i + 1) (order m))
      product_more =
          let e = listed_more (entry_at firsts) (entry_at rests) m (order m) i (omega (arith, length_order lists m)) in
          omega (arith, ap (λ (x : ℕ). get_or firsts x 0 * get_or rests (m - x) 0) listed)

  module _ (d u : Part) (i j : ℕ) (inside : i ≤ d.length + u.length) (listed : j ≡ get_or (order (d.length + u.length)) i 0) (found : j ≡ d.length)
      (firsts rests : List ℕ) (before : ℕ) (is : before ≡ sum_listed (entry_at firsts) (entry_at rests) (d.length + u.length) (take i (order (d.length + u.length))))
      (part_low : d.rank < get_or firsts d.length 0) (rest_low : u.rank < get_or rests u.length 0) where
    -- at the length of the first part the two are joined
    pub joined_at : (k : ℕ) → k ≡ before + d.rank * get_or rests u.length 0 + u.rank
        → SplitAt (entry_at firsts) (entry_at rests) (d.length + u.length) (order (d.length + u.length)) k i d.length d.rank u.rank
    joined_at k e =
        let b : d.length + u.length - d.length ≡ u.length = omega arith in
        let same = ap (entry_at rests) b in
        record {
          listed = omega (arith, length_order lists (d.length + u.length));
          is_length = omega arith;
          first = part_low;
          rest = omega (arith, same);
          is = omega (arith, ap (λ (x : ℕ). d.rank * x) same);
        }

    -- and their rank fits
    pub joined_fits : sum_listed (entry_at firsts) (entry_at rests) (d.length + u.length) (order (d.length + u.length)) < 2 ^ 63
        → before + d.rank * get_or rests u.length 0 + u.rank < 2 ^ 63
    joined_fits small = let l = split_below (joined_at _ refl) in omega arith
