-- The equations have one solution, the counts; and what a count that is filled or stopped says of the counts themselves.
use Rattle.std.proofs.Common.{◌≡◌, ℕ, zero, suc, ◌+◌, ◌-◌, ◌^◌, ◌<◌, ◌≤◌, ◌⊎◌, List, [], ◌∷◌, length, take, drop, sym, refl, ap, ◌∙◌, subst, inl, inr, ⊎_elim, le_refl, add-one, arith}
use Rattle.std.proofs.lemmas.Bool.{cases_eq, cases_lt}
use Rattle.fault.specs.declared.Fault.{Fault}
use Rattle.theory.specs.Grammar.{Symbol, terminal, nonterminal, Cfg}
use Rattle.theory.specs.Sets.{Nullable}
use Rattle.theory.specs.Sound.{Ll1}
use Rattle.theory.specs.Count.{right_of, symbol_count, count}
use Rattle.theory.proofs.Counting.{nullable_join, count_nullable}
use Rattle.theory.proofs.Members.{exactly_unique}
use Rattle.theory.proofs.Listing.{computed_count, computed_ways}
use Rattle.theory.proofs.Laws.{one_way_to_nothing}
use Rattle.table.specs.Rows.{RowOf, row_number, cell_at, Room}
use Rattle.table.specs.Equations.{equation, Obeys, AllObey}
use Rattle.table.specs.Counts.{StandsFor, SoundTable, Passes, CountsFit, FirstPasses, count_of}
use Rattle.table.specs.Filling.{Correct, CorrectBelow, NeedsNoRest, CornersCorrect, LeadingCorrect}
use Rattle.table.specs.Calls.{NoRoom, too_long, short_cells, Stopped, CountRefused, no_room, too_large}
use Rattle.table.specs.Laws.{EquationsHaveOneSolution, CountsFitBelowFailure}
use Rattle.table.specs.declared.Row.{Row}
use Rattle.table.specs.declared.Row.TheVariants.{Nonterminal, Suffix}
use Rattle.table.proofs.Sides.{drop_next, symbol_there, take_next, nonterminal_known}
use Rattle.table.proofs.Due.{suffix_due, nonterminal_due}
use Rattle.table.proofs.Prefix.{end_last, leaders_of}

symbol_nullable : (G : Cfg) (X : Symbol) → (symbol_count (count G) X 0 ≡ 0 → ⊥) → Nullable G (X ∷ [])
symbol_nullable G (terminal t) ne = absurd (ne refl)
symbol_nullable G (nonterminal B) ne = count_nullable G B ne

module _ {G : Cfg} {level : ℕ → ℕ} (ll : Ll1 G level) where
  -- the computed count is the count
  counts : (ρ : Row) (m : ℕ) → StandsFor G ρ m (count_of G ρ m)
  counts (Nonterminal A) m = computed_count ll A m
  counts (Suffix s p) m = computed_ways ll (drop p (right_of (G.slot s))) m

  unique : (ρ : Row) (m k : ℕ) → StandsFor G ρ m k → k ≡ count_of G ρ m
  unique (Nonterminal A) m k c = exactly_unique _ _ c (computed_count ll A m)
  unique (Suffix s p) m k c = exactly_unique _ _ c (computed_ways ll (drop p (right_of (G.slot s))) m)

module _ {G : Cfg} {level : ℕ → ℕ} (ll : Ll1 G level) {L : ℕ} {t : List ℕ} where
  -- a cell that obeys an equation which says the count holds the count
  obeys_right : (ρ : Row) (m : ℕ) → Obeys G L t ρ m → equation G L t ρ m ≡ count_of G ρ m → Correct G L t ρ m
  obeys_right ρ m o e = record { is = o.equal ∙ e; low = subst (λ (x : ℕ). x < 2 ^ 63) (o.equal ∙ e) o.small }

  module _ (obey : AllObey G L t) (m : ℕ) (short : m ≤ L) (below : CorrectBelow G L t m) where
    -- the suffixes behind nullable symbols, from the last down
    prefix : (s n p : ℕ) → s < G.slots → LeadingCorrect G L t (right_of (G.slot s)) m → n + p ≡ length (right_of (G.slot s)) → 0 < n
        → Nullable G (take p (right_of (G.slot s))) → Correct G L t (Suffix s p) m
    prefix s zero p i h e l v = absurd (omega arith)
    prefix s (suc n) p i h e l v =
        let w = right_of (G.slot s) in
        let o : p < length w = omega arith in
        let x = symbol_there w p o in
        let d = drop_next w p x.0 x.1 x.2 in
        let behind : NeedsNoRest G w p ⊎ Correct G L t (Suffix s (p + 1)) m =
        ⊎_elim
        (λ q. inl (λ X Xs f. let j : X ≡ x.0 = cc (f, x.2) in inr (ap (λ (Y : Symbol). symbol_count (count G) Y 0) j ∙ q)))
        (λ ne. ⊎_elim
        (λ q. inl (end_last G w p (omega arith)))
        (λ q. inr (subst (λ (y : ℕ). Correct G L t (Suffix s y) m) (sym (add-one p))
        (prefix s n (suc p) i h (omega arith) (omega arith)
        (subst (λ (u : List Symbol). Nullable G u) (sym (take_next w p x.0 x.1 x.2)) (nullable_join v (symbol_nullable G x.0 ne))))))
        (cases_eq n 0))
        (cases_eq (symbol_count (count G) x.0 0) 0) in
        obeys_right (Suffix s p) m (obey (Suffix s p) m (i, o) short)
        (suffix_due ll.limits below s p i o (λ B Xs f. h p B Xs v f) behind)

    -- the nonterminals, by ascending level
    heads : (k A : ℕ) → level A < k → A < G.nonterminals → Correct G L t (Nonterminal A) m
    heads zero A l i = absurd (omega arith)
    heads (suc k) A l i =
        let corners : CornersCorrect G L t A m = λ B j c. heads k B (omega (arith, ll.levels.falls A B c)) j in
        obeys_right (Nonterminal A) m (obey (Nonterminal A) m i short)
        (nonterminal_due ll A m
        (λ s o e p q v. prefix s (length (right_of (G.slot s)) - p) p o (leaders_of ll.limits A m s corners e) (omega arith) (omega arith) v))

    head : (A : ℕ) → A < G.nonterminals → Correct G L t (Nonterminal A) m
    head A i = heads (suc (level A)) A (le_refl _) i

    -- all suffixes, from the last down
    suffixes : (s n p : ℕ) → s < G.slots → n + p ≡ length (right_of (G.slot s)) → 0 < n → Correct G L t (Suffix s p) m
    suffixes s zero p i e l = absurd (omega arith)
    suffixes s (suc n) p i e l =
        let w = right_of (G.slot s) in
        let o : p < length w = omega arith in
        let behind : NeedsNoRest G w p ⊎ Correct G L t (Suffix s (p + 1)) m =
        ⊎_elim
        (λ q. inl (end_last G w p (omega arith)))
        (λ q. inr (subst (λ (y : ℕ). Correct G L t (Suffix s y) m) (sym (add-one p)) (suffixes s n (suc p) i (omega arith) (omega arith))))
        (cases_eq n 0) in
        obeys_right (Suffix s p) m (obey (Suffix s p) m (i, o) short)
        (suffix_due ll.limits below s p i o (λ B Xs f. head B (nonterminal_known ll.limits s p B Xs f)) behind)

    rows_right : (ρ : Row) → RowOf G ρ → Correct G L t ρ m
    rows_right (Nonterminal A) i = head A i
    rows_right (Suffix s p) i = suffixes s (length (right_of (G.slot s)) - p) p i.0 (omega arith) (omega arith)

  -- a table that obeys its equations holds the counts, length by length
  obey_right : AllObey G L t → (m : ℕ) → m ≤ L + 1 → CorrectBelow G L t m
  obey_right obey zero l ρ k i o = absurd (omega arith)
  obey_right obey (suc m) l ρ k i o =
      let below = obey_right obey m (omega arith) in
      ⊎_elim
      (λ e. subst (λ (x : ℕ). Correct G L t ρ x) (sym e) (rows_right obey m (omega arith) below ρ i))
      (λ ne. below ρ k i (omega arith))
      (cases_eq k m)

  -- and the counts obey the equations
  right_obeys : CorrectBelow G L t (L + 1) → AllObey G L t
  right_obeys right ρ m i l =
      let r = right ρ m i (omega arith) in
      record { equal = r.is ∙ sym (due ρ i); small = subst (λ (x : ℕ). x < 2 ^ 63) (sym r.is) r.low }
    where
      below : CorrectBelow G L t m
      below σ k h o = right σ k h (omega arith)

      due : (σ : Row) → RowOf G σ → equation G L t σ m ≡ count_of G σ m
      due (Nonterminal A) h = nonterminal_due ll A m (λ s o e p q v. right (Suffix s p) m (o, q) (omega arith))
      due (Suffix s p) h =
          suffix_due ll.limits {m = m} below s p h.0 h.1
          (λ B Xs e. right (Nonterminal B) m (nonterminal_known ll.limits s p B Xs e) (omega arith))
          (⊎_elim
          (λ o. inr (right (Suffix s (p + 1)) m (h.0, o) (omega arith)))
          (λ o. inl (end_last G (right_of (G.slot s)) p o))
          (cases_lt (p + 1) (length (right_of (G.slot s)))))

  pub right_sound : CorrectBelow G L t (L + 1) → SoundTable G L t
  right_sound right ρ m i l =
      let r = right ρ m i (omega arith) in
      record {
        counts = subst (λ (x : ℕ). StandsFor G ρ m x) (sym r.is) (counts ll ρ m);
        small = subst (λ (x : ℕ). x < 2 ^ 63) (sym r.is) r.low;
      }

  pub sound_right : SoundTable G L t → CorrectBelow G L t (L + 1)
  sound_right sound ρ m i l =
      let c = sound ρ m i (omega arith) in
      let e = unique ll ρ m (cell_at L t (row_number G ρ) m) c.counts in
      record { is = e; low = subst (λ (x : ℕ). x < 2 ^ 63) e c.small }

  pub obey_sound : AllObey G L t → SoundTable G L t
  obey_sound obey = right_sound (obey_right obey (L + 1) (le_refl _))

  pub sound_obeys : SoundTable G L t → AllObey G L t
  sound_obeys sound = right_obeys (sound_right sound)

  -- the counts of a sound table fit
  pub sound_fits : SoundTable G L t → CountsFit G L
  sound_fits sound m l p =
      let r = sound_right sound p.row m p.is_row (omega arith) in
      let e = unique ll p.row m p.value p.counts in
      omega (arith, p.large, r.low)

  -- a count that stopped at m passes the limit there first
  pub first_passes : {before : List ℕ} (m : ℕ) → Stopped G L before t m → FirstPasses G L m
  first_passes m s = record {
    short = s.short;
    passes = record { row = s.over.row; is_row = s.over.is_row; value = count_of G s.over.row m; counts = counts ll s.over.row m; large = s.over.over };
    first = λ k l p.
        let e = unique ll p.row k p.value p.counts in
        let f = s.before_fits p.row k p.is_row l in
        omega (arith, p.large);
  }

-- where there is room, there is no fault of room
pub room_enough : {G : Cfg} {L : ℕ} {t : List ℕ} {f : Fault} → Room G L t → NoRoom G L (length t) f → ⊥
room_enough r (too_long l) = omega (arith, r.small)
room_enough r (short_cells l n) = omega (arith, r.enough)

-- where there is room and the counts fit, no fault refuses the count
pub fit_counts : {G : Cfg} {L : ℕ} {t u : List ℕ} {f : Fault} → Room G L t → CountsFit G L → CountRefused G L t u f → ⊥
fit_counts r h (no_room n e) = room_enough r n
fit_counts r h (too_large m o p z) = h m p.short p.passes

pub one_solution : EquationsHaveOneSolution
one_solution G level ll L cells = (obey_sound ll, sound_obeys ll)

-- each count at length 0 is at most 1
none_at : (G : Cfg) (ρ : Row) (k : ℕ) → StandsFor G ρ 0 k → k ≤ 1
none_at G (Nonterminal A) k c = (one_way_to_nothing G).0 A k c
none_at G (Suffix s p) k c = (one_way_to_nothing G).1 (drop p (right_of (G.slot s))) k c

-- so none passes the limit there
passes_later : {G : Cfg} {m : ℕ} → Passes G m → 0 < m
passes_later {m = zero} p = absurd (omega (arith, p.large, none_at _ p.row p.value p.counts))
passes_later {m = suc m} p = omega arith

pub fit_below : CountsFitBelowFailure
fit_below G level ll L m f =
    let positive = passes_later f.passes in
    let fits : CountsFit G (m - 1) = λ k l p. f.first k (omega arith) p in
    record { positive = positive; fits = fits; not_refused = λ before after e r c. fit_counts r fits c }
