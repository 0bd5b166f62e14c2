-- Sums over splits and slots, and the equation that the computed counts satisfy. Assumes nothing.
use Rattle.std.proofs.Common.{◌≡◌, ℕ, zero, suc, ◌+◌, ◌-◌, ◌*◌, ◌<◌, ◌≤◌, ◌⊎◌, List, [], ◌∷◌, ◌++◌, Some, None, Option, sym, refl, ap, ◌∙◌, subst, ap₂, inl, inr, ⊎_elim, le_refl, add-zero, add-suc, mul-zero, zero-mul, add-one, arith}
use Rattle.std.proofs.lemmas.Bool.{cases_eq, eq-eqb, ne_eqb}
use Rattle.theory.specs.Grammar.{Symbol, terminal, nonterminal, Slot, empty, rule, Cfg}
use Rattle.theory.specs.Sets.{Nullable, none, next, Leads, at_front, past, LeftCorner}
use Rattle.theory.specs.Sound.{Levels, Ll1}
use Rattle.theory.specs.Count.{left_of, right_of, if_left, sum_slots, sum_upward, sum_splits, symbol_count, side_count, trees, count}

-- a sum of no terms
pub upward_none : (f h : ℕ → ℕ) (m : ℕ) → sum_upward f h m 0 ≡ 0
unfolding sum_upward
upward_none f h m = refl

-- one more term
pub upward_more : (f h : ℕ → ℕ) (m j : ℕ) → sum_upward f h m (j + 1) ≡ sum_upward f h m j + f j * h (m - j)
unfolding sum_upward
upward_more f h m j = rw add-one

-- d more terms give no less
upward_grows : (f h : ℕ → ℕ) (m j d : ℕ) → sum_upward f h m j ≤ sum_upward f h m (j + d)
unfolding sum_upward
upward_grows f h m j zero = rw add-zero (le_refl _)
upward_grows f h m j (suc d) = let i = upward_grows f h m j d in rw add-suc (omega arith)

-- more terms give no less
pub upward_le : (f h : ℕ → ℕ) (m j k : ℕ) → j ≤ k → sum_upward f h m j ≤ sum_upward f h m k
upward_le f h m j k l =
    let e : j + (k - j) ≡ k = omega arith in
    subst (λ (x : ℕ). sum_upward f h m j ≤ sum_upward f h m x) e (upward_grows f h m j (k - j))

-- equal terms give equal sums
pub upward_same : (f f' h h' : ℕ → ℕ) (m n : ℕ) → ((j : ℕ) → f j ≡ f' j) → ((k : ℕ) → h k ≡ h' k) → sum_upward f h m n ≡ sum_upward f' h' m n
unfolding sum_upward
upward_same f f' h h' m zero p q = refl
upward_same f f' h h' m (suc j) p q =
    ap₂ {C = ℕ} (λ (a b : ℕ). a + b) (upward_same f f' h h' m j p q) (ap₂ {C = ℕ} (λ (a b : ℕ). a * b) (p j) (q (m - j)))

-- sums whose terms agree, but for a last factor that meets a 0
pub upward_near : (f f' h h' : ℕ → ℕ) (m : ℕ) → ((j : ℕ) → j ≤ m → f j ≡ f' j) → ((k : ℕ) → k < m → h k ≡ h' k) → (f' 0 ≡ 0) ⊎ (h m ≡ h' m)
    → (n : ℕ) → n ≤ m + 1 → sum_upward f h m n ≡ sum_upward f' h' m n
unfolding sum_upward
upward_near f f' h h' m p q z zero l = refl
upward_near f f' h h' m p q z (suc j) l =
    ap₂ {C = ℕ} (λ (a b : ℕ). a + b) (upward_near f f' h h' m p q z j (omega arith)) (at j (omega arith))
  where
    first : (f' 0 ≡ 0) ⊎ (h m ≡ h' m) → f 0 * h m ≡ f' 0 * h' m
    first (inl e) = ap (λ (a : ℕ). a * h m) (p 0 (omega arith) ∙ e) ∙ zero-mul (h m) ∙ sym (ap (λ (a : ℕ). a * h' m) e ∙ zero-mul (h' m))
    first (inr e) = ap₂ {C = ℕ} (λ (a b : ℕ). a * b) (p 0 (omega arith)) e

    at : (j : ℕ) → j ≤ m → f j * h (m - j) ≡ f' j * h' (m - j)
    at zero o = let e : m - 0 ≡ m = omega arith in rw e (first z)
    at (suc i) o = ap₂ {C = ℕ} (λ (a b : ℕ). a * b) (p (suc i) o) (q (m - suc i) (omega arith))

-- the same of all splits
pub splits_near : (f f' h h' : ℕ → ℕ) (m : ℕ) → ((j : ℕ) → j ≤ m → f j ≡ f' j) → ((k : ℕ) → k < m → h k ≡ h' k) → (f' 0 ≡ 0) ⊎ (h m ≡ h' m)
    → sum_splits f h m ≡ sum_splits f' h' m
splits_near f f' h h' m p q z = upward_near f f' h h' m p q z (m + 1) (omega arith)

-- a sum over no slots
pub slots_none : (G : Cfg) (A : ℕ) (f : ℕ → ℕ) → sum_slots G A f 0 ≡ 0
unfolding sum_slots
slots_none G A f = refl

-- one more slot
pub slots_more : (G : Cfg) (A : ℕ) (f : ℕ → ℕ) (s : ℕ) → sum_slots G A f (s + 1) ≡ sum_slots G A f s + if_left (left_of (G.slot s)) A (f s)
unfolding sum_slots
slots_more G A f s = rw add-one

-- d more slots give no less
slots_grow : (G : Cfg) (A : ℕ) (f : ℕ → ℕ) (s d : ℕ) → sum_slots G A f s ≤ sum_slots G A f (s + d)
unfolding sum_slots
slots_grow G A f s zero = rw add-zero (le_refl _)
slots_grow G A f s (suc d) = let i = slots_grow G A f s d in rw add-suc (omega arith)

-- more slots give no less
pub slots_le : (G : Cfg) (A : ℕ) (f : ℕ → ℕ) (s q : ℕ) → s ≤ q → sum_slots G A f s ≤ sum_slots G A f q
slots_le G A f s q l =
    let e : s + (q - s) ≡ q = omega arith in
    subst (λ (x : ℕ). sum_slots G A f s ≤ sum_slots G A f x) e (slots_grow G A f s (q - s))

-- what counts only where the left-hand side is A
pub if_same : (o : Option ℕ) (A x y : ℕ) → (o ≡ Some A → x ≡ y) → if_left o A x ≡ if_left o A y
if_same None A x y h = refl
if_same (Some B) A x y h = ⊎_elim (λ e. rw (eq-eqb B A e) (h (ap Some e))) (λ ne. rw (ne_eqb B A ne)) (cases_eq B A)

-- sums over slots that agree at the slots of A
pub slots_same : (G : Cfg) (A : ℕ) (f f' : ℕ → ℕ) (n : ℕ) → ((s : ℕ) → s < n → left_of (G.slot s) ≡ Some A → f s ≡ f' s)
    → sum_slots G A f n ≡ sum_slots G A f' n
unfolding sum_slots
slots_same G A f f' zero h = refl
slots_same G A f f' (suc s) h =
    ap₂ {C = ℕ} (λ (x y : ℕ). x + y)
    (slots_same G A f f' s (λ q l. h q (omega arith)))
    (if_same (left_of (G.slot s)) A (f s) (f' s) (h s (le_refl (suc s))))

-- a slot with a left-hand side holds a rule
pub is_rule : (o : Slot) {A : ℕ} → left_of o ≡ Some A → o ≡ rule A (right_of o)
is_rule empty e = let z : ◌≡◌ {A = ℕ} 0 1 = cc in absurd (omega arith)
is_rule (rule B w) e = cc

-- nullable symbols before nullable symbols
pub nullable_join : {G : Cfg} {u v : List Symbol} → Nullable G u → Nullable G v → Nullable G (u ++ v)
nullable_join none q = q
nullable_join (next s Ys r p t) q = next s Ys r p (nullable_join t q)

-- a nonterminal with only nullable symbols before it leads
pub leads_at : {G : Cfg} (u v : List Symbol) (B : ℕ) → Nullable G u → Leads G (u ++ (nonterminal B ∷ v)) B
leads_at [] v B none = at_front refl
leads_at (terminal t ∷ u) v B n = elim n [ ]
leads_at (nonterminal A ∷ u) v B (next s Ys r p t) = past (next s Ys r p none) (leads_at u v B t)

-- symbols in which B leads: nullable symbols, then B, then others
pub record Led (G : Cfg) (Xs : List Symbol) (B : ℕ) : Type 0 where
  pub before : List Symbol
  pub after : List Symbol
  pub split : Xs ≡ before ++ (nonterminal B ∷ after)
  pub nullable : Nullable G before

-- what stands before and after a nonterminal that leads
pub leads_split : {G : Cfg} {Xs : List Symbol} {B : ℕ} → Leads G Xs B → Led G Xs B
leads_split (at_front {A} {B} {Xs} e) =
    record { before = []; after = Xs; split = ap {B = List Symbol} (λ (C : ℕ). nonterminal C ∷ Xs) e; nullable = none }
leads_split (past {A} n l) =
    let r = leads_split l in
    record {
      before = nonterminal A ∷ r.before;
      after = r.after;
      split = ap {B = List Symbol} (λ ys. nonterminal A ∷ ys) r.split;
      nullable = nullable_join n r.nullable;
    }

-- no way to no tokens, where the first symbol or the rest has none
side_zero : (F : ℕ → ℕ → ℕ) (X : Symbol) (Xs : List Symbol) → (symbol_count F X 0 ≡ 0) ⊎ (side_count F Xs 0 ≡ 0) → side_count F (X ∷ Xs) 0 ≡ 0
unfolding side_count sum_upward
side_zero F X Xs (inl e) = omega (arith, ap (λ (x : ℕ). x * side_count F Xs 0) e ∙ zero-mul (side_count F Xs 0))
side_zero F X Xs (inr e) = omega (arith, ap (λ (x : ℕ). symbol_count F X 0 * x) e ∙ mul-zero (symbol_count F X 0))

-- symbols that give no tokens in some way are nullable, where nonterminals are
pub side_nullable : (G : Cfg) (F : ℕ → ℕ → ℕ) → ((B : ℕ) → (F B 0 ≡ 0 → ⊥) → Nullable G (nonterminal B ∷ [])) → (Xs : List Symbol)
    → (side_count F Xs 0 ≡ 0 → ⊥) → Nullable G Xs
side_nullable G F h [] n = none
side_nullable G F h (terminal t ∷ Xs) n = absurd (n (side_zero F (terminal t) Xs (inl refl)))
side_nullable G F h (nonterminal B ∷ Xs) n =
    nullable_join (h B (λ e. n (side_zero F (nonterminal B) Xs (inl e)))) (side_nullable G F h Xs (λ e. n (side_zero F (nonterminal B) Xs (inr e))))

-- what is not 0 has the left-hand side A
if_some : (o : Option ℕ) (A n : ℕ) → (if_left o A n ≡ 0 → ⊥) → (o ≡ Some A) × (n ≡ 0 → ⊥)
if_some None A n h = absurd (h refl)
if_some (Some B) A n h = ⊎_elim (λ e. (ap Some e, λ z. h (rw (eq-eqb B A e) z))) (λ ne. absurd (h (rw (ne_eqb B A ne)))) (cases_eq B A)

-- a sum over slots that is not 0 has a slot of A whose term is not 0
pub slots_some : (G : Cfg) (A : ℕ) (f : ℕ → ℕ) (n : ℕ) → (sum_slots G A f n ≡ 0 → ⊥) → (s : ℕ) × (left_of (G.slot s) ≡ Some A) × (f s ≡ 0 → ⊥)
unfolding sum_slots
slots_some G A f zero h = absurd (h refl)
slots_some G A f (suc s) h =
    ⊎_elim
    (λ e. slots_some G A f s (λ z. h (omega arith)))
    (λ ne. let i = if_some (left_of (G.slot s)) A (f s) ne in (s, i.0, i.1))
    (cases_eq (if_left (left_of (G.slot s)) A (f s)) 0)

-- a nonterminal with a tree without leaves is nullable
pub trees_nullable : (G : Cfg) (f B : ℕ) → (trees G f B 0 ≡ 0 → ⊥) → Nullable G (nonterminal B ∷ [])
unfolding trees
trees_nullable G zero B h = absurd (h refl)
trees_nullable G (suc f) B h =
    let i = slots_some G B (λ s. side_count (trees G f) (right_of (G.slot s)) 0) G.slots h in
    next i.0 (right_of (G.slot i.0)) (is_rule (G.slot i.0) i.1)
    (side_nullable G (trees G f) (trees_nullable G f) (right_of (G.slot i.0)) i.2) none

-- a nonterminal whose count at 0 is not 0 is nullable
pub count_nullable : (G : Cfg) (A : ℕ) → (count G A 0 ≡ 0 → ⊥) → Nullable G (nonterminal A ∷ [])
unfolding count
count_nullable G A h = trees_nullable G 16 A h

-- counts that agree at a nonterminal give equal counts of the symbol
symbol_same : (F F' : ℕ → ℕ → ℕ) (X : Symbol) (j : ℕ) → ((B : ℕ) → X ≡ nonterminal B → F B j ≡ F' B j) → symbol_count F X j ≡ symbol_count F' X j
symbol_same F F' (terminal t) j h = refl
symbol_same F F' (nonterminal B) j h = h B refl

-- counts of nonterminals that agree up to a length give equal counts of symbols at that length
pub side_same : (F F' : ℕ → ℕ → ℕ) (Xs : List Symbol) (k : ℕ) → ((B j : ℕ) → j ≤ k → F B j ≡ F' B j) → side_count F Xs k ≡ side_count F' Xs k
unfolding side_count
side_same F F' [] k h = refl
side_same F F' (X ∷ Xs) k h =
    splits_near (symbol_count F X) (symbol_count F' X) (side_count F Xs) (side_count F' Xs) k
    (λ j l. symbol_same F F' X j (λ B e. h B j l))
    (λ i l. side_same F F' Xs i (λ B j o. h B j (omega arith)))
    (inr (side_same F F' Xs k h))

module _ (G : Cfg) (F F' : ℕ → ℕ → ℕ) (m : ℕ) (less : (B k : ℕ) → k < m → F B k ≡ F' B k)
    (nul : (B : ℕ) → (F' B 0 ≡ 0 → ⊥) → Nullable G (nonterminal B ∷ [])) where
  -- at the length itself they need agree only at the nonterminals that lead: elsewhere they meet a 0
  pub side_near : (Xs : List Symbol) → ((B : ℕ) → Leads G Xs B → F B m ≡ F' B m) → side_count F Xs m ≡ side_count F' Xs m
  unfolding side_count
  side_near [] h = refl
  side_near (terminal t ∷ Xs) h =
      splits_near (symbol_count F (terminal t)) (symbol_count F' (terminal t)) (side_count F Xs) (side_count F' Xs) m
      (λ j l. refl)
      (λ k l. side_same F F' Xs k (λ B j o. less B j (omega arith)))
      (inl refl)
  side_near (nonterminal A ∷ Xs) h =
      splits_near (F A) (F' A) (side_count F Xs) (side_count F' Xs) m
      (λ j l. ⊎_elim
      (λ (i : j ≡ m). subst (λ (x : ℕ). F A x ≡ F' A x) (sym i) (h A (at_front refl)))
      (λ ne. less A j (omega arith))
      (cases_eq j m))
      (λ k l. side_same F F' Xs k (λ B j o. less B j (omega arith)))
      (⊎_elim inl (λ ne. inr (side_near Xs (λ B l. h B (past (nul A ne) l)))) (cases_eq (F' A 0) 0))

  -- the same of the right-hand sides of A: they need agree at its left corners
  slots_near : (A : ℕ) → ((B : ℕ) → LeftCorner G A B → F B m ≡ F' B m) → (n : ℕ)
      → sum_slots G A (λ s. side_count F (right_of (G.slot s)) m) n ≡ sum_slots G A (λ s. side_count F' (right_of (G.slot s)) m) n
  slots_near A h n =
      slots_same G A (λ s. side_count F (right_of (G.slot s)) m) (λ s. side_count F' (right_of (G.slot s)) m) n
      (λ s l e. side_near (right_of (G.slot s)) (λ B d. h B (record { slot = s; side = right_of (G.slot s); holds = is_rule (G.slot s) e; leads = d })))

module _ {G : Cfg} {level : ℕ → ℕ} (ls : Levels G level) where
  -- once there are levels enough, more change nothing
  trees_stable : (f f' A m : ℕ) → 16 * m + level A + 1 ≤ f → 16 * m + level A + 1 ≤ f' → trees G f A m ≡ trees G f' A m
  unfolding trees
  trees_stable zero f' A m l l' = absurd (omega arith)
  trees_stable (suc f) zero A m l l' = absurd (omega arith)
  trees_stable (suc f) (suc f') A m l l' =
      slots_near G (trees G f) (trees G f') m
      (λ B k o. let i = ls.small B in trees_stable f f' B k (omega arith) (omega arith))
      (trees_nullable G f') A
      (λ B c. let i = ls.falls A B c in trees_stable f f' B m (omega arith) (omega arith))
      G.slots

  -- the count, by trees with levels enough
  pub count_trees : (f A m : ℕ) → 16 * m + level A + 1 ≤ f → count G A m ≡ trees G f A m
  unfolding count
  count_trees f A m l = let i = ls.small A in trees_stable (16 * m + 16) f A m (omega arith) l

  -- one more level of trees
  trees_step : (f A m : ℕ) → trees G (suc f) A m ≡ sum_slots G A (λ s. side_count (trees G f) (right_of (G.slot s)) m) G.slots
  unfolding trees
  trees_step f A m = refl

  -- the count is the sum of the counts of its right-hand sides
  pub count_by_slots : (A m : ℕ) → sum_slots G A (λ s. side_count (count G) (right_of (G.slot s)) m) G.slots ≡ count G A m
  count_by_slots A m =
      let i = ls.small A in
      slots_near G (count G) (trees G (16 * m + 15)) m
      (λ B k o. let j = ls.small B in count_trees (16 * m + 15) B k (omega arith))
      (trees_nullable G (16 * m + 15)) A
      (λ B c. let j = ls.falls A B c in count_trees (16 * m + 15) B m (omega arith))
      G.slots ∙
      sym (trees_step (16 * m + 15) A m) ∙
      sym (count_trees (suc (16 * m + 15)) A m (omega arith))

-- the same of a grammar that is LL(1)
pub count_equation : {G : Cfg} {level : ℕ → ℕ} → Ll1 G level → (A m : ℕ)
    → sum_slots G A (λ s. side_count (count G) (right_of (G.slot s)) m) G.slots ≡ count G A m
count_equation ll A m = count_by_slots ll.levels A m
