-- How far a right-hand side is nullable.
use Rattle.std.proofs.Common.{◌≡◌, ℕ, zero, suc, ◌+◌, ◌<◌, ◌≤◌, true, false, ltb, List, [], ◌∷◌, ◌++◌, length, take, drop, Some, Ok, Err, Result, sym, refl, ap, ◌∙◌, subst, inl, inr, ⊎_elim, add-one, arith}
use Rattle.std.proofs.lemmas.Bool.{cases_eq, cases_lt, ltb-true, ltb-false}
use Rattle.std.proofs.lemmas.List.{take-append-drop, take-take, nil_from_length}
use Rattle.theory.specs.Lists.{In}
use Rattle.theory.specs.Grammar.{Symbol, terminal, nonterminal, Slot, empty, rule, Cfg, Derives, done, expand}
use Rattle.theory.specs.Sets.{Nullable, none, next, Leads}
use Rattle.theory.specs.Sound.{Limits, Ll1}
use Rattle.theory.specs.Count.{left_of, right_of, symbol_count, count}
use Rattle.theory.proofs.Counting.{nullable_join, is_rule, leads_at, count_nullable}
use Rattle.theory.proofs.Listing.{computed_count}
use Rattle.grammar.specs.Symbols.{value_of, symbol_at}
use Rattle.grammar.specs.declared.Symbol.{Symbol as Value}
use Rattle.table.specs.Rows.{cell_at}
use Rattle.table.specs.Terms.{symbol_cell}
use Rattle.table.specs.Filling.{Correct, CorrectBelow, Keeps, UnlessOver, FirstsCorrect, NeedsNoRest, CornersCorrect, LeadingCorrect, PrefixCorrectOf, AllDone}
use Rattle.table.specs.declared.filling.TooLarge.{TooLarge}
use Rattle.table.specs.declared.Row.TheVariants.{Nonterminal, Suffix}
use Rattle.table.proofs.Sides.{drop_next, symbol_there, take_next, nonterminal_known}
use Rattle.grammar.proofs.Symbols.{stands_at}
use Rattle.table.proofs.Shown.{symbol_cell_is}

nullable_take : {G : Cfg} {Xs : List Symbol} → Nullable G Xs → (q : ℕ) → Nullable G (take q Xs)
nullable_take none zero = none
nullable_take none (suc q) = none
nullable_take (next s Ys r p n) zero = none
nullable_take (next s Ys r p n) (suc q) = next s Ys r p (nullable_take n q)

nullable_derives : {G : Cfg} {Xs : List Symbol} → Nullable G Xs → Derives G Xs []
nullable_derives none = done
nullable_derives (next s Ys r p n) = expand s Ys [] [] r refl (nullable_derives p) (nullable_derives n)

-- what is nullable counts something at length 0
nullable_counts : {G : Cfg} {level : ℕ → ℕ} → Ll1 G level → (B : ℕ) → Nullable G (nonterminal B ∷ []) → count G B 0 ≡ 0 → ⊥
nullable_counts {G} ll B n z =
    let c = computed_count ll B 0 in
    some c.all ((c.just []).1 (nullable_derives n, refl)) (c.size ∙ z)
  where
    some : (l : List (List ℕ)) → In [] l → length l ≡ 0 → ⊥
    some [] i e = elim i [ ]
    some (x ∷ l) i e = omega arith

first_nullable : {G : Cfg} {X : Symbol} {Xs : List Symbol} → Nullable G (X ∷ Xs) → (B : ℕ) × (X ≡ nonterminal B) × Nullable G (nonterminal B ∷ [])
first_nullable (next {A} s Ys r p n) = (A, refl, next s Ys r p none)

-- what stands at q is nullable, where all before p is and q is before p
within_nullable : {G : Cfg} (Ys : List Symbol) (p q : ℕ) (X : Symbol) (Xs : List Symbol) → Nullable G (take p Ys) → drop q Ys ≡ X ∷ Xs → q < p
    → (B : ℕ) × (X ≡ nonterminal B) × Nullable G (nonterminal B ∷ [])
within_nullable [] p zero X Xs n e l = let z : ◌≡◌ {A = ℕ} 0 1 = cc in absurd (omega arith)
within_nullable [] p (suc q) X Xs n e l = let z : ◌≡◌ {A = ℕ} 0 1 = cc in absurd (omega arith)
within_nullable (Y ∷ Ys) zero q X Xs n e l = absurd (omega arith)
within_nullable {G} (Y ∷ Ys) (suc p) zero X Xs n e l =
    let i : Y ≡ X = cc in
    first_nullable (subst (λ (Z : Symbol). Nullable G (Z ∷ take p Ys)) i n)
within_nullable (Y ∷ Ys) (suc p) (suc q) X Xs (next s Zs r o n) e l = within_nullable Ys p q X Xs n e (omega arith)

-- the prefix of a right-hand side ends where the rest is not needed
pub prefix_within : {G : Cfg} {level : ℕ → ℕ} → Ll1 G level → (Ys : List Symbol) (p q : ℕ) → q < length Ys → NeedsNoRest G Ys q → p < length Ys → Nullable G (take p Ys) → p ≤ q
prefix_within {G} ll Ys p q lq last lp n =
    ⊎_elim (λ o. absurd (over o)) (λ o. o) (cases_lt q p)
  where
    over : q < p → ⊥
    over o =
        let i = symbol_there Ys q lq in
        let w = within_nullable Ys p q i.0 i.1 n i.2 o in
        let d = drop_next Ys q i.0 i.1 i.2 in
        ⊎_elim
        (λ e. omega (arith, ap length e))
        (λ e. nullable_counts ll w.0 w.2 (subst (λ (X : Symbol). symbol_count (count G) X 0 ≡ 0) w.1 e))
        (last i.0 i.1 i.2)

pub end_last : (G : Cfg) (Ys : List Symbol) (p : ℕ) → length Ys ≤ p + 1 → NeedsNoRest G Ys p
end_last G Ys p h X Xs d = let n = drop_next Ys p X Xs d in inl (nil_from_length Xs (omega arith))

-- behind nullable symbols only, the nonterminals are right
pub firsts_of : (G : Cfg) (L : ℕ) (t : List ℕ) (Ys : List Symbol) (r m : ℕ) → Nullable G (take r Ys) → LeadingCorrect G L t Ys m → FirstsCorrect G L t Ys (r + 1) m
firsts_of G L t Ys r m v h q B Xs l e = h q B Xs (subst (λ (u : List Symbol). Nullable G u) (take-take q r Ys (omega arith)) (nullable_take v q)) e

pub leaders_of : {G : Cfg} {L : ℕ} {t : List ℕ} → Limits G → (A m s : ℕ) → CornersCorrect G L t A m → left_of (G.slot s) ≡ Some A → LeadingCorrect G L t (right_of (G.slot s)) m
leaders_of {G} z A m s h e p B Xs v d =
    let w = right_of (G.slot s) in
    let split = sym (take-append-drop p w) ∙ ap (λ (u : List Symbol). take p w ++ u) d in
    h B (nonterminal_known z s p B Xs d)
    (record { slot = s; side = w; holds = is_rule (G.slot s) e; leads = subst (λ (u : List Symbol). Leads G u B) (sym split) (leads_at (take p w) Xs B v) })

-- at length 0 they are right too, by the lengths before or as they are
pub leaders_zero : {G : Cfg} {L : ℕ} {t : List ℕ} {m : ℕ} → Limits G → CorrectBelow G L t m → (s : ℕ) → LeadingCorrect G L t (right_of (G.slot s)) m → LeadingCorrect G L t (right_of (G.slot s)) 0
leaders_zero {G} {L} {t} {m} z below s h p B Xs v d =
    ⊎_elim (λ (e : m ≡ 0). subst (λ (x : ℕ). Correct G L t (Nonterminal B) x) e (h p B Xs v d))
    (λ ne. below (Nonterminal B) 0 (nonterminal_known z s p B Xs d) (omega arith))
    (cases_eq m 0)

module _ {G : Cfg} (L : ℕ) (t : List ℕ) (s p : ℕ) (X : Value) (before : Nullable G (take p (right_of (G.slot s)))) (leaders : LeadingCorrect G L t (right_of (G.slot s)) 0) (is : Some X ≡ symbol_at (right_of (G.slot s)) p) where
  -- what counts nothing at length 0 ends the prefix
  pub prefix_ends : false ≡ ltb 0 (symbol_cell L t X 0) → NeedsNoRest G (right_of (G.slot s)) p
  prefix_ends e Y Ys d =
      let i = stands_at (right_of (G.slot s)) p X is in
      let q : i.0 ≡ Y = cc (i.1, d) in
      inr (go Y d (omega (arith, ltb-false 0 (symbol_cell L t X 0) (sym e), symbol_cell_is L t X Y (ap value_of (sym q) ∙ i.2) 0)))
    where
      go : (Z : Symbol) → drop p (right_of (G.slot s)) ≡ Z ∷ Ys → symbol_count (cell_at L t) Z 0 ≡ 0 → symbol_count (count G) Z 0 ≡ 0
      go (terminal a) f k = refl
      go (nonterminal B) f k = sym (leaders p B Ys before f).is ∙ k

  -- and what counts something goes on
  pub prefix_more : true ≡ ltb 0 (symbol_cell L t X 0) → Nullable G (take (p + 1) (right_of (G.slot s)))
  prefix_more e =
      let i = stands_at (right_of (G.slot s)) p X is in
      go i.0 i.1 (omega (arith, ltb-true 0 (symbol_cell L t X 0) (sym e), symbol_cell_is L t X i.0 i.2 0))
    where
      go : (Z : Symbol) → drop p (right_of (G.slot s)) ≡ Z ∷ drop (suc p) (right_of (G.slot s)) → 0 < symbol_count (cell_at L t) Z 0 → Nullable G (take (p + 1) (right_of (G.slot s)))
      go (terminal a) f k = absurd (omega arith)
      go (nonterminal B) f k =
          let w = right_of (G.slot s) in
          let r = leaders p B (drop (suc p) w) before f in
          subst (λ (u : List Symbol). Nullable G u) (sym (rw add-one (take_next w p (nonterminal B) (drop (suc p) w) f)))
          (nullable_join before (count_nullable G B (λ n. omega (arith, r.is))))

pub done_leaders : {G : Cfg} {L : ℕ} {t : List ℕ} {m : ℕ} → Limits G → AllDone G L t m → (s : ℕ) → LeadingCorrect G L t (right_of (G.slot s)) m
done_leaders z d s p B Xs v e = (d B (nonterminal_known z s p B Xs e)).count

pub done_firsts : {G : Cfg} {L : ℕ} {t : List ℕ} {m : ℕ} → Limits G → AllDone G L t m → (s p : ℕ) → FirstsCorrect G L t (right_of (G.slot s)) p m
done_firsts z d s p q B Xs l e = (d B (nonterminal_known z s q B Xs e)).count

pub done_prefix : {G : Cfg} {L : ℕ} {t : List ℕ} {m : ℕ} → Limits G → AllDone G L t m → (s : ℕ) → s < G.slots → (p q : ℕ) → q ≤ p
    → p < length (right_of (G.slot s)) → Nullable G (take p (right_of (G.slot s))) → Correct G L t (Suffix s q) m
done_prefix {G} {L} {t} {m} z d s i p q o l n = go (G.slot s) refl
  where
    shorter : Nullable G (take q (right_of (G.slot s)))
    shorter = subst (λ (u : List Symbol). Nullable G u) (take-take q p (right_of (G.slot s)) o) (nullable_take n q)

    go : (x : Slot) → G.slot s ≡ x → Correct G L t (Suffix s q) m
    go empty e = absurd (omega (arith, ap (λ (y : Slot). length (right_of y)) e))
    go (rule A Ys) e = (d A (z.left_known s A Ys e)).prefixes s i (ap left_of e) q (omega arith) shorter

-- the prefix of a slot is right, once its suffixes up to the end of the prefix are
pub prefix_done : {G : Cfg} {level : ℕ → ℕ} → Ll1 G level → (L : ℕ) (u : List ℕ) (A m : ℕ) {T : Type 0} (r : Result T TooLarge) (s e : ℕ) → e < length (right_of (G.slot s)) → NeedsNoRest G (right_of (G.slot s)) e
    → UnlessOver r G m ((q : ℕ) → 0 ≤ q → q < e + 1 → Correct G L u (Suffix s q) m) → UnlessOver r G m (PrefixCorrectOf G L u A m s)
prefix_done {G} ll L u A m (Ok x) s e l last d = λ f p o n. d p (omega arith) (omega (arith, prefix_within ll (right_of (G.slot s)) p e l last o n))
prefix_done ll L u A m (Err x) s e l last d = d

-- all suffixes of a slot are, once those behind the prefix are too
pub rest_done : {G : Cfg} {L : ℕ} {t u : List ℕ} {m : ℕ} → Limits G → {T : Type 0} (r : Result T TooLarge) (s e n : ℕ) → s < G.slots → m ≤ L → AllDone G L t m → Keeps G L t u → e < length (right_of (G.slot s))
    → Nullable G (take e (right_of (G.slot s))) → n ≡ length (right_of (G.slot s)) → UnlessOver r G m ((q : ℕ) → e + 1 ≤ q → q < n → Correct G L u (Suffix s q) m)
    → UnlessOver r G m ((q : ℕ) → q < length (right_of (G.slot s)) → Correct G L u (Suffix s q) m)
rest_done {m = m} z (Ok _) s e n i l a k o v x d = λ q h.
    ⊎_elim
    (λ b. k.still (Suffix s q) m (i, h) l (done_prefix z a s i e q (omega arith) o v))
    (λ b. d q b (omega arith))
    (cases_lt q (e + 1))
rest_done z (Err _) s e n i l a k o v x d = d
