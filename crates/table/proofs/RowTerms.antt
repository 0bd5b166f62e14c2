-- What is read of a row gives its equation.
use Rattle.std.proofs.Common.{◌≡◌, ℕ, suc, ◌+◌, ◌^◌, ◌<◌, ◌≤◌, Bool, true, false, not, eqb, ltb, List, [], ◌∷◌, length, drop, Some, None, Option, IfSome, sym, refl, ap, ◌∙◌, subst, arith}
use Rattle.std.specs.Bool.{then_some}
use Rattle.std.specs.Option.{option_eq}
use Rattle.std.proofs.lemmas.Bool.{lt-ltb, le-ltb, ltb-true, eqb-true, eqb-false, not-true, not-false}
use Rattle.theory.specs.Grammar.{Symbol, Cfg}
use Rattle.theory.specs.Sound.{Limits}
use Rattle.theory.specs.Count.{right_of, symbol_count}
use Rattle.theory.proofs.Counting.{upward_same}
use Rattle.grammar.specs.declared.Symbol.{Symbol as Value}
use Rattle.table.specs.Rows.{first_row, rows, RowOf, row_number, place, cell_at}
use Rattle.table.specs.Equations.{suffix_cell, suffix_sum, equation, ObeyBelow, LowestBroken}
use Rattle.table.specs.Terms.{symbol_cell, rest_cell, symbol_sum}
use Rattle.table.specs.Layouts.{AtRow, ReadOf, read_sum, TermsRow}
use Rattle.table.specs.Filling.{Within}
use Rattle.table.specs.declared.Row.{Row}
use Rattle.table.specs.declared.Row.TheVariants.{Nonterminal, Suffix}
use Rattle.table.specs.declared.sums.Terms.{Terms}
use Rattle.table.specs.declared.sums.Terms.TheVariants.{Slots, Split}
use Rattle.table.proofs.Sides.{drop_next}
use Rattle.grammar.proofs.Symbols.{stands_at}
use Rattle.table.proofs.Shown.{ShownAt, symbol_cell_is, symbol_row}
use Rattle.table.proofs.Rows.{suffix_before, obey_more}

-- the rest behind a symbol, none where that is the last
rest_cell_is : (L : ℕ) (t : List ℕ) (n p : ℕ) (Xs : List Symbol) (o : Option ℕ) (r : ℕ) → n ≡ suc p + length Xs → o ≡ then_some (ltb (p + 1) n) r → (k : ℕ)
    → rest_cell L t o k ≡ suffix_cell L t Xs r k
rest_cell_is L t n p [] o r l e k = ap (λ (x : Option ℕ). rest_cell L t x k) (e ∙ ap (λ (b : Bool). then_some b r) (le-ltb (p + 1) n (omega arith)))
rest_cell_is L t n p (X ∷ Xs) o r l e k = ap (λ (x : Option ℕ). rest_cell L t x k) (e ∙ ap (λ (b : Bool). then_some b r) (lt-ltb (p + 1) n (omega arith)))

module _ {G : Cfg} (z : Limits G) where
  split_is : (L : ℕ) (t : List ℕ) (s p m : ℕ) (X : Value) (o : Option ℕ) (r : ℕ) → ShownAt (right_of (G.slot s)) p X
      → o ≡ then_some (ltb (p + 1) (length (right_of (G.slot s)))) (r + 1) → symbol_sum L t X o m ≡ suffix_sum L t (drop p (right_of (G.slot s))) r m
  split_is L t s p m X o r i h =
      let w = right_of (G.slot s) in
      let n = drop_next w p i.0 (drop (suc p) w) i.1 in
      upward_same (symbol_cell L t X) (symbol_count (cell_at L t) i.0) (rest_cell L t o) (suffix_cell L t (drop (suc p) w) (r + 1)) m (m + 1)
      (symbol_cell_is L t X i.0 i.2) (rest_cell_is L t (length w) p (drop (suc p) w) o (r + 1) n.1 h)
      ∙ ap (λ (Xs : List Symbol). suffix_sum L t Xs r m) (sym i.1)

  -- what is read of a row gives its equation
  read_is : (L : ℕ) (t : List ℕ) {ρ : Row} {r : ℕ} (x : Terms) → AtRow G ρ r → ReadOf G ρ r x → (m : ℕ) → read_sum G L t x m ≡ equation G L t ρ m
  read_is L t {ρ} {r} x a h m = go ρ x a.is h
    where
      go : (σ : Row) (y : Terms) → r ≡ row_number G σ → ReadOf G σ r y → read_sum G L t y m ≡ equation G L t σ m
      go (Nonterminal A) (Slots B) e q = ap (λ (C : ℕ). equation G L t (Nonterminal C) m) (sym q)
      go (Nonterminal A) (Split X o) e q = absurd q
      go (Suffix s p) (Slots B) e q = absurd q
      go (Suffix s p) (Split X o) e q =
          split_is L t s p m X o r (stands_at _ p X q.0) q.1 ∙ ap (λ (x : ℕ). suffix_sum L t (drop p (right_of (G.slot s))) x m) e

  -- so a sum that is answered by what is read is answered by the equation
  pub read_within : (L : ℕ) (t : List ℕ) {ρ : Row} {r : ℕ} (x : Terms) → AtRow G ρ r → ReadOf G ρ r x → (m : ℕ) (o : Option ℕ) → Within (read_sum G L t x m) o → Within (equation G L t ρ m) o
  read_within L t x a h m o w = subst (λ (n : ℕ). Within n o) (read_is L t x a h m) w

  -- and speaks of rows of the table
  pub read_rows : {ρ : Row} {r : ℕ} (x : Terms) → AtRow G ρ r → ReadOf G ρ r x → TermsRow G x
  read_rows {ρ} {r} x a h = go ρ x a.is a.is_row h
    where
      rest : (s p : ℕ) (o : Option ℕ) (b : Bool) → s < G.slots → r ≡ first_row G s + p → ltb (p + 1) (length (right_of (G.slot s))) ≡ b → o ≡ then_some b (r + 1)
          → IfSome o (λ x. x < rows G)
      rest s p None b l e c h = tt
      rest s p (Some x) true l e c h =
          let i : x ≡ r + 1 = cc in
          omega (arith, suffix_before G s G.slots (p + 1) (ltb-true (p + 1) (length (right_of (G.slot s))) c) l)
      rest s p (Some x) false l e c h = let z : ◌≡◌ {A = ℕ} 0 1 = cc in absurd (omega arith)

      go : (σ : Row) (y : Terms) → r ≡ row_number G σ → RowOf G σ → ReadOf G σ r y → TermsRow G y
      go (Nonterminal A) (Slots B) e k q = tt
      go (Nonterminal A) (Split X o) e k q = absurd q
      go (Suffix s p) (Slots B) e k q = absurd q
      go (Suffix s p) (Split X o) e k q = (symbol_row z s p X (stands_at _ p X q.0), rest s p o _ k.0 e refl q.1)

-- a cell that holds the sum, and one that does not
held : (n h : ℕ) (o : Option ℕ) → Within n o → not (option_eq eqb o (Some h)) ≡ false → (h ≡ n) × (h < 2 ^ 63)
held n h None w e = let z : ◌≡◌ {A = ℕ} 0 1 = cc in absurd (omega arith)
held n h (Some v) w e = let q = eqb-true v h (not-false (eqb v h) e) in (omega arith, omega arith)

not_held : (n h : ℕ) (o : Option ℕ) → Within n o → not (option_eq eqb o (Some h)) ≡ true → h ≡ n → h < 2 ^ 63 → ⊥
not_held n h None w e i l = omega arith
not_held n h (Some v) w e i l = eqb-false v h (not-true (eqb v h) e) (omega arith)

-- a cell that does not hold the sum of its row is the lowest broken one, where none below is broken
pub row_broken : {G : Cfg} {L : ℕ} {t : List ℕ} {ρ : Row} {r : ℕ} → AtRow G ρ r → (m i h : ℕ) (o : Option ℕ) → m ≤ L → ObeyBelow G L t (place L r m)
    → i ≡ place L r m → Within (equation G L t ρ m) o → h ≡ cell_at L t r m → true ≡ not (option_eq eqb o (Some h)) → LowestBroken G L t i
row_broken {G} {L} {t} {ρ} {r} a m i h o l below e w k f = record {
  row = ρ;
  at = m;
  is_row = a.is_row;
  short = l;
  here = e ∙ ap (λ (x : ℕ). place L x m) a.is;
  broken = λ b.
      let c : h ≡ cell_at L t (row_number G ρ) m = k ∙ ap (λ (x : ℕ). cell_at L t x m) a.is in
      not_held (equation G L t ρ m) h o w (sym f) (c ∙ b.equal) (subst (λ (x : ℕ). x < 2 ^ 63) (sym c) b.small);
  below = subst (λ (x : ℕ). ObeyBelow G L t x) (sym e) below;
}

pub row_agrees : {G : Cfg} {L : ℕ} {t : List ℕ} {ρ : Row} {r : ℕ} → AtRow G ρ r → (m h : ℕ) (o : Option ℕ) → m ≤ L → ObeyBelow G L t (place L r m)
    → Within (equation G L t ρ m) o → h ≡ cell_at L t r m → false ≡ not (option_eq eqb o (Some h)) → ObeyBelow G L t (place L r (m + 1))
row_agrees {G} {L} {t} {ρ} a m h o l below w k f =
    let d = held (equation G L t ρ m) h o w (sym f) in
    obey_more G L t a m l below (sym k ∙ d.0) (subst (λ (x : ℕ). x < 2 ^ 63) k d.1)
