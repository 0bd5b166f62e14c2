-- The rows of a table, in order, and the cells of each.
use Rattle.std.proofs.Common.{◌≡◌, ℕ, zero, suc, ◌+◌, ◌-◌, ◌*◌, ◌/◌, ◌^◌, ◌<◌, ◌≤◌, List, length, sym, refl, ap, ◌∙◌, subst, ⊎_elim, le_refl, add-zero, add-suc, add-mul, add-one, arith}
use Rattle.std.proofs.lemmas.Bool.{cases_eq, cases_order}
use Rattle.std.proofs.lemmas.Nat.{mul-le, mul-add-lt, div-mul-add}
use Rattle.theory.specs.Grammar.{Cfg}
use Rattle.theory.specs.Sound.{Limits}
use Rattle.theory.specs.Count.{right_of}
use Rattle.table.specs.Rows.{first_row, rows, RowOf, row_number, needed, place, cell_at, Room}
use Rattle.table.specs.Equations.{equation, Obeys, AllObey, ObeyBelow}
use Rattle.table.specs.Layouts.{AtRow}
use Rattle.table.specs.declared.Row.{Row}
use Rattle.table.specs.declared.Row.TheVariants.{Nonterminal, Suffix}
use Rattle.table.proofs.Sides.{side_six}

pub first_row_none : (G : Cfg) → first_row G 0 ≡ G.nonterminals
unfolding first_row
first_row_none G = refl

pub first_row_more : (G : Cfg) (s : ℕ) → first_row G (s + 1) ≡ first_row G s + length (right_of (G.slot s))
unfolding first_row
first_row_more G s = rw add-one

first_row_grows : (G : Cfg) (s d : ℕ) → first_row G s ≤ first_row G (s + d)
unfolding first_row
first_row_grows G s zero = rw add-zero (le_refl _)
first_row_grows G s (suc d) = let i = first_row_grows G s d in rw add-suc (omega arith)

pub first_row_le : (G : Cfg) (s q : ℕ) → s ≤ q → first_row G s ≤ first_row G q
first_row_le G s q l = let e : s + (q - s) ≡ q = omega arith in subst (λ (x : ℕ). first_row G s ≤ first_row G x) e (first_row_grows G s (q - s))

first_row_six : (G : Cfg) → ((s : ℕ) → length (right_of (G.slot s)) ≤ 6) → (s : ℕ) → first_row G s ≤ G.nonterminals + 6 * s
unfolding first_row
first_row_six G h zero = omega arith
first_row_six G h (suc s) = let i = first_row_six G h s in omega (arith, h s)

-- no table has more than 400 rows
pub rows_few : {G : Cfg} → Limits G → rows G ≤ 400
rows_few {G} l = omega (arith, first_row_six G (side_six l) G.slots, l.nonterminals_high, l.slots_high)

pub suffix_before : (G : Cfg) (s q p : ℕ) → p < length (right_of (G.slot s)) → s < q → first_row G s + p < first_row G q
suffix_before G s q p h l = omega (arith, first_row_more G s, first_row_le G (s + 1) q (omega arith))

pub row_below : (G : Cfg) (ρ : Row) → RowOf G ρ → row_number G ρ < rows G
row_below G (Nonterminal A) h = omega (arith, first_row_none G, first_row_le G 0 G.slots (omega arith))
row_below G (Suffix s p) h = suffix_before G s G.slots p h.1 h.0

pub cell_below : (G : Cfg) (L : ℕ) (ρ : Row) (m : ℕ) → RowOf G ρ → m ≤ L → place L (row_number G ρ) m < needed G L
cell_below G L ρ m h l = omega (arith, mul-add-lt (row_number G ρ) (L + 1) m (rows G) (row_below G ρ h) (omega arith))

pub same_row : (G : Cfg) (ρ σ : Row) → RowOf G ρ → RowOf G σ → row_number G ρ ≡ row_number G σ → ρ ≡ σ
same_row G (Nonterminal A) (Nonterminal B) h k e = ap Nonterminal e
same_row G (Nonterminal A) (Suffix s p) h k e = absurd (omega (arith, first_row_none G, first_row_le G 0 s (omega arith)))
same_row G (Suffix s p) (Nonterminal A) h k e = absurd (omega (arith, first_row_none G, first_row_le G 0 s (omega arith)))
same_row G (Suffix s p) (Suffix q r) h k e =
    ⊎_elim
    (λ i. let j : p ≡ r = omega (arith, ap (first_row G) i) in cc)
    (⊎_elim (λ l. absurd (omega (arith, suffix_before G s q p h.1 l))) (λ l. absurd (omega (arith, suffix_before G q s r k.1 l))))
    (cases_order s q)

pub same_place : (L r q m n : ℕ) → m ≤ L → n ≤ L → place L r m ≡ place L q n → (r ≡ q) × (m ≡ n)
same_place L r q m n h k e =
    let a : m < L + 1 = omega arith in
    let b : n < L + 1 = omega arith in
    let i : r ≡ q = sym (div-mul-add r (L + 1) m a) ∙ ap (λ x. x / (L + 1)) e ∙ div-mul-add q (L + 1) n b in
    (i, omega (arith, ap (λ x. x * (L + 1)) i))

-- one cell more obeys its equation
pub obey_more : (G : Cfg) (L : ℕ) (t : List ℕ) {ρ : Row} {r : ℕ} → AtRow G ρ r → (m : ℕ) → m ≤ L → ObeyBelow G L t (place L r m)
    → cell_at L t r m ≡ equation G L t ρ m → cell_at L t r m < 2 ^ 63 → ObeyBelow G L t (place L r (m + 1))
obey_more G L t {ρ} {r} a m l c d low σ n k o b =
    ⊎_elim
    (λ e.
    let i = same_place L r (row_number G σ) m n l o (sym e) in
    let j = same_row G ρ σ a.is_row k (sym a.is ∙ i.0) in
    let d' : Obeys G L t ρ m = record {
      equal = subst (λ (x : ℕ). cell_at L t x m ≡ equation G L t ρ m) a.is d;
      small = subst (λ (x : ℕ). cell_at L t x m < 2 ^ 63) a.is low;
    } in
    subst (λ (τ : Row). Obeys G L t τ n) j (subst (λ (x : ℕ). Obeys G L t ρ x) i.1 d'))
    (λ e. c σ n k o (omega arith))
    (cases_eq (place L (row_number G σ) n) (place L r m))

-- all equations, once the rows of all slots are passed
pub obey_all : (G : Cfg) (L : ℕ) (t : List ℕ) → ObeyBelow G L t (place L (rows G) 0) → AllObey G L t
obey_all G L t c ρ m h l = c ρ m h l (omega (arith, cell_below G L ρ m h l))

pub row_inside : {G : Cfg} {ρ : Row} {r : ℕ} → AtRow G ρ r → r < rows G
row_inside {G} {ρ} a = omega (arith, row_below G ρ a.is_row, a.is)

pub row_small : {G : Cfg} {ρ : Row} {r : ℕ} → Limits G → AtRow G ρ r → r < 400
row_small {G} {ρ} z a = omega (arith, row_below G ρ a.is_row, rows_few z, a.is)

pub row_cell : {G : Cfg} {L : ℕ} {t : List ℕ} {ρ : Row} {r : ℕ} → Room G L t → AtRow G ρ r → (m : ℕ) → m ≤ L → place L r m < length t
row_cell {G} {L} {t} {ρ} {r} f a m l =
    omega (arith, cell_below G L ρ m a.is_row l, ap (λ x. x * (L + 1)) a.is, f.enough)

-- the first cell of the next row
pub row_after : (L r m : ℕ) → m ≡ L + 1 → place L r m ≡ place L (r + 1) 0
row_after L r m e = omega (arith, add-mul r 1 (L + 1))

-- the product that a row's first cell is found by does not pass 64 bits
pub row_product : (L r : ℕ) → r ≤ 400 → L ≤ 48 → r * (L + 1) ≤ 19600
row_product L r l k = mul-le r (L + 1) 400 49 l (omega arith)

pub place_small : {G : Cfg} {ρ : Row} {r : ℕ} → Limits G → AtRow G ρ r → (L m : ℕ) → L ≤ 48 → m ≤ L → place L r m ≤ 19648
place_small {r = r} z a L m k l = let s = row_small z a in omega (arith, row_product L r (omega arith) k)

pub nonterminal_row : (G : Cfg) (A : ℕ) → A < G.nonterminals → A < rows G
nonterminal_row G A h = row_below G (Nonterminal A) h
