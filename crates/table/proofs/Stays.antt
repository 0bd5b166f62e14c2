-- What stays where cells are filled.
use Rattle.std.proofs.Common.{◌≡◌, ℕ, ◌+◌, ◌^◌, ◌<◌, List, Ok, Err, Result, set, sym, ap, ◌∙◌, subst, ⊎_elim, arith}
use Rattle.std.proofs.lemmas.Bool.{cases_eq}
use Rattle.theory.specs.Grammar.{Cfg}
use Rattle.grammar.specs.declared.Grammar.{Ghosts}
use Rattle.table.specs.Rows.{RowOf, place}
use Rattle.table.specs.Equations.{equation}
use Rattle.table.specs.Counts.{count_of}
use Rattle.table.specs.Layouts.{AtRow}
use Rattle.table.specs.Filling.{Correct, CorrectBelow, Keeps, Over, UnlessOver, CornersCorrect, PrefixCorrectOf, Done}
use Rattle.table.specs.FillingOf.{grammar_of, bound_of, Right, CornersRight, PrefixRight, DoneRight, AllDoneRight, Stays, Shows}
use Rattle.table.specs.declared.layout.Layout.{Layout}
use Rattle.table.specs.declared.cells.Cells.{Cells}
use Rattle.table.specs.declared.filling.Filling.{Filling}
use Rattle.table.specs.declared.filling.TooLarge.{TooLarge}
use Rattle.table.specs.declared.Row.{Row}
use Rattle.table.specs.declared.Row.TheVariants.{Nonterminal, Suffix}
use Rattle.table.proofs.Fills.{keeps_on, put_done, keeps_prefix, keeps_done}

-- what holds of the grammar, the layout and the length before holds of them after, and the other way round
module _ {T : Type 0} {members : Ghosts T} {x y : Filling T members} (p : Stays x y) where
  pub onward : (P : T → Layout → ℕ → Type 0) → P x.grammar.now x.layout.now x.length → P y.grammar.now y.layout.now y.length
  onward P h =
      subst (λ (g : T). P g y.layout.now y.length) (sym p.grammar)
      (subst (λ (l : Layout). P x.grammar.now l y.length) (sym p.layout) (subst (λ (m : ℕ). P x.grammar.now x.layout.now m) (sym p.length) h))

  pub back : (P : T → Layout → ℕ → Type 0) → P y.grammar.now y.layout.now y.length → P x.grammar.now x.layout.now x.length
  back P h =
      subst (λ (g : T). P g x.layout.now x.length) p.grammar
      (subst (λ (l : Layout). P y.grammar.now l x.length) p.layout (subst (λ (m : ℕ). P y.grammar.now y.layout.now m) p.length h))

  pub stays_right : {ρ : Row} → RowOf (grammar_of x) ρ → Right x ρ → Right y ρ
  stays_right {ρ} h r = onward (λ g l m. Correct (members.meaning g) l.bound y.cells.now ρ m) (p.keeps.still ρ x.length h x.ready.short r)

  pub right_back : {ρ : Row} → Right y ρ → Correct (grammar_of x) (bound_of x) y.cells.now ρ x.length
  right_back {ρ} r = back (λ g l m. Correct (members.meaning g) l.bound y.cells.now ρ m) r

  -- a count that passes the limit is one before too
  pub over_back : {e : ℕ} → Over (grammar_of y) y.length × (e ≡ y.length) → Over (grammar_of x) x.length × (e ≡ x.length)
  over_back {e} h = back (λ g l m. Over (members.meaning g) m × (e ≡ m)) h

  pub stays_corners : {A : ℕ} → CornersRight x A → CornersRight y A
  stays_corners {A} h =
      onward (λ g l m. CornersCorrect (members.meaning g) l.bound y.cells.now A m) (λ B l e. p.keeps.still (Nonterminal B) x.length l x.ready.short (h B l e))

  pub stays_prefix : {A s : ℕ} → s < (grammar_of x).slots → PrefixRight x A s → PrefixRight y A s
  stays_prefix {A} {s} i h = onward (λ g l m. PrefixCorrectOf (members.meaning g) l.bound y.cells.now A m s) (keeps_prefix p.keeps x.ready.short i h)

  pub stays_done : {A : ℕ} → A < (grammar_of x).nonterminals → DoneRight x A → DoneRight y A
  stays_done {A} i d = onward (λ g l m. Done (members.meaning g) l.bound y.cells.now m A) (keeps_done p.keeps x.ready.short i d)

-- what is so unless a count passes the limit
pub unless_over : {R P Q : Type 0} (G : Cfg) (m : ℕ) (r : Result R TooLarge) → (P → Q) → UnlessOver r G m P → UnlessOver r G m Q
unless_over G m (Ok _) f h = f h
unless_over G m (Err _) f h = h

module _ {T : Type 0} {members : Ghosts T} where
  pub stays_on : {x y z : Filling T members} → Stays x y → Stays y z → Stays x z
  stays_on {x} {y} {z} p q = record {
    grammar = q.grammar ∙ p.grammar;
    layout = q.layout ∙ p.layout;
    lent = q.lent ∙ p.lent;
    length = q.length ∙ p.length;
    keeps = keeps_on p.keeps (back p (λ g l m. Keeps (members.meaning g) l.bound y.cells.now z.cells.now) q.keeps);
  }

  -- what is said of the cells that are read is said of those that are filled, and the other way round
  pub read_back : {x : Filling T members} {y : Cells T members} → Shows x y → (P : T → Layout → List ℕ → Type 0) → P y.grammar.now y.layout.now y.cells.now → P x.grammar.now x.layout.now x.cells.now
  read_back {x} {y} p P h =
      subst (λ (g : T). P g x.layout.now x.cells.now) p.grammar
      (subst (λ (l : Layout). P y.grammar.now l x.cells.now) p.layout (subst (λ (t : List ℕ). P y.grammar.now y.layout.now t) p.cells h))

  pub read_on : {x : Filling T members} {y : Cells T members} → Shows x y → (P : T → Layout → List ℕ → Type 0) → P x.grammar.now x.layout.now x.cells.now → P y.grammar.now y.layout.now y.cells.now
  read_on {x} {y} p P h =
      subst (λ (g : T). P g y.layout.now y.cells.now) (sym p.grammar)
      (subst (λ (l : Layout). P x.grammar.now l y.cells.now) (sym p.layout) (subst (λ (t : List ℕ). P x.grammar.now x.layout.now t) (sym p.cells) h))

  -- a count that is written where it is due
  pub written : (x : Filling T members) {ρ : Row} {r : ℕ} → AtRow (grammar_of x) ρ r → (v i : ℕ)
      → (v ≡ equation (grammar_of x) (bound_of x) x.cells.now ρ x.length) × (equation (grammar_of x) (bound_of x) x.cells.now ρ x.length < 2 ^ 63)
      → equation (grammar_of x) (bound_of x) x.cells.now ρ x.length ≡ count_of (grammar_of x) ρ x.length → i ≡ place (bound_of x) r x.length
      → Keeps (grammar_of x) (bound_of x) x.cells.now (set x.cells.now i v) × Correct (grammar_of x) (bound_of x) (set x.cells.now i v) ρ x.length
  written x a v i w d e = put_done x.ready.table.room a x.length v x.ready.short w d (ap (λ (j : ℕ). set x.cells.now j v) e)

  -- a nonterminal is done once its prefixes were right and its own count is written
  pub nonterminal_done : {R : Type 0} {x y z : Filling T members} {A : ℕ} (r : Result R TooLarge) → Stays x y → Stays y z
      → ((s : ℕ) → s < (grammar_of y).slots → PrefixRight y A s) → UnlessOver r (grammar_of y) y.length (Right z (Nonterminal A))
      → UnlessOver r (grammar_of x) x.length (DoneRight z A)
  nonterminal_done (Ok _) p q h d =
      record { count = d; prefixes = λ s i. let j = back q (λ g l m. s < (members.meaning g).slots) i in stays_prefix q j (h s j) }
  nonterminal_done (Err _) p q h d = over_back p d

  -- the nonterminals of the levels below k, and those of level k up to a, once a is done too
  pub level_more : {y z : Filling T members} (h : T → ℕ → ℕ) (k a : ℕ) → Stays y z → a < (grammar_of y).nonterminals → DoneRight z a
      → ((B : ℕ) → B < (grammar_of y).nonterminals → h y.grammar.now B < k → DoneRight y B) → ((B : ℕ) → B < a → h y.grammar.now B ≡ k → DoneRight y B)
      → ((B : ℕ) → B < (grammar_of z).nonterminals → h z.grammar.now B < k → DoneRight z B) × ((B : ℕ) → B < a + 1 → h z.grammar.now B ≡ k → DoneRight z B)
  level_more {y} {z} h k a q i d lower same = (
    λ B o e. let j = back q (λ g l m. B < (members.meaning g).nonterminals) o in stays_done q j (lower B j (back q (λ g l m. h g B < k) e)),
    λ B o e. ⊎_elim
        (λ c. subst (λ (b : ℕ). DoneRight z b) (sym c) d)
        (λ ne. stays_done q (omega arith) (same B (omega arith) (back q (λ g l m. h g B ≡ k) e)))
        (cases_eq B a),
  )

  -- the next length, once its nonterminals and its suffixes are right
  pub length_done : {R : Type 0} {x y z : Filling T members} (r : Result R TooLarge) → Stays x y → Stays y z → AllDoneRight y
      → UnlessOver r (grammar_of y) y.length ((s q : ℕ) → RowOf (grammar_of z) (Suffix s q) → Right z (Suffix s q))
      → UnlessOver r (grammar_of x) x.length (CorrectBelow (grammar_of z) (bound_of z) z.cells.now (z.length + 1))
  length_done {x = x} {y} {z} (Ok _) p q h d = λ ρ n o l.
      ⊎_elim
      (λ e. subst (λ (m : ℕ). Correct (grammar_of z) (bound_of z) z.cells.now ρ m) (sym e) (row ρ o))
      (λ ne. z.ready.below ρ n o (omega arith))
      (cases_eq n z.length)
    where
      row : (ρ : Row) → RowOf (grammar_of z) ρ → Right z ρ
      row (Nonterminal A) o = let j = back q (λ g l m. A < (members.meaning g).nonterminals) o in stays_right q j (h A j).count
      row (Suffix s p) o = d s p o
  length_done (Err _) p q h d = over_back p d
