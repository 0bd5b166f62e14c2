-- What a write of a count leaves, and when the next count is due.
use Rattle.std.proofs.Common.{◌≡◌, ℕ, ◌+◌, ◌*◌, ◌^◌, ◌<◌, ◌≤◌, ◌≢◌, List, get_or, set, sym, refl, ap, ◌∙◌, subst, ⊎_elim, arith, length-set, get_or-set_other, get_or-set_same}
use Rattle.std.proofs.lemmas.Bool.{cases_eq}
use Rattle.theory.specs.Grammar.{Cfg}
use Rattle.table.specs.Rows.{row_number, place, Room}
use Rattle.table.specs.Equations.{equation}
use Rattle.table.specs.Counts.{count_of}
use Rattle.table.specs.Layouts.{Ready, AtRow}
use Rattle.table.specs.Filling.{Correct, CorrectBelow, ReadyAt, Keeps, PrefixCorrectOf, Done}
use Rattle.table.specs.declared.layout.Layout.{Layout}
use Rattle.table.specs.declared.Row.{Row}
use Rattle.table.specs.declared.Row.TheVariants.{Nonterminal, Suffix}
use Rattle.table.proofs.Rows.{row_cell, cell_below, same_row, same_place}

pub keeps_all : {G : Cfg} {L : ℕ} {t : List ℕ} → Keeps G L t t
keeps_all = record { long = refl; still = λ ρ m h l r. r; past = λ k h. refl }

pub keeps_on : {G : Cfg} {L : ℕ} {t u v : List ℕ} → Keeps G L t u → Keeps G L u v → Keeps G L t v
keeps_on p q = record {
  long = q.long ∙ p.long;
  still = λ ρ m h l r. q.still ρ m h l (p.still ρ m h l r);
  past = λ k h. q.past k h ∙ p.past k h;
}

pub keeps_room : {G : Cfg} {L : ℕ} {t u : List ℕ} → Keeps G L t u → Room G L t → Room G L u
keeps_room p f = record { small = f.small; enough = omega (arith, p.long, f.enough) }

pub keeps_below : {G : Cfg} {L : ℕ} {t u : List ℕ} {m : ℕ} → Keeps G L t u → m ≤ L + 1 → CorrectBelow G L t m → CorrectBelow G L u m
keeps_below p l b = λ ρ k h o. p.still ρ k h (omega arith) (b ρ k h o)

pub keeps_table : {G : Cfg} {layout : Layout} {t u : List ℕ} → Keeps G layout.bound t u → Ready G layout t → Ready G layout u
keeps_table k r = record { laid = r.laid; room = keeps_room k r.room }

-- cells that were ready for a length still are
pub keeps_ready : {G : Cfg} {layout : Layout} {t u : List ℕ} {m : ℕ} → Keeps G layout.bound t u → ReadyAt G layout t m → ReadyAt G layout u m
keeps_ready k r = record { table = keeps_table k r.table; short = r.short; below = keeps_below k (omega (arith, r.short)) r.below }

module _ {G : Cfg} {L : ℕ} {t : List ℕ} {ρ : Row} {r : ℕ} (f : Room G L t) (a : AtRow G ρ r) (m v : ℕ) (l : m ≤ L) (e : v ≡ count_of G ρ m) (low : count_of G ρ m < 2 ^ 63) where
  put_right : Correct G L (set t (place L r m) v) ρ m
  put_right =
      let i = row_cell f a m l in
      record { is = subst (λ (x : ℕ). get_or (set t (place L r m) v) (place L x m) 0 ≡ count_of G ρ m) a.is (rw get_or-set_same e); low = low }

  put_keeps : Keeps G L t (set t (place L r m) v)
  put_keeps = record {
    long = length-set t (place L r m) v;
    still = λ σ n h o s.
        ⊎_elim
        (λ q.
        let i = same_place L r (row_number G σ) m n l o (sym q) in
        let j = same_row G ρ σ a.is_row h (sym a.is ∙ i.0) in
        subst (λ (τ : Row). Correct G L (set t (place L r m) v) τ n) j (subst (λ (x : ℕ). Correct G L (set t (place L r m) v) ρ x) i.1 put_right))
        (λ (ne : place L (row_number G σ) n ≢ place L r m). record { is = rw get_or-set_other s.is; low = s.low })
        (cases_eq (place L (row_number G σ) n) (place L r m));
    past = λ k h.
        let b = cell_below G L ρ m a.is_row l in
        let ne : k ≢ place L r m = omega (arith, ap (λ x. x * (L + 1)) a.is) in
        rw get_or-set_other;
  }

-- the cells after a write of what the equation says, where that is the count
pub put_done : {G : Cfg} {L : ℕ} {t u : List ℕ} {ρ : Row} {r : ℕ} → Room G L t → AtRow G ρ r → (m v : ℕ) → m ≤ L → (v ≡ equation G L t ρ m) × (equation G L t ρ m < 2 ^ 63)
    → equation G L t ρ m ≡ count_of G ρ m → u ≡ set t (place L r m) v → Keeps G L t u × Correct G L u ρ m
put_done {G} {L} {t} {u} {ρ} {r} f a m v l w d s =
    let low = subst (λ (x : ℕ). x < 2 ^ 63) d w.1 in
    subst (λ (x : List ℕ). Keeps G L t x × Correct G L x ρ m) (sym s) (put_keeps f a m v l (w.0 ∙ d) low, put_right f a m v l (w.0 ∙ d) low)

pub keeps_prefix : {G : Cfg} {L : ℕ} {t u : List ℕ} {m A s : ℕ} → Keeps G L t u → m ≤ L → s < G.slots → PrefixCorrectOf G L t A m s → PrefixCorrectOf G L u A m s
keeps_prefix k l i h = λ e p o n. k.still (Suffix _ p) _ (i, o) l (h e p o n)

pub keeps_done : {G : Cfg} {L : ℕ} {t u : List ℕ} {m A : ℕ} → Keeps G L t u → m ≤ L → A < G.nonterminals → Done G L t m A → Done G L u m A
keeps_done k l i d = record {
  count = k.still (Nonterminal _) _ i l d.count;
  prefixes = λ s o. keeps_prefix k l o (d.prefixes s o);
}

-- the nonterminals of level k up to a, where a is of another level
pub level_skip : (D : ℕ → Type 0) (h : ℕ → ℕ) (k a : ℕ) → (h a ≡ k → ⊥) → ((B : ℕ) → B < a → h B ≡ k → D B) → (B : ℕ) → B < a + 1 → h B ≡ k → D B
level_skip D h k a ne same B o e = ⊎_elim (λ q. absurd (ne (ap h (sym q) ∙ e))) (λ d. same B (omega arith) e) (cases_eq B a)
