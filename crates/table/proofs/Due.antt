-- Where enough cells are right, what an equation says is the count.
use Rattle.std.proofs.Common.{◌≡◌, ℕ, suc, ◌+◌, ◌<◌, ◌≤◌, ◌⊎◌, List, [], ◌∷◌, length, drop, sym, refl, ap, ◌∙◌, subst, inl, inr, ⊎_elim, add-one, arith, length-drop}
use Rattle.std.proofs.lemmas.Bool.{cases_eq}
use Rattle.theory.specs.Grammar.{Symbol, terminal, nonterminal, Cfg}
use Rattle.theory.specs.Sets.{none}
use Rattle.theory.specs.Sound.{Limits, Ll1}
use Rattle.theory.specs.Count.{right_of, symbol_count, side_count, count}
use Rattle.theory.proofs.Counting.{splits_near, slots_same, count_equation}
use Rattle.table.specs.Rows.{first_row, cell_at}
use Rattle.table.specs.Equations.{suffix_cell, suffix_sum, equation}
use Rattle.table.specs.Counts.{count_of}
use Rattle.table.specs.Filling.{Correct, CorrectBelow, Keeps, FirstsCorrect, NeedsNoRest, PrefixCorrectOf}
use Rattle.table.specs.declared.Row.TheVariants.{Nonterminal, Suffix}
use Rattle.table.proofs.Sides.{drop_next, nonterminal_known}

rest_right : (G : Cfg) (L : ℕ) (t : List ℕ) (s p k : ℕ) (Xs : List Symbol) → drop (suc p) (right_of (G.slot s)) ≡ Xs
    → (0 < length Xs → Correct G L t (Suffix s (p + 1)) k) → suffix_cell L t Xs (first_row G s + p + 1) k ≡ side_count (count G) Xs k
unfolding side_count
rest_right G L t s p k [] e h = refl
rest_right G L t s p k (Y ∷ Ys) e h =
    let r = h (omega arith) in
    let i : first_row G s + p + 1 ≡ first_row G s + (p + 1) = omega arith in
    ap (λ (x : ℕ). cell_at L t x k) i ∙ r.is ∙ ap (λ (x : ℕ). side_count (count G) (drop x (right_of (G.slot s))) k) (add-one p)
    ∙ ap (λ (v : List Symbol). side_count (count G) v k) e

module _ {G : Cfg} {L : ℕ} {t : List ℕ} (z : Limits G) {m : ℕ} (below : CorrectBelow G L t m) where
  symbol_right : (X : Symbol) (j : ℕ) → ((B : ℕ) → X ≡ nonterminal B → (B < G.nonterminals) × Correct G L t (Nonterminal B) m) → j ≤ m
      → symbol_count (cell_at L t) X j ≡ symbol_count (count G) X j
  symbol_right (terminal x) j h l = refl
  symbol_right (nonterminal B) j h l =
      ⊎_elim
      (λ e. subst (λ (i : ℕ). cell_at L t B i ≡ count G B i) (sym e) (h B refl).1.is)
      (λ ne. (below (Nonterminal B) j (h B refl).0 (omega arith)).is)
      (cases_eq j m)

  suffix_at : (s p : ℕ) (Ys : List Symbol) → s < G.slots → p < length (right_of (G.slot s)) → drop p (right_of (G.slot s)) ≡ Ys
      → ((B : ℕ) (Xs : List Symbol) → drop p (right_of (G.slot s)) ≡ nonterminal B ∷ Xs → Correct G L t (Nonterminal B) m)
      → NeedsNoRest G (right_of (G.slot s)) p ⊎ Correct G L t (Suffix s (p + 1)) m
      → suffix_sum L t Ys (first_row G s + p) m ≡ side_count (count G) Ys m
  unfolding side_count
  suffix_at s p [] i l e hd tl = absurd (omega (arith, ap length e, length-drop p (right_of (G.slot s))))
  suffix_at s p (X ∷ Xs) i l e hd tl =
      let n = drop_next (right_of (G.slot s)) p X Xs e in
      splits_near (symbol_count (cell_at L t) X) (symbol_count (count G) X) (suffix_cell L t Xs (first_row G s + p + 1)) (side_count (count G) Xs) m
      (λ j o. symbol_right X j (λ B q. let f = e ∙ ap (λ (Y : Symbol). Y ∷ Xs) q in (nonterminal_known z s p B Xs f, hd B Xs f)) o)
      (λ k o. rest_right G L t s p k Xs n.0 (λ q. below (Suffix s (p + 1)) k (i, omega arith) o))
      (⊎_elim
      (λ last. ⊎_elim
      (λ q. inr (rest_right G L t s p m Xs n.0 (λ o. absurd (omega (arith, ap length q)))))
      inl
      (last X Xs e))
      (λ r. inr (rest_right G L t s p m Xs n.0 (λ o. r)))
      tl)

  -- a suffix, where its first symbol is right, and its rest unless it is not needed
  pub suffix_due : (s p : ℕ) → s < G.slots → p < length (right_of (G.slot s))
      → ((B : ℕ) (Xs : List Symbol) → drop p (right_of (G.slot s)) ≡ nonterminal B ∷ Xs → Correct G L t (Nonterminal B) m)
      → NeedsNoRest G (right_of (G.slot s)) p ⊎ Correct G L t (Suffix s (p + 1)) m
      → equation G L t (Suffix s p) m ≡ count_of G (Suffix s p) m
  suffix_due s p i l hd tl = suffix_at s p (drop p (right_of (G.slot s))) i l refl hd tl

pub keeps_firsts : {G : Cfg} {L : ℕ} {t u : List ℕ} {m : ℕ} → Limits G → Keeps G L t u → m ≤ L → (s p : ℕ)
    → FirstsCorrect G L t (right_of (G.slot s)) p m → FirstsCorrect G L u (right_of (G.slot s)) p m
keeps_firsts {m = m} z k l s p h q B Xs o e = k.still (Nonterminal B) m (nonterminal_known z s q B Xs e) l (h q B Xs o e)

side_right : (G : Cfg) (L : ℕ) (t : List ℕ) (s m : ℕ) (Ys : List Symbol) → (0 < length Ys → cell_at L t (first_row G s + 0) m ≡ side_count (count G) Ys m)
    → suffix_cell L t Ys (first_row G s) m ≡ side_count (count G) Ys m
unfolding side_count
side_right G L t s m [] k = refl
side_right G L t s m (X ∷ Xs) k = let e : first_row G s ≡ first_row G s + 0 = omega arith in ap (λ (x : ℕ). cell_at L t x m) e ∙ k (omega arith)

-- a nonterminal, where the right-hand sides of its slots are right
pub nonterminal_due : {G : Cfg} {level : ℕ → ℕ} {L : ℕ} {t : List ℕ} → Ll1 G level → (A m : ℕ)
    → ((s : ℕ) → s < G.slots → PrefixCorrectOf G L t A m s) → equation G L t (Nonterminal A) m ≡ count_of G (Nonterminal A) m
nonterminal_due {G} {L = L} {t} ll A m h =
    slots_same G A (λ s. suffix_cell L t (right_of (G.slot s)) (first_row G s) m) (λ s. side_count (count G) (right_of (G.slot s)) m) G.slots
    (λ s l e. side_right G L t s m (right_of (G.slot s)) (λ o. (h s l e 0 o none).is))
    ∙ count_equation ll A m
