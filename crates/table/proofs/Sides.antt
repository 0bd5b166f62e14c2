-- Right-hand sides within the limits: how long they are, and which symbols stand in them.
use Rattle.std.proofs.Common.{◌≡◌, ℕ, zero, suc, ◌+◌, ◌<◌, ◌≤◌, List, [], ◌∷◌, ◌++◌, length, take, drop, refl, ap, arith}
use Rattle.theory.specs.Lists.{In, here, there}
use Rattle.theory.specs.Grammar.{Symbol, nonterminal, Slot, empty, rule, Cfg}
use Rattle.theory.specs.Sound.{Known, Limits}
use Rattle.theory.specs.Count.{right_of}

pub drop_next : (Ys : List Symbol) (p : ℕ) (X : Symbol) (Xs : List Symbol) → drop p Ys ≡ X ∷ Xs → (drop (suc p) Ys ≡ Xs) × (length Ys ≡ suc p + length Xs)
drop_next [] zero X Xs e = let z : ◌≡◌ {A = ℕ} 0 1 = cc in absurd (omega arith)
drop_next [] (suc p) X Xs e = let z : ◌≡◌ {A = ℕ} 0 1 = cc in absurd (omega arith)
drop_next (Y ∷ Ys) zero X Xs e = let i : Ys ≡ Xs = cc in (i, omega (arith, ap length i))
drop_next (Y ∷ Ys) (suc p) X Xs e = let i = drop_next Ys p X Xs e in (i.0, omega arith)

in_drop : (Ys : List Symbol) (p : ℕ) (X : Symbol) (Xs : List Symbol) → drop p Ys ≡ X ∷ Xs → In X Ys
in_drop [] zero X Xs e = let z : ◌≡◌ {A = ℕ} 0 1 = cc in absurd (omega arith)
in_drop [] (suc p) X Xs e = let z : ◌≡◌ {A = ℕ} 0 1 = cc in absurd (omega arith)
in_drop (Y ∷ Ys) zero X Xs e = here (cc)
in_drop (Y ∷ Ys) (suc p) X Xs e = there (in_drop Ys p X Xs e)

-- a position in a list has a symbol
pub symbol_there : (Ys : List Symbol) (p : ℕ) → p < length Ys → (X : Symbol) × (Xs : List Symbol) × (drop p Ys ≡ X ∷ Xs)
symbol_there [] p l = absurd (omega arith)
symbol_there (X ∷ Ys) zero l = (X, Ys, refl)
symbol_there (X ∷ Ys) (suc p) l = symbol_there Ys p (omega arith)

-- one symbol more
pub take_next : (Ys : List Symbol) (p : ℕ) (X : Symbol) (Xs : List Symbol) → drop p Ys ≡ X ∷ Xs → take (suc p) Ys ≡ take p Ys ++ (X ∷ [])
take_next [] zero X Xs e = let z : ◌≡◌ {A = ℕ} 0 1 = cc in absurd (omega arith)
take_next [] (suc p) X Xs e = let z : ◌≡◌ {A = ℕ} 0 1 = cc in absurd (omega arith)
take_next (Y ∷ Ys) zero X Xs e = let i : Y ≡ X = cc in ap (λ (Z : Symbol). Z ∷ []) i
take_next (Y ∷ Ys) (suc p) X Xs e = ap {B = List Symbol} (λ (u : List Symbol). Y ∷ u) (take_next Ys p X Xs e)

module _ {G : Cfg} (limits : Limits G) where
  pub side_six : (s : ℕ) → length (right_of (G.slot s)) ≤ 6
  side_six s = go (G.slot s) refl
    where
      go : (o : Slot) → G.slot s ≡ o → length (right_of o) ≤ 6
      go empty e = omega arith
      go (rule A Ys) e = limits.side_short s A Ys e

  known_in : (s : ℕ) (X : Symbol) → In X (right_of (G.slot s)) → Known G.terminals G.nonterminals X
  known_in s X = go (G.slot s) refl
    where
      go : (o : Slot) → G.slot s ≡ o → In X (right_of o) → Known G.terminals G.nonterminals X
      go empty e i = elim i [ ]
      go (rule A Ys) e i = limits.side_known s A Ys X e i

  -- a nonterminal that stands in a right-hand side is one of the grammar's
  pub nonterminal_known : (s p B : ℕ) (Xs : List Symbol) → drop p (right_of (G.slot s)) ≡ nonterminal B ∷ Xs → B < G.nonterminals
  nonterminal_known s p B Xs e = known_in s (nonterminal B) (in_drop (right_of (G.slot s)) p (nonterminal B) Xs e)
