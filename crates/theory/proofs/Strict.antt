-- Split order is irreflexive and asymmetric. Assumes nothing.
use Rattle.std.proofs.Common.{◌≡◌, ℕ, List, ◌∷◌, length, sym, ap, ◌∙◌, subst, arith}
use mathlib.Core.List.{tail}
use Rattle.theory.specs.Lists.{Before, joined}
use Rattle.theory.specs.Grammar.{Symbol, Cfg, Derives, Sentence}
use Rattle.theory.specs.Sound.{PredictSetsApart}
use Rattle.theory.specs.Order.{LengthOrder, ListsLengths, Parts, Precedes, PartsPrecede, by_slot, by_parts, by_length, by_part, by_rest}
use Rattle.theory.proofs.Unique.{same_slot, same_side, sentence}
use Rattle.theory.proofs.Members.{before_apart, before_asymmetric}
use Rattle.theory.proofs.Parts.{parts_derive, same_parts, length_joined}

-- what precedes is as long
pub equally_long : {G : Cfg} {order : LengthOrder} {A : ℕ} {v w : List ℕ} → Precedes G order A v w → length v ≡ length w
equally_long (by_slot s s' Ys Ys' l lt r r' d d') = l
equally_long (by_parts s Ys vs ws l r p q e e' o) = l

-- parts of a right-hand side, joined
from_parts : {G : Cfg} {Ys : List Symbol} {vs : List (List ℕ)} {v : List ℕ} → Parts G Ys vs → v ≡ joined vs → Derives G Ys v
from_parts {G} {Ys} p e = subst (λ (y : List ℕ). Derives G Ys y) (sym e) (parts_derive p)

-- what precedes is a sentence
pub preceding : {G : Cfg} {order : LengthOrder} {A : ℕ} {v w : List ℕ} → Precedes G order A v w → Sentence G A v
preceding (by_slot s s' Ys Ys' l lt r r' d d') = sentence s Ys r d
preceding (by_parts s Ys vs ws l r p q e e' o) = sentence s Ys r (from_parts p e)

-- what is preceded is a sentence
pub preceded : {G : Cfg} {order : LengthOrder} {A : ℕ} {v w : List ℕ} → Precedes G order A v w → Sentence G A w
preceded (by_slot s s' Ys Ys' l lt r r' d d') = sentence s' Ys' r' d'
preceded (by_parts s Ys vs ws l r p q e e' o) = sentence s Ys r (from_parts q e')

-- equal tuples have equal first parts
first_equal : {v w : List ℕ} {vs ws : List (List ℕ)} → v ∷ vs ≡ w ∷ ws → v ≡ w
first_equal e = cc

mutual
  -- what precedes differs
  pub strict : {G : Cfg} {order : LengthOrder} {A : ℕ} {v w : List ℕ} → Precedes G order A v w → PredictSetsApart G → ListsLengths order → v ≡ w → ⊥
  strict {G} {A = A} {v} (by_slot s s' Ys Ys' l lt r r' d d') ll ol e =
      let h = same_slot ll A s s' Ys Ys' v r r' d (subst (λ (y : List ℕ). Derives G Ys' y) (sym e) d') in
      omega arith
  strict {A = A} (by_parts s Ys vs ws l r p q f f' o) ll ol e = strict_parts o ll ol (same_parts ll s A Ys vs ws r p q (sym f ∙ e ∙ f'))

  -- parts that precede differ
  pub strict_parts : {G : Cfg} {order : LengthOrder} {Xs : List Symbol} {vs ws : List (List ℕ)} → PartsPrecede G order Xs vs ws → PredictSetsApart G
      → ListsLengths order → vs ≡ ws → ⊥
  strict_parts (by_length {v = v} {vs = vs} b) ll ol e = before_apart b (ol.once (length (joined (v ∷ vs)))) (ap length (first_equal e))
  strict_parts (by_part p) ll ol e = strict p ll ol (first_equal e)
  strict_parts (by_rest q p) ll ol e = strict_parts p ll ol (ap tail e)

-- the rests of two tuples with equally long first parts are equally long
rests_long : (v w : List ℕ) (vs ws : List (List ℕ)) → length v ≡ length w → length (joined (v ∷ vs)) ≡ length (joined (w ∷ ws))
    → length (joined vs) ≡ length (joined ws)
rests_long v w vs ws e f = let x = length_joined v vs in let y = length_joined w ws in omega arith

mutual
  -- no two sentences precede each other
  pub asymmetric : {G : Cfg} {order : LengthOrder} {A : ℕ} {v w : List ℕ} → Precedes G order A v w → PredictSetsApart G → ListsLengths order
      → Precedes G order A w v → ⊥
  asymmetric {A = A} {v} {w} (by_slot s s' Ys Ys' l lt r r' d d') ll ol (by_slot t t' Zs Zs' k kt i i' c c') =
      let a = same_slot ll A s' t Ys' Zs w r' i d' c in
      let b = same_slot ll A s t' Ys Zs' v r i' d c' in
      omega arith
  asymmetric {A = A} {v} {w} (by_slot s s' Ys Ys' l lt r r' d d') ll ol (by_parts t Zs ws vs k i q p f' f o) =
      let a = same_slot ll A s' t Ys' Zs w r' i d' (from_parts q f') in
      let b = same_slot ll A s t Ys Zs v r i d (from_parts p f) in
      omega arith
  asymmetric {A = A} {v} {w} (by_parts s Ys vs ws l r p q f f' o) ll ol (by_slot t t' Zs Zs' k kt i i' c c') =
      let a = same_slot ll A s t Ys Zs w r i (from_parts q f') c in
      let b = same_slot ll A s t' Ys Zs' v r i' (from_parts p f) c' in
      omega arith
  asymmetric {G} {order} {A} {v} {w} (by_parts s Ys vs ws l r p q f f' o) ll ol (by_parts t Zs ws' vs' k i q' p' h' h o') =
      let a = same_slot ll A s t Ys Zs v r i (from_parts p f) (from_parts p' h) in
      let y : Zs ≡ Ys = same_side G r i a in
      let x = same_parts ll s A Ys vs' vs r (subst (λ (Xs : List Symbol). Parts G Xs vs') y p') p (sym h ∙ f) in
      let z = same_parts ll s A Ys ws' ws r (subst (λ (Xs : List Symbol). Parts G Xs ws') y q') q (sym h' ∙ f') in
      asymmetric_parts o ll ol (ap length (sym f) ∙ l ∙ ap length f')
      (subst (λ (u : List (List ℕ)). PartsPrecede G order Ys u vs) z
      (subst (λ (u : List (List ℕ)). PartsPrecede G order Ys ws' u) x (subst (λ (Xs : List Symbol). PartsPrecede G order Xs ws' vs') y o')))

  -- no two tuples of parts of one length precede each other
  pub asymmetric_parts : {G : Cfg} {order : LengthOrder} {Xs : List Symbol} {vs ws : List (List ℕ)} → PartsPrecede G order Xs vs ws → PredictSetsApart G
      → ListsLengths order → length (joined vs) ≡ length (joined ws) → PartsPrecede G order Xs ws vs → ⊥
  asymmetric_parts {order = order} (by_length {v = v} {w} {vs} {ws} b) ll ol e (by_length c) =
      before_asymmetric b (ol.once (length (joined (v ∷ vs)))) (subst (λ (n : ℕ). Before (length w) (length v) (order n)) (sym e) c)
  asymmetric_parts (by_length {v = v} {vs = vs} b) ll ol e (by_part p) = before_apart b (ol.once (length (joined (v ∷ vs)))) (sym (equally_long p))
  asymmetric_parts (by_length {v = v} {vs = vs} b) ll ol e (by_rest q p) = before_apart b (ol.once (length (joined (v ∷ vs)))) (ap length (sym q))
  asymmetric_parts (by_part {w = w} {ws = ws} p) ll ol e (by_length c) = before_apart c (ol.once (length (joined (w ∷ ws)))) (sym (equally_long p))
  asymmetric_parts (by_part p) ll ol e (by_part q) = asymmetric p ll ol q
  asymmetric_parts (by_part p) ll ol e (by_rest q o) = strict p ll ol (sym q)
  asymmetric_parts (by_rest {w = w} {ws = ws} q p) ll ol e (by_length c) = before_apart c (ol.once (length (joined (w ∷ ws)))) (ap length (sym q))
  asymmetric_parts (by_rest q p) ll ol e (by_part o) = strict o ll ol (sym q)
  asymmetric_parts (by_rest {v = v} {w} {vs} {ws} q p) ll ol e (by_rest r o) = asymmetric_parts p ll ol (rests_long v w vs ws (ap length q) e) o
