-- Tuples of parts, and the derivations that they join to. Assumes nothing.
use Rattle.std.proofs.Common.{◌≡◌, ℕ, ◌+◌, List, [], ◌∷◌, ◌++◌, length, sym, refl, ap, ◌∙◌, subst, ap₂, append-nil, arith, length-append}
use mathlib.Core.List.{tail}
use Rattle.std.proofs.lemmas.List.{nil_from_length}
use Rattle.theory.specs.Lists.{joined}
use Rattle.theory.specs.Grammar.{Symbol, terminal, nonterminal, Cfg, RuleAt, Derives, done, read, expand}
use Rattle.theory.specs.Sets.{Next, end, next_of, FollowOrEnd}
use Rattle.theory.specs.Sound.{PredictSetsApart}
use Rattle.theory.specs.Order.{Parts, none, one}
use Rattle.theory.proofs.Unique.{unique, context, FitsIn, fits_tail, fits_one, fits_slot, sentence}

-- a part of the first symbol, and one of the rest
pub join : {G : Cfg} {X : Symbol} {Xs : List Symbol} {u v w : List ℕ} → Derives G (X ∷ []) u → Derives G Xs v → w ≡ u ++ v → Derives G (X ∷ Xs) w
join {G} {Xs = Xs} (read {t} p done) e q = subst (λ (y : List ℕ). Derives G (terminal t ∷ Xs) y) (sym q) (read p e)
join {v = v'} (expand s Ys u v r ex d done) e q = expand s Ys u v' r (q ∙ ap {B = List ℕ} (λ (z : List ℕ). z ++ v') (ex ∙ append-nil u)) d e

-- parts of some symbols join to what the symbols derive
pub parts_derive : {G : Cfg} {Xs : List Symbol} {us : List (List ℕ)} → Parts G Xs us → Derives G Xs (joined us)
parts_derive none = done
parts_derive (one d p) = join d (parts_derive p) refl

-- parts of some symbols that join to w
pub record Parted (G : Cfg) (Xs : List Symbol) (w : List ℕ) : Type 0 where
  pub parts : List (List ℕ)
  pub taken : Parts G Xs parts
  pub is : w ≡ joined parts

-- what some symbols derive is joined from parts
pub derive_parts : {G : Cfg} {Xs : List Symbol} {w : List ℕ} → Derives G Xs w → Parted G Xs w
derive_parts done = record { parts = []; taken = none; is = refl }
derive_parts (read {t} {a} p d) =
    let r = derive_parts d in
    record { parts = (a ∷ []) ∷ r.parts; taken = one (read p done) r.taken; is = ap {B = List ℕ} (λ (z : List ℕ). a ∷ z) r.is }
derive_parts (expand s Ys u v r e d₁ d₂) =
    let k = derive_parts d₂ in
    record { parts = u ∷ k.parts; taken = one (sentence s Ys r d₁) k.taken; is = e ∙ ap {B = List ℕ} (λ (z : List ℕ). u ++ z) k.is }

-- two token lists in a row are cut at the same place
pub record Cut (u v u' v' : List ℕ) : Type 0 where
  pub front : u ≡ u'
  pub back : v ≡ v'

-- where a context allows it, there is one cut between the first symbol and the rest
one_cut : {G : Cfg} → PredictSetsApart G → (K : Next → Type 0) (X : Symbol) (Xs : List Symbol) (u v u' v' : List ℕ) → FitsIn G K (X ∷ Xs) → K end
    → Derives G (X ∷ []) u → Derives G Xs v → Derives G (X ∷ []) u' → Derives G Xs v' → u ++ v ≡ u' ++ v' → Cut u v u' v'
one_cut ll K (terminal t) Xs u v u' v' g k (read p done) e (read p' done) e' q =
    record { front = ap {B = List ℕ} (λ (a : ℕ). a ∷ []) (p ∙ sym p'); back = ap tail q }
one_cut {G} ll K (nonterminal A) Xs u v u' v' g k d e d' e' q =
    let c = g [] Xs A refl in
    let f = subst (λ (r : List ℕ). FollowOrEnd G A (next_of r)) (append-nil v) (context {K = K} v A e c.0 c.1 [] k) in
    let f' = subst (λ (r : List ℕ). FollowOrEnd G A (next_of r)) (append-nil v') (context {K = K} v' A e' c.0 c.1 [] k) in
    let r = unique ll d u' d' (FollowOrEnd G A) (fits_one A) v v' q f f' in
    record { front = r.read_alike; back = r.left_alike }

-- in a context, parts that join to one token list are equal
one_parts : {G : Cfg} {Xs : List Symbol} {us : List (List ℕ)} → Parts G Xs us → PredictSetsApart G → (K : Next → Type 0) → FitsIn G K Xs → K end
    → (vs : List (List ℕ)) → Parts G Xs vs → joined us ≡ joined vs → us ≡ vs
one_parts none ll K g k vs none e = refl
one_parts (one {X} {Xs} {u} {us} d p) ll K g k vs (one {u = v} {us = vs'} d' p') e =
    let c = one_cut ll K X Xs u (joined us) v (joined vs') g k d (parts_derive p) d' (parts_derive p') e in
    ap₂ {B = List (List ℕ)} {C = List (List ℕ)} (λ (a : List ℕ) r. a ∷ r) c.front (one_parts p ll K (fits_tail g) k vs' p' c.back)

-- parts of one right-hand side that join to one token list are equal
pub same_parts : {G : Cfg} → PredictSetsApart G → (s A : ℕ) (Ys : List Symbol) (us vs : List (List ℕ)) → RuleAt G s A Ys → Parts G Ys us → Parts G Ys vs
    → joined us ≡ joined vs → us ≡ vs
same_parts {G} ll s A Ys us vs r p q e = one_parts p ll (FollowOrEnd G A) (fits_slot s A Ys r) tt vs q e

-- the length of what parts join to
pub length_joined : (u : List ℕ) (us : List (List ℕ)) → length (joined (u ∷ us)) ≡ length u + length (joined us)
length_joined u us = length-append u (joined us)

-- parts that join to nothing are equal
pub empty_parts : {G : Cfg} {Xs : List Symbol} {us : List (List ℕ)} → Parts G Xs us → length (joined us) ≡ 0 → (vs : List (List ℕ)) → Parts G Xs vs
    → length (joined vs) ≡ 0 → us ≡ vs
empty_parts none e vs none f = refl
empty_parts (one {u = u} {us = us} d p) e vs (one {u = v} {us = vs'} d' p') f =
    let x = length_joined u us in
    let y = length_joined v vs' in
    ap₂ {B = List (List ℕ)} {C = List (List ℕ)} (λ (a : List ℕ) r. a ∷ r)
    (nil_from_length u (omega arith) ∙ sym (nil_from_length v (omega arith)))
    (empty_parts p (omega arith) vs' p' (omega arith))
