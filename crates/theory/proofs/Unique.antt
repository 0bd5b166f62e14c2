-- Grammars whose slots' predict sets are apart are unambiguous. Assumes nothing.
use Rattle.std.proofs.Common.{◌≡◌, ℕ, List, [], ◌∷◌, ◌++◌, sym, refl, ap, ◌∙◌, subst, ap₂, append_assoc, append-nil, arith}
use mathlib.Core.Path.{subst_refl, path_j}
use mathlib.Core.List.{tail}
use Rattle.theory.specs.Grammar.{Symbol, nonterminal, Cfg, RuleAt, Derives, done, read, expand, Sentence, parse}
use Rattle.theory.specs.Sets.{Nullable, none, next, First, itself, inside, behind, Follow, from_first, from_left, Next, token, end, next_of, FollowOrEnd, Predict, by_first, by_follow}
use Rattle.theory.specs.Sound.{PredictSetsApart}
use Rattle.theory.specs.Count.{right_of}

-- a token list with a first token is not empty
pub cons_nil : {a : ℕ} {w : List ℕ} → a ∷ w ≡ [] → ⊥
cons_nil e = let z : ◌≡◌ {A = ℕ} 0 1 = cc in omega arith

-- what comes first in nothing is nothing
pub append_nil_left : (u v : List ℕ) → u ++ v ≡ [] → u ≡ []
append_nil_left [] v e = refl
append_nil_left (a ∷ u) v e = absurd (cons_nil e)

-- what comes last in nothing is nothing
pub append_nil_right : (u v : List ℕ) → u ++ v ≡ [] → v ≡ []
append_nil_right [] v e = e
append_nil_right (a ∷ u) v e = absurd (cons_nil e)

-- a list of symbols that derives no token is nullable
pub nullable : {G : Cfg} {Xs : List Symbol} {w : List ℕ} → Derives G Xs w → w ≡ [] → Nullable G Xs
nullable done e = none
nullable (read p d) e = absurd (cons_nil e)
nullable (expand s Ys u v sl ex d₁ d₂) e =
    next s Ys sl (nullable d₁ (append_nil_left u v (sym ex ∙ e))) (nullable d₂ (append_nil_right u v (sym ex ∙ e)))

-- FIRST of an equal terminal
first_cast : {G : Cfg} {Xs : List Symbol} {a b : ℕ} → a ≡ b → First G Xs a → First G Xs b
first_cast {G} {Xs} e f = subst (λ (c : ℕ). First G Xs c) e f

-- the first token of what a list derives is in its FIRST
pub first : {G : Cfg} {Xs : List Symbol} {w : List ℕ} → Derives G Xs w → (a : ℕ) (w' : List ℕ) → w ≡ a ∷ w' → First G Xs a
first done a w' e = absurd (cons_nil (sym e))
first (read p d) a w' e = itself (let h : _ ≡ a = cc in sym h ∙ p)
first {G} (expand {A} {Xs} s Ys u v sl ex d₁ d₂) a w' e = go u (sym ex ∙ e) (nullable d₁) (first d₁) (first d₂)
  where
    go : (u : List ℕ) → u ++ v ≡ a ∷ w' → (u ≡ [] → Nullable G Ys) → ((b : ℕ) (y : List ℕ) → u ≡ b ∷ y → First G Ys b)
        → ((b : ℕ) (y : List ℕ) → v ≡ b ∷ y → First G Xs b) → First G (nonterminal A ∷ Xs) a
    go [] q n f g = behind (next s Ys sl (n refl) none) (g a w' q)
    go (b ∷ y) q n f g = inside s Ys sl (first_cast (let h : b ≡ a = cc in h) (f b y refl))

-- a context: K says what may come next after all the symbols, and each nonterminal among them is followed by what its rest and K allow
abbrev pub FitsIn : Cfg → (Next → Type 0) → List Symbol → Type 0
FitsIn G K Xs =
    (P Q : List Symbol) (B : ℕ) → Xs ≡ P ++ (nonterminal B ∷ Q) →
    ((a : ℕ) → First G Q a → Follow G B a) × (Nullable G Q → (n : Next) → K n → FollowOrEnd G B n)

-- what follows a nonterminal whose rest derives q, before x
pub context : {G : Cfg} {K : Next → Type 0} {Xs : List Symbol} (q : List ℕ) (B : ℕ) → Derives G Xs q → ((a : ℕ) → First G Xs a → Follow G B a)
    → (Nullable G Xs → (n : Next) → K n → FollowOrEnd G B n) → (x : List ℕ) → K (next_of x) → FollowOrEnd G B (next_of (q ++ x))
context [] B d f g x k = g (nullable d refl) (next_of x) k
context (a ∷ q) B d f g x k = f a (first d a q refl)

-- a slot that derives what comes next predicts it
pub predicts : {G : Cfg} {Ys : List Symbol} (s A : ℕ) (p : List ℕ) → RuleAt G s A Ys → Derives G Ys p → (y : List ℕ) → FollowOrEnd G A (next_of y) → Predict G s (next_of (p ++ y))
predicts {Ys = Ys} s A [] sl d y k = by_follow A Ys sl (nullable d refl) k
predicts {Ys = Ys} s A (a ∷ p) sl d y k = by_first A Ys a sl (first d a p refl)

-- a context of some symbols is one of all but the first
pub fits_tail : {G : Cfg} {K : Next → Type 0} {X : Symbol} {Xs : List Symbol} → FitsIn G K (X ∷ Xs) → FitsIn G K Xs
fits_tail {X = X} g P Q B e = g (X ∷ P) Q B (ap {B = List Symbol} (λ r. X ∷ r) e)

-- what may follow the left-hand side is a context of the right-hand side
pub fits_slot : {G : Cfg} (s A : ℕ) (Ys : List Symbol) → RuleAt G s A Ys → FitsIn G (FollowOrEnd G A) Ys
fits_slot {G} s A Ys sl P Q B e = (λ a f. from_first s A Ys P Q sl e f, λ v n k. go v n k)
  where
    go : Nullable G Q → (n : Next) → FollowOrEnd G A n → FollowOrEnd G B n
    go v (token a) k = from_left s A Ys P Q sl e v k
    go v end k = tt

-- one slot holds one rule
pub same_side : (G : Cfg) {s s' A A' : ℕ} {Ys Ys' : List Symbol} → RuleAt G s A Ys → RuleAt G s' A' Ys' → s ≡ s' → Ys' ≡ Ys
same_side G sl sl' e = ap right_of (sym sl' ∙ ap G.slot (sym e) ∙ sl)

-- a derivation from equal symbols
recast : {G : Cfg} {Ys Ys' : List Symbol} {w : List ℕ} → Ys' ≡ Ys → Derives G Ys' w → Derives G Ys w
recast {G} {w = w} e d = subst (λ (Zs : List Symbol). Derives G Zs w) e d

-- it uses the same slots
parse_recast : {G : Cfg} {Ys Ys' : List Symbol} {w : List ℕ} (e : Ys' ≡ Ys) (d : Derives G Ys' w) → parse (recast e d) ≡ parse d
unfolding recast
parse_recast {G} {w = w} e d =
    path_j (λ Zs q. parse (subst (λ (Zs : List Symbol). Derives G Zs w) q d) ≡ parse d)
    (ap (λ (c : Derives G _ w). parse c) (subst_refl (λ (Zs : List Symbol). Derives G Zs w) d)) e

-- two derivations read the same tokens, leave the same and use the same slots
pub record Same {G : Cfg} {Xs : List Symbol} {u u' : List ℕ} (d : Derives G Xs u) (d' : Derives G Xs u') (x x' : List ℕ) : Type 0 where
  pub read_alike : u ≡ u'
  pub left_alike : x ≡ x'
  pub parsed_alike : parse d ≡ parse d'

-- two parses by the same symbols of texts that go on in a context read the same tokens, in the same way
pub unique : {G : Cfg} → PredictSetsApart G → {Xs : List Symbol} {u : List ℕ} (d : Derives G Xs u) (u' : List ℕ) (d' : Derives G Xs u') (K : Next → Type 0) → FitsIn G K Xs
    → (x x' : List ℕ) → u ++ x ≡ u' ++ x' → K (next_of x) → K (next_of x') → Same d d' x x'
unfolding parse
unique ll done u' done K g x x' e k k' = record { read_alike = refl; left_alike = e; parsed_alike = refl }
unique ll (read {w} p d) u' (read {w = w'} p' d') K g x x' e k k' =
    let r = unique ll d w' d' K (fits_tail g) x x' (ap tail e) k k' in
    record { read_alike = ap₂ {B = List ℕ} {C = List ℕ} (λ (b : ℕ) r. b ∷ r) (p ∙ sym p') r.read_alike; left_alike = r.left_alike; parsed_alike = r.parsed_alike }
unique {G} ll (expand {A} {Xs} {x = y} s Ys p q sl ex d₁ d₂) u' (expand s' Ys' p' q' sl' ex' d₁' d₂') K g x x' e k k' =
    let c = g [] Xs A refl in
    let f = context {K = K} q A d₂ c.0 c.1 x k in
    let f' = context {K = K} q' A d₂' c.0 c.1 x' k' in
    let e₀ : p ++ (q ++ x) ≡ p' ++ (q' ++ x') =
    sym (append_assoc p q x) ∙ ap {B = List ℕ} (λ (r : List ℕ). r ++ x) (sym ex) ∙ e ∙ ap {B = List ℕ} (λ (r : List ℕ). r ++ x') ex' ∙ append_assoc p' q' x' in
    let m = predicts s A p sl d₁ (q ++ x) f in
    let m' = predicts s' A p' sl' d₁' (q' ++ x') f' in
    let ss = ll s s' A Ys Ys' (next_of (p ++ (q ++ x))) sl sl' m (subst (λ (r : List ℕ). Predict G s' (next_of r)) (sym e₀) m') in
    let ye = same_side G sl sl' ss in
    let r₁ = unique ll d₁ p' (recast ye d₁') (FollowOrEnd G A) (fits_slot s A Ys sl) (q ++ x) (q' ++ x') e₀ f f' in
    let r₂ = unique ll d₂ q' d₂' K (fits_tail g) x x' r₁.left_alike k k' in
    record {
      read_alike = ex ∙ ap₂ {C = List ℕ} (λ (a b : List ℕ). a ++ b) r₁.read_alike r₂.read_alike ∙ sym ex';
      left_alike = r₂.left_alike;
      parsed_alike =
          ap₂ {B = List ℕ} {C = List ℕ} (λ (i : ℕ) r. i ∷ r) ss
          (ap₂ {C = List ℕ} (λ (a b : List ℕ). a ++ b) (r₁.parsed_alike ∙ parse_recast ye d₁') r₂.parsed_alike);
    }

-- what may follow A is a context of A alone
pub fits_one : {G : Cfg} (A : ℕ) → FitsIn G (FollowOrEnd G A) (nonterminal A ∷ [])
fits_one {G} A [] Q B e =
    let q : Q ≡ [] = cc in
    let b : A ≡ B = cc in
    (λ a f. absurd (none_first a (subst (λ (Zs : List Symbol). First G Zs a) q f)), λ v n k. subst (λ (C : ℕ). FollowOrEnd G C n) b k)
  where
    none_first : (a : ℕ) → First G [] a → ⊥
    none_first a f = elim f [ ]
fits_one A (X ∷ []) Q B e = let z : ◌≡◌ {A = ℕ} 0 1 = cc in absurd (omega arith)
fits_one A (X ∷ Y ∷ P) Q B e = let z : ◌≡◌ {A = ℕ} 0 1 = cc in absurd (omega arith)

-- a sentence of A has one parse
pub one_parse : (G : Cfg) → PredictSetsApart G → (A : ℕ) (w : List ℕ) (d d' : Sentence G A w) → parse d ≡ parse d'
one_parse G ll A w d d' = (unique ll d w d' (FollowOrEnd G A) (fits_one A) [] [] refl tt tt).parsed_alike

-- what a right-hand side derives is a sentence of the left-hand side
pub sentence : {G : Cfg} {A : ℕ} (s : ℕ) (Ys : List Symbol) {w : List ℕ} → RuleAt G s A Ys → Derives G Ys w → Sentence G A w
sentence s Ys {w} r d = expand s Ys w [] r (sym (append-nil w)) d done

-- the slot comes first in its parse
sentence_parse : {G : Cfg} {A : ℕ} (s : ℕ) (Ys : List Symbol) {w : List ℕ} (r : RuleAt G s A Ys) (d : Derives G Ys w)
    → parse (sentence s Ys r d) ≡ s ∷ (parse d ++ [])
unfolding sentence parse
sentence_parse s Ys r d = refl

-- a sentence of A has one slot
pub same_slot : {G : Cfg} → PredictSetsApart G → (A s s' : ℕ) (Ys Ys' : List Symbol) (w : List ℕ) → RuleAt G s A Ys → RuleAt G s' A Ys'
    → Derives G Ys w → Derives G Ys' w → s ≡ s'
same_slot {G} ll A s s' Ys Ys' w r r' d d' =
    let e : s ∷ (parse d ++ []) ≡ s' ∷ (parse d' ++ []) =
    sym (sentence_parse s Ys r d) ∙ one_parse G ll A w (sentence s Ys r d) (sentence s' Ys' r' d') ∙ sentence_parse s' Ys' r' d' in
    cc
