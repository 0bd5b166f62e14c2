-- Split order, and the rank of a sentence in it. Assumes nothing.
use Rattle.std.specs.Prelude.{◌≡◌, ℕ, zero, suc, ◌<◌, ◌≤◌, ◌↔◌, List, [], ◌∷◌, length}
use Rattle.theory.specs.Lists.{In, Distinct, Before, Exactly, joined}
use Rattle.theory.specs.Grammar.{Symbol, nonterminal, Cfg, RuleAt, Derives, Sentence}

-- which length comes first: for each m, a list of the lengths 0 to m
abbrev pub LengthOrder : Type 0
LengthOrder = ℕ → List ℕ

-- each of the lengths 0 to m is listed once, and no other
pub record ListsLengths (order : LengthOrder) : Type 0 where
  pub once : (m : ℕ) → Distinct (order m)
  pub just : (m j : ℕ) → In j (order m) ↔ (j ≤ m)

-- n numbers from k on
unfoldable pub counting_up : ℕ → ℕ → List ℕ
counting_up k zero = []
counting_up k (suc n) = k ∷ counting_up (suc k) n

-- the shorter length first
abbrev pub ascending : LengthOrder
ascending m = counting_up 0 (suc m)

-- one part for each symbol in turn, a token list that it derives
pub data Parts (G : Cfg) : List Symbol → List (List ℕ) → Type 0 where
  none : Parts G [] []
  one : {X : Symbol} {Xs : List Symbol} {u : List ℕ} {us : List (List ℕ)} → Derives G (X ∷ []) u → Parts G Xs us → Parts G (X ∷ Xs) (u ∷ us)

mutual
  -- v comes before w: two sentences of A of one length. The lower slot comes first; of equal slots the parts decide
  pub data Precedes (G : Cfg) (order : LengthOrder) : ℕ → List ℕ → List ℕ → Type 0 where
    by_slot : {A : ℕ} {v w : List ℕ} (s s' : ℕ) (Ys Ys' : List Symbol) → length v ≡ length w → s < s' → RuleAt G s A Ys → RuleAt G s' A Ys'
        → Derives G Ys v → Derives G Ys' w → Precedes G order A v w
    by_parts : {A : ℕ} {v w : List ℕ} (s : ℕ) (Ys : List Symbol) (vs ws : List (List ℕ)) → length v ≡ length w → RuleAt G s A Ys
        → Parts G Ys vs → Parts G Ys ws → v ≡ joined vs → w ≡ joined ws → PartsPrecede G order Ys vs ws → Precedes G order A v w

  -- the first symbol whose parts differ decides: the part of the earlier length comes first, where the order lists the lengths up to
  -- that of this part and all after it; of equally long parts that symbol's own split order decides
  pub data PartsPrecede (G : Cfg) (order : LengthOrder) : List Symbol → List (List ℕ) → List (List ℕ) → Type 0 where
    by_length : {X : Symbol} {Xs : List Symbol} {v w : List ℕ} {vs ws : List (List ℕ)} → Before (length v) (length w) (order (length (joined (v ∷ vs))))
        → PartsPrecede G order (X ∷ Xs) (v ∷ vs) (w ∷ ws)
    by_part : {A : ℕ} {Xs : List Symbol} {v w : List ℕ} {vs ws : List (List ℕ)} → Precedes G order A v w
        → PartsPrecede G order (nonterminal A ∷ Xs) (v ∷ vs) (w ∷ ws)
    by_rest : {X : Symbol} {Xs : List Symbol} {v w : List ℕ} {vs ws : List (List ℕ)} → v ≡ w → PartsPrecede G order Xs vs ws
        → PartsPrecede G order (X ∷ Xs) (v ∷ vs) (w ∷ ws)

-- the rank of w among the sentences of A of its length: w is a sentence of A, and exactly k sentences precede it
abbrev pub Rank : Cfg → LengthOrder → ℕ → List ℕ → ℕ → Type 0
Rank G order A w k = Sentence G A w × Exactly k (λ v. Precedes G order A v w)
