-- The laws, as the contracts cite them.
use Rattle.std.specs.Prelude.{◌≡◌, ℕ, ◌<◌, ◌≤◌, ◌⊎◌, ◌↔◌, List, [], ◌∷◌, ◌++◌, map, length}
use Rattle.theory.specs.Lists.{In, Sorted, Distinct}
use Rattle.theory.specs.Grammar.{Symbol, terminal, nonterminal, Cfg, RuleAt, Derives, Sentence, SentenceOf, parse}
use Rattle.theory.specs.Sets.{Nullable, First, Follow, Reaches}
use Rattle.theory.specs.Forms.{Rewrites, RewritesAtLeastOnce}
use Rattle.theory.specs.Sound.{PredictSetsApart, Ll1}
use Rattle.theory.specs.Order.{LengthOrder, ListsLengths, ascending, Precedes, Rank}
use Rattle.theory.specs.Count.{Count, Ways, sum_slots, count, side_count}
use Rattle.theory.specs.Enumerate.{sentences}

-- derivations and the smallest sets, over sentential forms
pub record SetsByForms (G : Cfg) : Type 0 where
  -- symbols derive exactly the token lists that they rewrite to
  pub derives : (Xs : List Symbol) (w : List ℕ) → Derives G Xs w ↔ Rewrites G Xs (map terminal w)
  -- they are nullable exactly if they rewrite to no symbols
  pub nullable : (Xs : List Symbol) → Nullable G Xs ↔ Rewrites G Xs []
  -- that is, exactly if they derive the empty list
  pub nullable_derives : (Xs : List Symbol) → Nullable G Xs ↔ Derives G Xs []
  -- a is in FIRST of the symbols exactly if they rewrite to a form that begins with a
  pub first : (Xs : List Symbol) (a : ℕ) → First G Xs a ↔ ((Zs : List Symbol) × Rewrites G Xs (terminal a ∷ Zs))
  -- a is in FOLLOW(B) exactly if some nonterminal rewrites to a form in which a stands right after B
  pub follow : (B a : ℕ) → Follow G B a ↔ ((A : ℕ) × (P : List Symbol) × (Q : List Symbol) × Rewrites G (nonterminal A ∷ []) (P ++ (nonterminal B ∷ terminal a ∷ Q)))
  -- one or more left-corner steps lead from A to B exactly if A rewrites in one or more steps to a form that begins with B
  pub reaches : (A B : ℕ) → Reaches G A B ↔ ((Zs : List Symbol) × RewritesAtLeastOnce G A (nonterminal B ∷ Zs))

-- this holds of every grammar
abbrev pub SetsMeanWhatTheySay : Type 0
SetsMeanWhatTheySay = (G : Cfg) → SetsByForms G

-- there is one count, one number of ways and one rank
pub record NumbersAreUnique (G : Cfg) : Type 0 where
  pub one_count : (A m k k' : ℕ) → Count G A m k → Count G A m k' → k ≡ k'
  pub one_ways : (Xs : List Symbol) (m k k' : ℕ) → Ways G Xs m k → Ways G Xs m k' → k ≡ k'
  pub one_rank : (order : LengthOrder) (A k k' : ℕ) (w : List ℕ) → Rank G order A w k → Rank G order A w k' → k ≡ k'

abbrev pub CountsAndRanksAreUnique : Type 0
CountsAndRanksAreUnique = (G : Cfg) → NumbersAreUnique G

-- the ascending order lists each of the lengths 0 to m once, the shorter before the longer
abbrev pub AscendingListsLengths : Type 0
AscendingListsLengths = ListsLengths ascending × ((m : ℕ) → Sorted ◌<◌ (ascending m))

-- a sentence has one parse
abbrev pub OneParse : Type 0
OneParse = (G : Cfg) → PredictSetsApart G → (A : ℕ) (w : List ℕ) (d d' : Sentence G A w) → parse d ≡ parse d'

-- a sentence has a rank, and it is below the count
abbrev pub RankBelowCount : Type 0
RankBelowCount =
    (G : Cfg) (level : ℕ → ℕ) (order : LengthOrder) → Ll1 G level → ListsLengths order → (A : ℕ) (w : List ℕ) → Sentence G A w →
    (k : ℕ) × (c : ℕ) × Rank G order A w k × Count G A (length w) c × (k < c)

-- ranks number the c sentences of A of length m from 0 to c - 1
pub record Numbering (G : Cfg) (order : LengthOrder) (A m c : ℕ) : Type 0 where
  -- each sentence has a rank
  pub ranked : (w : List ℕ) → SentenceOf G A m w → (k : ℕ) × Rank G order A w k
  -- it has only one
  pub one_rank : (w : List ℕ) (k k' : ℕ) → Rank G order A w k → Rank G order A w k' → k ≡ k'
  -- and it is below c
  pub below : (w : List ℕ) (k : ℕ) → SentenceOf G A m w → Rank G order A w k → k < c
  -- each number below c is the rank of a sentence
  pub reached : (k : ℕ) → k < c → (w : List ℕ) × SentenceOf G A m w × Rank G order A w k
  -- and of only one
  pub one_sentence : (v w : List ℕ) (k : ℕ) → SentenceOf G A m v → SentenceOf G A m w → Rank G order A v k → Rank G order A w k → v ≡ w

-- each sentence of one nonterminal and length has exactly one rank, below the count, and each number below the count is the rank of exactly one
abbrev pub RanksNumberTheSentences : Type 0
RanksNumberTheSentences =
    (G : Cfg) (level : ℕ → ℕ) (order : LengthOrder) → Ll1 G level → ListsLengths order → (A m c : ℕ) → Count G A m c → Numbering G order A m c

-- the sentences of one nonterminal and length can be listed in split order, each once, and only in one way: as they are enumerated
pub record Listing (G : Cfg) (order : LengthOrder) (A m : ℕ) : Type 0 where
  pub list : List (List ℕ)
  pub is : list ≡ sentences order G A m
  pub in_order : Sorted (Precedes G order A) list
  pub once : Distinct list
  pub just : (w : List ℕ) → In w list ↔ SentenceOf G A m w
  pub only : (l : List (List ℕ)) → Sorted (Precedes G order A) l → ((w : List ℕ) → In w l ↔ SentenceOf G A m w) → l ≡ list

abbrev pub SentencesAreListedInSplitOrder : Type 0
SentencesAreListedInSplitOrder =
    (G : Cfg) (level : ℕ → ℕ) (order : LengthOrder) → Ll1 G level → ListsLengths order → (A m : ℕ) → Listing G order A m

-- split order is a strict total order on the sentences of one nonterminal and one length
pub record StrictTotal (G : Cfg) (order : LengthOrder) (A m : ℕ) : Type 0 where
  pub irreflexive : (w : List ℕ) → Precedes G order A w w → ⊥
  pub transitive : (u v w : List ℕ) → SentenceOf G A m u → Precedes G order A u v → Precedes G order A v w → Precedes G order A u w
  pub total : (v w : List ℕ) → SentenceOf G A m v → SentenceOf G A m w → (v ≡ w) ⊎ (Precedes G order A v w ⊎ Precedes G order A w v)

abbrev pub SplitOrderIsStrictAndTotal : Type 0
SplitOrderIsStrictAndTotal =
    (G : Cfg) (level : ℕ → ℕ) (order : LengthOrder) → Ll1 G level → ListsLengths order → (A m : ℕ) → StrictTotal G order A m

-- the count of a nonterminal is the sum of its slots' ways
abbrev pub CountIsSumOfSlots : Type 0
CountIsSumOfSlots =
    (G : Cfg) (level : ℕ → ℕ) → Ll1 G level → (A m c : ℕ) → Count G A m c → (ways : ℕ → ℕ) →
    ((s : ℕ) (Ys : List Symbol) → RuleAt G s A Ys → Ways G Ys m (ways s)) → c ≡ sum_slots G A ways G.slots

-- the computed counts are the counts: of a nonterminal, and of a list of symbols
pub record CountsAreComputed (G : Cfg) : Type 0 where
  pub of_nonterminal : (A m : ℕ) → Count G A m (count G A m)
  pub of_symbols : (Xs : List Symbol) (m : ℕ) → Ways G Xs m (side_count (count G) Xs m)

abbrev pub ComputedCountsAreCounts : Type 0
ComputedCountsAreCounts = (G : Cfg) (level : ℕ → ℕ) → Ll1 G level → CountsAreComputed G

-- at most one way gives no tokens
abbrev pub AtMostOneWayToNothing : Type 0
AtMostOneWayToNothing =
    (G : Cfg) → ((A c : ℕ) → Count G A 0 c → c ≤ 1) × ((Xs : List Symbol) (c : ℕ) → Ways G Xs 0 c → c ≤ 1)
