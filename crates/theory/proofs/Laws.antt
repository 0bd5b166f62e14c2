-- The laws of specs/Theorems.antt. Assumes nothing.
use Rattle.std.proofs.Common.{ℕ, suc, List, [], length, sym, refl, ◌∙◌, subst}
use Rattle.std.proofs.lemmas.List.{nil_from_length}
use Rattle.theory.specs.Grammar.{SentenceOf}
use Rattle.theory.specs.Order.{Precedes, Rank}
use Rattle.theory.specs.Count.{right_of, side_count, count}
use Rattle.theory.specs.Enumerate.{sentences}
use Rattle.theory.specs.Theorems.{SetsMeanWhatTheySay, CountsAndRanksAreUnique, AscendingListsLengths, OneParse, RankBelowCount, RanksNumberTheSentences, SentencesAreListedInSplitOrder, SplitOrderIsStrictAndTotal, CountIsSumOfSlots, ComputedCountsAreCounts, AtMostOneWayToNothing}
use Rattle.theory.proofs.Counting.{slots_same, is_rule, count_equation}
use Rattle.theory.proofs.Unique.{nullable, one_parse}
use Rattle.theory.proofs.Rewriting.{derives_rewrites, rewrites_derives, nullable_derives, nullable_rewrites, first_rewrites, rewrites_first, follow_rewrites, rewrites_follow, reaches_rewrites, rewrites_reaches}
use Rattle.theory.proofs.Members.{exactly_unique, exactly_one, sorted_total, sorted_transitive, placed}
use Rattle.theory.proofs.Parts.{empty_parts}
use Rattle.theory.proofs.Strict.{equally_long, preceded, strict, asymmetric}
use Rattle.theory.proofs.Ascending.{sorted_counting, ascending_lists}
use Rattle.theory.proofs.Listing.{sentences_just, sentences_sorted, sentences_once, sentences_only, sentences_exactly, rank_at, place_rank, rank_in_count, with_rank, computed_count, computed_ways}

-- derivations and the smallest sets, over sentential forms
pub sets_by_forms : SetsMeanWhatTheySay
sets_by_forms G = record {
  derives = λ Xs w. (derives_rewrites, λ r. rewrites_derives r w refl);
  nullable = λ Xs. (nullable_rewrites, λ r. nullable (rewrites_derives r [] refl) refl);
  nullable_derives = λ Xs. (nullable_derives, λ d. nullable d refl);
  first = λ Xs a. (first_rewrites, λ r. rewrites_first r.1 a r.0 refl);
  follow = λ B a. (follow_rewrites, rewrites_follow B a);
  reaches = λ A B. (reaches_rewrites, λ r. rewrites_reaches A B r.0 r.1);
}

-- there is one count, one number of ways and one rank
pub numbers_unique : CountsAndRanksAreUnique
numbers_unique G = record {
  one_count = λ A m k k'. exactly_unique k k';
  one_ways = λ Xs m k k'. exactly_unique k k';
  one_rank = λ order A k k' w r r'. exactly_unique k k' r.1 r'.1;
}

-- the ascending order lists each length once, the shorter before the longer
pub lengths_listed : AscendingListsLengths
lengths_listed = (ascending_lists, λ m. sorted_counting 0 (suc m))

-- a sentence has one parse
pub one_parse_each : OneParse
one_parse_each = one_parse

-- the sentences are listed in split order
pub sentences_listed : SentencesAreListedInSplitOrder
sentences_listed G level order ll lists A m = record {
  list = sentences order G A m;
  is = refl;
  in_order = sentences_sorted ll lists A m;
  once = sentences_once ll lists A m;
  just = sentences_just ll lists A m;
  only = sentences_only ll lists A m;
}

-- split order is a strict total order
pub strict_total : SplitOrderIsStrictAndTotal
strict_total G level order ll lists A m =
    let R = Precedes G order A in
    let irr = λ (a b : List ℕ) (p : R a b). strict p ll.apart lists in
    let asy = λ (a b : List ℕ) (p : R a b). asymmetric p ll.apart lists in
    let xs = sentences order G A m in
    let so = sentences_sorted ll lists A m in
    let member = λ (w : List ℕ) (h : SentenceOf G A m w). (sentences_just ll lists A m w).1 h in
    record {
      irreflexive = λ w p. irr w w p refl;
      transitive = λ u v w h p q.
          sorted_transitive R irr asy xs so u v w (member u h) (member v (preceded p, sym (equally_long p) ∙ h.1))
          (member w (preceded q, sym (equally_long q) ∙ sym (equally_long p) ∙ h.1)) p q;
      total = λ v w h h'. sorted_total R irr asy xs so v w (member v h) (member w h');
    }

-- a sentence has a rank below the count
pub rank_below : RankBelowCount
rank_below G level order ll lists A w d =
    let xs = sentences order G A (length w) in
    let p = placed [] xs ((sentences_just ll lists A (length w) w).1 (d, refl)) in (
      p.place,
      length xs,
      subst (λ (y : List ℕ). Rank G order A y p.place) p.is (rank_at ll lists A (length w) p.place p.below),
      sentences_exactly ll lists A (length w),
      p.below,
    )

-- ranks number the sentences
pub ranks_number : RanksNumberTheSentences
ranks_number G level order ll lists A m c h = record {
  ranked = λ w d.
      let r = rank_below G level order ll lists A w d.0 in (r.0, r.2);
  one_rank = λ w k k' r r'. exactly_unique k k' r.1 r'.1;
  below = λ w k d r. rank_in_count ll lists A m c k w h d r;
  reached = λ k l. with_rank ll lists A m c k h l;
  one_sentence = λ v w k d d' r r'. sym (place_rank ll lists A m k v d r).1 ∙ (place_rank ll lists A m k w d' r').1;
}

-- the count of a nonterminal is the sum of its slots' ways
pub count_by_ways : CountIsSumOfSlots
count_by_ways G level ll A m c h ways f =
    exactly_unique c (count G A m) h (computed_count ll A m) ∙
    sym (count_equation ll A m) ∙
    slots_same G A (λ s. side_count (count G) (right_of (G.slot s)) m) ways G.slots
    (λ s l e.
    exactly_unique (side_count (count G) (right_of (G.slot s)) m) (ways s) (computed_ways ll (right_of (G.slot s)) m)
    (f s (right_of (G.slot s)) (is_rule (G.slot s) e)))

-- the computed counts are the counts
pub counts_computed : ComputedCountsAreCounts
counts_computed G level ll = record { of_nonterminal = computed_count ll; of_symbols = computed_ways ll }

-- at most one way gives no tokens
pub one_way_to_nothing : AtMostOneWayToNothing
one_way_to_nothing G = (
  λ A c h. exactly_one c h (λ x y p q. nil_from_length x p.1 ∙ sym (nil_from_length y q.1)),
  λ Xs c h. exactly_one c h (λ x y p q. empty_parts p.0 p.1 y q.0 q.1),
)
