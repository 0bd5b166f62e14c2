-- What an expansion answers, by how it ends; and the number of each sentence. Assumes nothing.
use Rattle.std.proofs.Common.{◌≡◌, ℕ, ◌<◌, ◌≤◌, List, [], length, get_or, take, Ok, Err, Result, sym, refl, ap, ◌∙◌, subst, arith}
use Rattle.fault.specs.declared.Fault.{Fault}
use Rattle.fault.specs.declared.Fault.TheVariants.{NumberTooLarge}
use Rattle.theory.specs.Grammar.{Cfg, SentenceOf}
use Rattle.theory.specs.Sound.{Ll1}
use Rattle.theory.specs.Order.{LengthOrder, ListsLengths, Rank}
use Rattle.theory.specs.Count.{Count, count}
use Rattle.theory.specs.Enumerate.{sentences}
use Rattle.theory.proofs.Members.{in_at, exactly_unique, Placed, placed}
use Rattle.theory.proofs.Listing.{sentences_just, sentences_exactly, rank_at, place_rank, rank_in_count, computed_count, sentences_length}
use Rattle.table.specs.Calls.{SamePast}
use Rattle.table.specs.Checked.{Usable, Unusable}
use Rattle.expanding.specs.Calls.{HasNumber, NoNumber, too_large, Expanded, SentenceAnswer, lent_by, unusable, no_number, ExpandAnswer}
use Rattle.expanding.specs.Laws.{OneNumber}

module _ {G : Cfg} {level : ℕ → ℕ} (ll : Ll1 G level) where
  -- a number that is not below the count
  pub no_number_of : (n k c : ℕ) (f : Fault) → c ≡ count G G.start n → f ≡ NumberTooLarge c → c ≤ k → NoNumber G n k f
  no_number_of n k c f e i l =
      subst (λ (x : Fault). NoNumber G n k x) (sym i) (too_large c (subst (λ (x : ℕ). Count G G.start n x) (sym e) (computed_count ll G.start n)) l)

module _ {G : Cfg} {level : ℕ → ℕ} {order : LengthOrder} (ll : Ll1 G level) (lists : ListsLengths order) where
  -- a number below the count is that of a sentence
  sentence_at : (n k : ℕ) → k < count G G.start n → SentenceOf G G.start n (get_or (sentences order G G.start n) k [])
  sentence_at n k l =
      (sentences_just ll lists G.start n (get_or (sentences order G G.start n) k [])).0 (in_at [] (sentences order G G.start n) k (omega (arith, sentences_length ll lists G.start n)))

  pub sentence_long : (n k : ℕ) → k < count G G.start n → length (get_or (sentences order G G.start n) k []) ≡ n
  sentence_long n k l = (sentence_at n k l).1

  -- the sentence that is written has the rank of its number
  pub expanded : (n k : ℕ) (before after : List ℕ) → k < count G G.start n → take n after ≡ get_or (sentences order G G.start n) k [] → SamePast n before after
      → Expanded order G n k before after
  expanded n k before after l is rest = record {
    ranked = subst (λ (v : List ℕ). Rank G order G.start v k) (sym is) (rank_at ll lists G.start n k (omega (arith, sentences_length ll lists G.start n)));
    long = ap length is ∙ sentence_long n k l;
    rest = rest;
  }

  -- a number that has been expanded is below the count
  has_number : (n k : ℕ) (before after : List ℕ) → Expanded order G n k before after → HasNumber G n k
  has_number n k before after x = record {
    count = count G G.start n;
    counts = computed_count ll G.start n;
    below = rank_in_count ll lists G.start n (count G G.start n) k (take n after) (computed_count ll G.start n) (x.ranked.0, x.long) x.ranked;
  }

  -- one that is refused is not
  not_below : (n k : ℕ) (f : Fault) → HasNumber G n k → NoNumber G n k f → ⊥
  not_below n k f h (too_large c e l) = omega (arith, h.below, exactly_unique h.count c h.counts e)

  module _ {E : Type 0} {L : ℕ} {cells : List ℕ} {n k : ℕ} {stack : List E} {before after : List ℕ} where
    -- the table may not be used
    pub unusable_answer : {T : Type 0} (f : Fault) → Unusable G L cells n (lent_by stack before) f → (Usable G L cells n (lent_by stack before) → ⊥) → after ≡ before
        → ExpandAnswer {T = T} order G L cells n k stack before after (Err f)
    unusable_answer f u never e = record {
      answer = (unusable u, e);
      exactly = (λ i. let z : ◌≡◌ {A = ℕ} 0 1 = cc in absurd (omega arith), λ o. absurd (never o.0));
    }

    -- it may be used
    pub usable_answer : {T : Type 0} (r : Result T Fault) → Usable G L cells n (lent_by stack before) → SentenceAnswer order G n k before after r
        → ExpandAnswer order G L cells n k stack before after r
    usable_answer (Ok x) u h = record { answer = (u, h); exactly = (λ i. (u, has_number n k before after h), λ o. refl) }
    usable_answer (Err f) u h = record {
      answer = (no_number u h.0, h.1);
      exactly = (λ i. let z : ◌≡◌ {A = ℕ} 0 1 = cc in absurd (omega arith), λ o. absurd (not_below n k f o.1 h.0));
    }

  -- a sentence has one number
  pub one_number : (n : ℕ) (w : List ℕ) → SentenceOf G G.start n w → OneNumber order G n w
  one_number n w s = record {
    number = at.place;
    below = record { count = length xs; counts = sentences_exactly ll lists G.start n; below = at.below };
    leaves = λ v l.
        let x = l.answer.answer.1 in
        sym l.is ∙ sym (place_rank ll lists G.start n at.place (take n l.after) (x.ranked.0, x.long) x.ranked).1 ∙ at.is;
    only = λ k l.
        let x = l.answer.answer.1 in
        exactly_unique k at.place (subst (λ (v : List ℕ). Rank G order G.start v k) l.is x.ranked).1 ranked.1;
  }
    where
      xs : List (List ℕ)
      xs = sentences order G G.start n

      at : Placed [] xs w
      at = placed [] xs ((sentences_just ll lists G.start n w).1 s)

      ranked : Rank G order G.start w at.place
      ranked = subst (λ (v : List ℕ). Rank G order G.start v at.place) at.is (rank_at ll lists G.start n at.place at.below)
