-- The sentences of an LL(1) grammar, listed: in split order, each once, as many as the count, and each at the place of its rank. Assumes nothing.
use Rattle.std.proofs.Common.{◌≡◌, ℕ, ◌+◌, ◌*◌, ◌<◌, ◌↔◌, List, [], length, get_or, take, sym, refl, ap, ◌∙◌, subst, append-nil, arith}
use Rattle.std.proofs.lemmas.List.{length-take-le}
use Rattle.theory.specs.Lists.{In, Sorted, Distinct, joined}
use Rattle.theory.specs.Grammar.{Symbol, Cfg, Sentence, SentenceOf, expand, done}
use Rattle.theory.specs.Sound.{Ll1}
use Rattle.theory.specs.Order.{LengthOrder, ListsLengths, ascending, Parts, Precedes, PartsPrecede, Rank}
use Rattle.theory.specs.Count.{Count, Ways, right_of, side_count, count}
use Rattle.theory.specs.Enumerate.{listed_ways, listed_slots, sentences}
use Rattle.theory.proofs.Unique.{sentence}
use Rattle.theory.proofs.Members.{sorted_mono, sorted_same, sorted_take, in_at, in_cast, in_prefix, prefix_related, placed, exactly_unique}
use Rattle.theory.proofs.Parts.{parts_derive, derive_parts}
use Rattle.theory.proofs.Complete.{from_slots, in_slots, SoundLists, sound, sound_ways, complete, complete_ways, slot_below}
use Rattle.theory.proofs.Strict.{equally_long, preceding, strict, strict_parts, asymmetric}
use Rattle.theory.proofs.Sorted.{sorted, sorted_slots, sorted_ways}
use Rattle.theory.proofs.Ascending.{ascending_lists, ascending_ways, ascending_sentences}

module _ {G : Cfg} {level : ℕ → ℕ} {order : LengthOrder} (ll : Ll1 G level) (lists : ListsLengths order) where
  -- what is listed are sentences
  pub sentences_sound : SoundLists G (sentences order G)
  unfolding sentences
  sentences_sound A m w i = sound lists G (16 * m + 16) A m w i

  -- each sentence is listed
  pub sentences_complete : (A : ℕ) (w : List ℕ) → Sentence G A w → In w (sentences order G A (length w))
  unfolding sentences
  sentences_complete A w d =
      let i = ll.levels.small A in
      complete lists ll.limits ll.levels (16 * length w + 16) A w d (omega arith)

  -- just the sentences are listed
  pub sentences_just : (A m : ℕ) (w : List ℕ) → In w (sentences order G A m) ↔ SentenceOf G A m w
  sentences_just A m w =
      (sentences_sound A m w, λ h. subst (λ (n : ℕ). In w (sentences order G A n)) h.1 (sentences_complete A w h.0))

  -- they are listed in order
  pub sentences_sorted : (A m : ℕ) → Sorted (Precedes G order A) (sentences order G A m)
  unfolding sentences
  sentences_sorted A m = sorted lists G (16 * m + 16) A m

  -- each is listed once
  pub sentences_once : (A m : ℕ) → Distinct (sentences order G A m)
  sentences_once A m =
      sorted_mono (Precedes G order A) (λ (x y : List ℕ). x ≡ y → ⊥) (sentences order G A m) (λ a b i j p. strict p ll.apart lists) (sentences_sorted A m)

  -- one list alone is sorted and has just the sentences
  pub sentences_only : (A m : ℕ) (l : List (List ℕ)) → Sorted (Precedes G order A) l → ((w : List ℕ) → In w l ↔ SentenceOf G A m w) → l ≡ sentences order G A m
  sentences_only A m l so h =
      sorted_same (Precedes G order A) (λ a b p. strict p ll.apart lists) (λ a b p. asymmetric p ll.apart lists) l (sentences order G A m)
      so (sentences_sorted A m) (λ w i. (sentences_just A m w).1 ((h w).0 i)) (λ w i. (h w).1 ((sentences_just A m w).0 i))

  -- just the ways are listed
  pub ways_just : (Xs : List Symbol) (m : ℕ) (us : List (List ℕ)) → In us (listed_ways order (sentences order G) Xs m) ↔ (Parts G Xs us × (length (joined us) ≡ m))
  ways_just Xs m us = (
    sound_ways lists (sentences order G) sentences_sound Xs m us,
    λ h.
        subst (λ (n : ℕ). In us (listed_ways order (sentences order G) Xs n)) h.1
        (complete_ways lists (sentences order G) (length (joined us)) (λ B u d l. sentences_complete B u d) h.0 (omega arith) (λ e B l u d q. sentences_complete B u d)),
  )

  -- they are listed in order
  pub ways_sorted : (Xs : List Symbol) (m : ℕ) → Sorted (PartsPrecede G order Xs) (listed_ways order (sentences order G) Xs m)
  ways_sorted Xs m = sorted_ways lists (sentences order G) sentences_sound sentences_sorted Xs m

  -- each is listed once
  pub ways_once : (Xs : List Symbol) (m : ℕ) → Distinct (listed_ways order (sentences order G) Xs m)
  ways_once Xs m =
      sorted_mono (PartsPrecede G order Xs) (λ (x y : List (List ℕ)). x ≡ y → ⊥) (listed_ways order (sentences order G) Xs m)
      (λ a b i j p. strict_parts p ll.apart lists) (ways_sorted Xs m)

  -- the sentences are those of the slots, one slot after the other
  pub sentences_by_slots : (A m : ℕ) → listed_slots order G (sentences order G) A m G.slots ≡ sentences order G A m
  sentences_by_slots A m =
      sentences_only A m (listed_slots order G (sentences order G) A m G.slots) (sorted_slots lists (sentences order G) sentences_sound sentences_sorted A m G.slots)
      (λ w. (from w, into w))
    where
      from : (w : List ℕ) → In w (listed_slots order G (sentences order G) A m G.slots) → SentenceOf G A m w
      from w i =
          let c = from_slots order G (sentences order G) A m G.slots i in
          let p = (ways_just (right_of (G.slot c.slot)) m c.parts).0 c.found in
          subst (λ (y : List ℕ). SentenceOf G A m y) (sym c.is) (sentence c.slot (right_of (G.slot c.slot)) c.holds (parts_derive p.0), p.1)

      into : (w : List ℕ) → SentenceOf G A m w → In w (listed_slots order G (sentences order G) A m G.slots)
      into w h = go h.0 h.1
        where
          go : Sentence G A w → length w ≡ m → In w (listed_slots order G (sentences order G) A m G.slots)
          go (expand s Ys u v r e d done) l =
              let k = derive_parts d in
              let q : w ≡ joined k.parts = e ∙ append-nil u ∙ k.is in
              in_cast (listed_slots order G (sentences order G) A m G.slots) q
              (in_slots order G (sentences order G) A m G.slots s Ys k.parts (slot_below ll.limits s A Ys r) r
              ((ways_just Ys m k.parts).1 (k.taken, ap length (sym q) ∙ l)))

  -- the sentences that are listed, counted
  pub sentences_exactly : (A m : ℕ) → Count G A m (length (sentences order G A m))
  sentences_exactly A m = record { all = sentences order G A m; once = sentences_once A m; just = sentences_just A m; size = refl }

  -- the ways that are listed, counted
  pub ways_exactly : (Xs : List Symbol) (m : ℕ) → Ways G Xs m (length (listed_ways order (sentences order G) Xs m))
  ways_exactly Xs m =
      record { all = listed_ways order (sentences order G) Xs m; once = ways_once Xs m; just = ways_just Xs m; size = refl }

  -- the sentence at place k has the rank k
  pub rank_at : (A m k : ℕ) → k < length (sentences order G A m) → Rank G order A (get_or (sentences order G A m) k []) k
  rank_at A m k l =
      let xs = sentences order G A m in
      let w = get_or xs k [] in
      let h = (sentences_just A m w).0 (in_at [] xs k l) in (
        h.0,
        record {
          all = take k xs;
          once = sorted_take (λ (x y : List ℕ). x ≡ y → ⊥) k xs (sentences_once A m);
          just = λ v. (
            prefix_related (Precedes G order A) [] xs (sentences_sorted A m) k l v,
            λ p.
                in_prefix (Precedes G order A) (λ a b q. strict q ll.apart lists) (λ a b q. asymmetric q ll.apart lists) [] xs (sentences_sorted A m) k l v
                ((sentences_just A m v).1 (preceding p, equally_long p ∙ h.1)) p,
          );
          size = length-take-le k xs (omega arith);
        },
      )

  -- a sentence stands at the place of its rank
  pub place_rank : (A m k : ℕ) (w : List ℕ) → SentenceOf G A m w → Rank G order A w k → (k < length (sentences order G A m)) × (get_or (sentences order G A m) k [] ≡ w)
  place_rank A m k w h r =
      let xs = sentences order G A m in
      let p = placed [] xs ((sentences_just A m w).1 h) in
      let q = subst (λ (y : List ℕ). Rank G order A y p.place) p.is (rank_at A m p.place p.below) in
      let e : p.place ≡ k = exactly_unique p.place k q.1 r.1 in
      (omega (arith, p.below), ap {B = List ℕ} (λ (i : ℕ). get_or xs i []) (sym e) ∙ p.is)

  -- the rank of a sentence is below the count
  pub rank_in_count : (A m c k : ℕ) (w : List ℕ) → Count G A m c → SentenceOf G A m w → Rank G order A w k → k < c
  rank_in_count A m c k w h d r =
      let e = exactly_unique c (length (sentences order G A m)) h (sentences_exactly A m) in
      omega (arith, (place_rank A m k w d r).0)

  -- each number below the count is the rank of a sentence
  pub with_rank : (A m c k : ℕ) → Count G A m c → k < c → (w : List ℕ) × SentenceOf G A m w × Rank G order A w k
  with_rank A m c k h l =
      let xs = sentences order G A m in
      let e = exactly_unique c (length xs) h (sentences_exactly A m) in
      let b : k < length xs = omega arith in
      (get_or xs k [], (sentences_just A m (get_or xs k [])).0 (in_at [] xs k b), rank_at A m k b)

-- the computed count of a nonterminal is the number of its sentences
pub computed_count : {G : Cfg} {level : ℕ → ℕ} → Ll1 G level → (A m : ℕ) → Count G A m (count G A m)
computed_count {G} ll A m = subst (λ (k : ℕ). Count G A m k) (ascending_sentences G A m) (sentences_exactly ll ascending_lists A m)

-- the computed count of some symbols is the number of their ways
pub computed_ways : {G : Cfg} {level : ℕ → ℕ} → Ll1 G level → (Xs : List Symbol) (m : ℕ) → Ways G Xs m (side_count (count G) Xs m)
computed_ways {G} ll Xs m =
    subst (λ (k : ℕ). Ways G Xs m k) (ascending_ways (sentences ascending G) (count G) (ascending_sentences G) Xs m) (ways_exactly ll ascending_lists Xs m)

-- as many sentences are listed as the count says
pub sentences_length : {G : Cfg} {level : ℕ → ℕ} {order : LengthOrder} → Ll1 G level → ListsLengths order → (A m : ℕ) → length (sentences order G A m) ≡ count G A m
sentences_length {G} {order = order} ll lists A m =
    exactly_unique (length (sentences order G A m)) (count G A m) (sentences_exactly ll lists A m) (computed_count ll A m)

-- as many ways are listed as the count says
pub ways_length : {G : Cfg} {level : ℕ → ℕ} {order : LengthOrder} → Ll1 G level → ListsLengths order → (Xs : List Symbol) (m : ℕ)
    → length (listed_ways order (sentences order G) Xs m) ≡ side_count (count G) Xs m
ways_length {G} {order = order} ll lists Xs m =
    exactly_unique (length (listed_ways order (sentences order G) Xs m)) (side_count (count G) Xs m) (ways_exactly ll lists Xs m) (computed_ways ll Xs m)
