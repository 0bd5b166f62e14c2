-- How the parts of symbols add up, from the last to the first. Assumes nothing.
use Rattle.std.proofs.Common.{◌≡◌, ℕ, zero, suc, ◌+◌, ◌-◌, ◌<◌, ◌≤◌, List, [], ◌∷◌, length, get_or, drop, Some, sym, ap, ◌∙◌, subst, ap₂, ⊎_elim, add-one, arith, length-append, drop-cons}
use Rattle.std.proofs.lemmas.Bool.{cases_eq, cases_lt, eq-eqb, ne_eqb}
use Rattle.std.proofs.lemmas.List.{drop_all}
use Rattle.theory.specs.Lists.{joined}
use Rattle.theory.specs.Grammar.{Symbol, terminal, nonterminal, Cfg}
use Rattle.theory.specs.Sound.{Ll1}
use Rattle.theory.specs.Order.{LengthOrder, ListsLengths}
use Rattle.theory.specs.Count.{left_of}
use Rattle.theory.specs.Enumerate.{listed_parts, sentences}
use Rattle.theory.proofs.Members.{in_at}
use Rattle.theory.proofs.Listing.{sentences_just, ways_just}
use Rattle.walk.specs.Ways.{ways, CountedBy, ways_before}
use Rattle.walk.proofs.Ways.{ways_none, terminal_length, terminal_nth, last_length, last_nth, split_nth, split_in_ways}
use Rattle.walk.proofs.Slots.{slot_in_sentences, slot_nth}
use Rattle.numbering.specs.Parts.{no_part, frame_side, PartOf, part_tokens, AllParts, all_tokens, AddsUp, AddsUpFrom, entry_at, Joins, WholePart}
use Rattle.numbering.specs.declared.frame.Part.{Part}
use Rattle.numbering.specs.declared.frame.Frame.{Frame}

-- where the symbols from a position on have their parts, the one there has the part at that position
pub part_there : (order : LengthOrder) (G : Cfg) (X : Symbol) (Xs : List Symbol) (p : ℕ) (ds : List Part) → AllParts order G (X ∷ Xs) (drop p ds)
    → drop p ds ≡ get_or ds p no_part ∷ drop (suc p) ds
part_there order G X Xs p ds a =
    ⊎_elim (λ (l : p < length ds). drop-cons ds p no_part l) (λ l. absurd (rw (drop_all p ds l) at a)) (cases_lt p (length ds))

-- the symbols from any position on have their parts
pub parts_drop : (order : LengthOrder) (G : Cfg) (p : ℕ) (Ys : List Symbol) (ds : List Part) → AllParts order G Ys ds → AllParts order G (drop p Ys) (drop p ds)
parts_drop order G zero Ys ds a = a
parts_drop order G (suc p) [] ds a = tt
parts_drop order G (suc p) (X ∷ Ys) [] a = absurd a
parts_drop order G (suc p) (X ∷ Ys) (d ∷ ds) a = parts_drop order G p Ys ds a.1

-- and no more tokens than all
pub tokens_drop : (order : LengthOrder) (G : Cfg) (p : ℕ) (Ys : List Symbol) (ds : List Part)
    → length (joined (all_tokens order G (drop p Ys) (drop p ds))) ≤ length (joined (all_tokens order G Ys ds))
tokens_drop order G zero Ys ds = omega arith
tokens_drop order G (suc p) [] ds = omega arith
tokens_drop order G (suc p) (X ∷ Ys) [] = more (drop p Ys)
  where
    more : (V : List Symbol) → length (joined (all_tokens order G V [])) ≤ 0
    more [] = omega arith
    more (Y ∷ V) = omega arith
tokens_drop order G (suc p) (X ∷ Ys) (d ∷ ds) =
    omega (arith, tokens_drop order G p Ys ds, length-append (part_tokens order G X d) (joined (all_tokens order G Ys ds)))

-- a part of a terminal has the length 1 and the rank 0
terminal_part : (order : LengthOrder) (G : Cfg) (t : ℕ) (d : Part) → PartOf order G (terminal t) d → (d.length ≡ 1) × (d.rank ≡ 0)
terminal_part order G t d l =
    ⊎_elim
    (λ (e : d.length ≡ 1). (e, (let h = rw (eq-eqb d.length 1 e) at l in omega arith)))
    (λ ne. absurd (let h = rw (ne_eqb d.length 1 ne) at l in omega arith))
    (cases_eq d.length 1)

-- it is the terminal itself
terminal_tokens : (order : LengthOrder) (G : Cfg) (t : ℕ) (d : Part) → PartOf order G (terminal t) d → part_tokens order G (terminal t) d ≡ t ∷ []
terminal_tokens order G t d l =
    let e = terminal_part order G t d l in
    ap₂ {C = List ℕ} (λ (j k : ℕ). get_or (listed_parts (sentences order G) (terminal t) j) k []) e.0 e.1

module _ {G : Cfg} {level : ℕ → ℕ} {order : LengthOrder} (ll : Ll1 G level) (lists : ListsLengths order) where
  -- a part has as many tokens as it says
  pub part_length : (X : Symbol) (d : Part) → PartOf order G X d → length (part_tokens order G X d) ≡ d.length
  part_length (terminal t) d l = ap length (terminal_tokens order G t d l) ∙ sym (terminal_part order G t d l).0
  part_length (nonterminal A) d l =
      ((sentences_just ll lists A d.length (part_tokens order G (nonterminal A) d)).0 (in_at [] (sentences order G A d.length) d.rank l)).1

  -- parts that add up have as many tokens as the sum says
  pub sum_length : (Xs : List Symbol) (ds : List Part) (u : Part) → AddsUp order G Xs ds u → length (joined (all_tokens order G Xs ds)) ≡ u.length
  sum_length Xs ds u a =
      let w = get_or (ways order G Xs u.length) u.rank [] in
      ap {B = ℕ} (λ (us : List (List ℕ)). length (joined us)) (sym a.is) ∙ ((ways_just ll lists Xs u.length w).0 (in_at [] (ways order G Xs u.length) u.rank a.low)).1

  -- the first part and the rest have as many as all
  pub both_length : (X : Symbol) (Xs : List Symbol) (d : Part) (ds : List Part) (u : Part) → PartOf order G X d → AddsUp order G Xs ds u
      → length (joined (all_tokens order G (X ∷ Xs) (d ∷ ds))) ≡ d.length + u.length
  both_length X Xs d ds u l a =
      length-append (part_tokens order G X d) (joined (all_tokens order G Xs ds)) ∙ omega (arith, part_length X d l, sum_length Xs ds u a)

  -- no symbols add up to a part of no tokens
  pub add_none : (f : Frame) (p : ℕ) → length (frame_side G f) ≤ p → AddsUpFrom order G f p no_part
  add_none f p l =
      rw (drop_all p (frame_side G f) l)
      (record { low = omega (arith, ap {B = ℕ} length (ways_none order G)); is = ap {B = List (List ℕ)} (λ (l : List (List (List ℕ))). get_or l 0 []) (ways_none order G) })

  -- a terminal adds one to the length, and leaves the rank
  pub add_terminal : (t : ℕ) (Xs : List Symbol) (d : Part) (ds : List Part) (u : Part) → PartOf order G (terminal t) d → AddsUp order G Xs ds u
      → AddsUp order G (terminal t ∷ Xs) (d ∷ ds) (record { length = u.length + 1; rank = u.rank })
  add_terminal t Xs d ds u l a =
      let m = add-one u.length in
      record {
        low = omega (arith, a.low, ap {B = ℕ} (λ (n : ℕ). length (ways order G (terminal t ∷ Xs) n)) m, terminal_length ll lists t Xs u.length);
        is =
            ap {B = List (List ℕ)} (λ (n : ℕ). get_or (ways order G (terminal t ∷ Xs) n) u.rank []) m
            ∙ terminal_nth ll lists t Xs u.length u.rank a.low
            ∙ ap₂ {C = List (List ℕ)} (λ (v : List ℕ) (vs : List (List ℕ)). v ∷ vs) (sym (terminal_tokens order G t d l)) a.is;
      }

  -- the last symbol gives its own length and rank
  pub add_last : (A : ℕ) (Xs : List Symbol) (d : Part) (ds : List Part) → Xs ≡ [] → PartOf order G (nonterminal A) d → AddsUp order G (nonterminal A ∷ Xs) (d ∷ ds) d
  add_last A Xs d ds e l = subst (λ (V : List Symbol). AddsUp order G (nonterminal A ∷ V) (d ∷ ds) d) (sym e)
      (record { low = omega (arith, last_length ll lists A d.length); is = last_nth ll lists A d.length d.rank l })

  -- any other nonterminal is joined with the rest
  pub add_joined : {A : ℕ} {Xs : List Symbol} {d : Part} {ds : List Part} {u : Part} (firsts rests : List ℕ) {k : ℕ}
      → CountedBy G A Xs (d.length + u.length) (entry_at firsts) (entry_at rests) → Joins order firsts rests d u k → AddsUp order G Xs ds u
      → AddsUp order G (nonterminal A ∷ Xs) (d ∷ ds) (record { length = d.length + u.length; rank = k })
  add_joined {A} {Xs} {d} {ds} {u} firsts rests c j a =
      let b : d.length + u.length - d.length ≡ u.length = omega arith in
      record {
        low = split_in_ways ll lists c j.1;
        is =
            split_nth ll lists c j.1
            ∙ ap {B = List (List ℕ)} (λ (n : ℕ). part_tokens order G (nonterminal A) d ∷ get_or (ways order G Xs n) u.rank []) b
            ∙ ap {B = List (List ℕ)} (λ (vs : List (List ℕ)). part_tokens order G (nonterminal A) d ∷ vs) a.is;
      }

  -- with the ways of the lower slots the sum is the part of the frame's nonterminal
  pub whole : (f : Frame) (A : ℕ) (u : Part) (k : ℕ) → left_of (G.slot f.slot) ≡ Some A → f.slot < G.slots → AddsUp order G (frame_side G f) f.parts u
      → k ≡ ways_before G A u.length f.slot + u.rank → WholePart order G f (record { length = u.length; rank = k })
  whole f A u k own inside a e = record {
    low = λ B o.
        let same : A ≡ B = cc in
        subst (λ (C : ℕ). k < length (sentences order G C u.length)) same (slot_in_sentences ll lists A u.length f.slot u.rank k own inside a.low e);
    is = λ B o.
        let same : A ≡ B = cc in
        subst (λ (C : ℕ). get_or (sentences order G C u.length) k [] ≡ joined (all_tokens order G (frame_side G f) f.parts)) same
        (slot_nth ll lists A u.length f.slot u.rank k own inside a.low e ∙ ap {B = List ℕ} joined a.is);
  }
