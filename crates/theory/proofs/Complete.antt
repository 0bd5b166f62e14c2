-- What the enumeration lists is a sentence of the length, and each sentence is listed. Assumes nothing.
use Rattle.std.proofs.Common.{◌≡◌, ℕ, zero, suc, ◌+◌, ◌-◌, ◌*◌, ◌<◌, ◌≤◌, cond, eqb, ◌⊎◌, List, [], ◌∷◌, map, length, Some, None, Option, sym, refl, ap, ◌∙◌, subst, inl, inr, ⊎_elim, append-nil, le_refl, eq-or-lt_of_le, arith}
use Rattle.std.proofs.lemmas.Bool.{cases_eq, cases_lt, eq-eqb, ne_eqb}
use Rattle.std.proofs.lemmas.List.{nil_from_length}
use Rattle.theory.specs.Lists.{In, here, there, joined}
use Rattle.theory.specs.Grammar.{Symbol, terminal, nonterminal, Cfg, RuleAt, Derives, done, read, expand, Sentence, SentenceOf}
use Rattle.theory.specs.Sets.{Leads, at_front, past}
use Rattle.theory.specs.Sound.{Limits, Levels}
use Rattle.theory.specs.Order.{LengthOrder, ListsLengths, Parts, none, one}
use Rattle.theory.specs.Count.{left_of, right_of}
use Rattle.theory.specs.Enumerate.{Lists, pairs, listed_parts, listed_ways, listed_if, listed_slots, listed}
use Rattle.theory.proofs.Counting.{is_rule}
use Rattle.theory.proofs.Unique.{nullable, sentence}
use Rattle.theory.proofs.Members.{in_append, in_left, in_right, in_map, from_map, in_over, from_over, in_pairs, from_pairs}
use Rattle.theory.proofs.Parts.{parts_derive, derive_parts, length_joined}

-- a member of a list that is kept if the left-hand side is A
pub from_if : (o : Option ℕ) (A : ℕ) (l : List (List ℕ)) {w : List ℕ} → In w (listed_if o A l) → (o ≡ Some A) × In w l
from_if None A l m = elim m [ ]
from_if (Some B) A l {w} m =
    ⊎_elim (λ e. (ap Some e, rw (eq-eqb B A e) at m)) (λ ne. absurd (nothing (rw (ne_eqb B A ne) at m))) (cases_eq B A)
  where
    nothing : In w [] → ⊥
    nothing n = elim n [ ]

-- the list is kept
pub in_if : (o : Option ℕ) (A : ℕ) (l : List (List ℕ)) {w : List ℕ} → o ≡ Some A → In w l → In w (listed_if o A l)
in_if o A l e m = rw e (rw (eq-eqb A A refl) m)

-- w is joined from parts that are listed for a slot of A
pub record Choice (order : LengthOrder) (G : Cfg) (S : Lists) (A m n : ℕ) (w : List ℕ) : Type 0 where
  pub slot : ℕ
  pub below : slot < n
  pub holds : RuleAt G slot A (right_of (G.slot slot))
  pub parts : List (List ℕ)
  pub found : In parts (listed_ways order S (right_of (G.slot slot)) m)
  pub is : w ≡ joined parts

-- what is listed is listed for a slot
pub from_slots : (order : LengthOrder) (G : Cfg) (S : Lists) (A m n : ℕ) {w : List ℕ} → In w (listed_slots order G S A m n) → Choice order G S A m n w
unfolding listed_slots
from_slots order G S A m zero h = elim h [ ]
from_slots order G S A m (suc s) {w} h =
    go (in_append (listed_slots order G S A m s) (listed_if (left_of (G.slot s)) A (map joined (listed_ways order S (right_of (G.slot s)) m))) h)
    (λ i. from_slots order G S A m s i)
  where
    go : In w (listed_slots order G S A m s) ⊎ In w (listed_if (left_of (G.slot s)) A (map joined (listed_ways order S (right_of (G.slot s)) m)))
        → (In w (listed_slots order G S A m s) → Choice order G S A m s w) → Choice order G S A m (suc s) w
    go (inl i) r =
        let c = r i in
        record { slot = c.slot; below = omega (arith, c.below); holds = c.holds; parts = c.parts; found = c.found; is = c.is }
    go (inr i) r =
        let k = from_if (left_of (G.slot s)) A (map joined (listed_ways order S (right_of (G.slot s)) m)) i in
        let j = from_map joined (listed_ways order S (right_of (G.slot s)) m) k.1 in
        record { slot = s; below = le_refl (suc s); holds = is_rule (G.slot s) k.0; parts = j.from; found = j.found; is = j.is }

-- what is joined from listed parts is listed
pub in_slots : (order : LengthOrder) (G : Cfg) (S : Lists) (A m n s : ℕ) (Ys : List Symbol) (us : List (List ℕ)) → s < n → RuleAt G s A Ys
    → In us (listed_ways order S Ys m) → In (joined us) (listed_slots order G S A m n)
unfolding listed_slots
in_slots order G S A m zero s Ys us l r h = absurd (omega arith)
in_slots order G S A m (suc q) s Ys us l r h =
    ⊎_elim
    (λ (e : s ≡ q).
    let r' = ap G.slot (sym e) ∙ r in
    in_right (listed_slots order G S A m q) (listed_if (left_of (G.slot q)) A (map joined (listed_ways order S (right_of (G.slot q)) m)))
    (in_if (left_of (G.slot q)) A (map joined (listed_ways order S (right_of (G.slot q)) m)) (ap left_of r')
    (in_map joined (listed_ways order S (right_of (G.slot q)) m)
    (subst (λ (Zs : List Symbol). In us (listed_ways order S Zs m)) (sym (ap right_of r')) h))))
    (λ ne.
    in_left (listed_slots order G S A m q) (listed_if (left_of (G.slot q)) A (map joined (listed_ways order S (right_of (G.slot q)) m)))
    (in_slots order G S A m q s Ys us (omega arith) r h))
    (cases_eq s q)

-- what S lists for a nonterminal and a length are sentences of it of that length
abbrev pub SoundLists : Cfg → Lists → Type 0
SoundLists G S = (A j : ℕ) (w : List ℕ) → In w (S A j) → SentenceOf G A j w

-- one thing, if a test holds
pub from_test : {E : Type 0} (j n : ℕ) (x : E) {w : E} → In w (cond (eqb j n) (x ∷ []) []) → (j ≡ n) × (w ≡ x)
from_test {E} j n x {w} m = ⊎_elim (λ e. (e, only (rw (eq-eqb j n e) at m))) (λ ne. absurd (nothing (rw (ne_eqb j n ne) at m))) (cases_eq j n)
  where
    nothing : In w [] → ⊥
    nothing i = elim i [ ]

    only : In w (x ∷ []) → w ≡ x
    only (here e) = e
    only (there i) = absurd (nothing i)

-- the parts that are listed for a symbol and a length
pub sound_parts : {G : Cfg} (S : Lists) → SoundLists G S → (X : Symbol) (j : ℕ) {w : List ℕ} → In w (listed_parts S X j)
    → Derives G (X ∷ []) w × (length w ≡ j)
sound_parts {G} S h (terminal t) j m =
    let k = from_test j 1 (t ∷ []) m in
    (subst (λ (y : List ℕ). Derives G (terminal t ∷ []) y) (sym k.1) (read refl done), ap length k.1 ∙ sym k.0)
sound_parts S h (nonterminal A) j {w} m = h A j w m

-- a slot that holds a rule is one of the grammar's
pub slot_below : {G : Cfg} → Limits G → (s A : ℕ) (Ys : List Symbol) → RuleAt G s A Ys → s < G.slots
slot_below {G} li s A Ys r = go (cases_lt s G.slots)
  where
    go : (s < G.slots) ⊎ (G.slots ≤ s) → s < G.slots
    go (inl l) = l
    go (inr l) = let z : ◌≡◌ {A = ℕ} 0 1 = cc (li.outside s l, r) in absurd (omega arith)

module _ {order : LengthOrder} (lists : ListsLengths order) where
  -- the ways that are listed for some symbols and a length
  pub sound_ways : {G : Cfg} (S : Lists) → SoundLists G S → (Xs : List Symbol) (m : ℕ) (us : List (List ℕ)) → In us (listed_ways order S Xs m)
      → Parts G Xs us × (length (joined us) ≡ m)
  unfolding listed_ways
  sound_ways {G} S h [] m us i =
      let k = from_test {E = List (List ℕ)} m 0 [] i in
      (subst (λ (y : List (List ℕ)). Parts G [] y) (sym k.1) none, ap {B = ℕ} (λ (y : List (List ℕ)). length (joined y)) k.1 ∙ sym k.0)
  sound_ways {G} S h (X ∷ Xs) m us i =
      let s = from_over (λ j. pairs (listed_parts S X j) (listed_ways order S Xs (m - j))) (order m) i in
      let p = from_pairs (listed_parts S X s.at) (listed_ways order S Xs (m - s.at)) s.found in
      let a = sound_parts S h X s.at p.front_in in
      let b = sound_ways S h Xs (m - s.at) p.back p.back_in in
      let l = (lists.just m s.at).0 s.listed in
      let e : length (joined (p.front ∷ p.back)) ≡ m = length_joined p.front p.back ∙ omega (arith, a.1, b.1) in (
        subst (λ (y : List (List ℕ)). Parts G (X ∷ Xs) y) (sym p.is) (one a.0 b.0),
        ap {B = ℕ} (λ (y : List (List ℕ)). length (joined y)) p.is ∙ e,
      )

  -- what the enumeration lists are sentences
  pub sound : (G : Cfg) (f : ℕ) → SoundLists G (listed order G f)
  unfolding listed
  sound G zero A m w n = elim n [ ]
  sound G (suc f) A m w n =
      let c = from_slots order G (listed order G f) A m G.slots n in
      let p = sound_ways (listed order G f) (sound G f) (right_of (G.slot c.slot)) m c.parts c.found in (
        subst (λ (y : List ℕ). Sentence G A y) (sym c.is) (sentence c.slot (right_of (G.slot c.slot)) c.holds (parts_derive p.0)),
        ap length c.is ∙ p.1,
      )

  -- parts are listed where S lists the shorter sentences, and those of length m of the nonterminals that lead
  pub complete_ways : {G : Cfg} (S : Lists) (m : ℕ) → ((B : ℕ) (u : List ℕ) → Sentence G B u → length u < m → In u (S B (length u)))
      → {Xs : List Symbol} {us : List (List ℕ)} → Parts G Xs us → length (joined us) ≤ m
      → (length (joined us) ≡ m → (B : ℕ) → Leads G Xs B → (u : List ℕ) → Sentence G B u → length u ≡ m → In u (S B (length u)))
      → In us (listed_ways order S Xs (length (joined us)))
  unfolding listed_ways
  complete_ways S m low none le lead = here refl
  complete_ways {G} S m low (one {Xs = Xs} {us = us} (read {t} {a} p done) ps) le lead =
      let r = complete_ways S m low ps (omega arith) (λ e. absurd (omega arith)) in
      let n = suc (length (joined us)) in
      let z : n - 1 ≡ length (joined us) = omega arith in
      in_over (λ j. pairs (listed_parts S (terminal t) j) (listed_ways order S Xs (n - j))) 1 (order n) ((lists.just n 1).1 (omega arith))
      (in_pairs {u = a ∷ []} (listed_parts S (terminal t) 1) (listed_ways order S Xs (n - 1)) (here (ap {B = List ℕ} (λ (b : ℕ). b ∷ []) p)) (rw z r))
  complete_ways {G} S m low (one {Xs = Xs} {u} {us} (expand {A = B} s Ys u₁ v₁ ru ex d₁ done) ps) le lead =
      let d = expand s Ys u₁ [] ru ex d₁ done in
      let lx = length_joined u us in
      let n = length (joined (u ∷ us)) in
      let r = complete_ways S m low ps (omega arith)
      (λ e C l. lead (omega arith) C (past (nullable d (nil_from_length u (omega arith))) l)) in
      let z : n - length u ≡ length (joined us) = omega arith in
      in_over (λ j. pairs (listed_parts S (nonterminal B) j) (listed_ways order S Xs (n - j))) (length u) (order n) ((lists.just n (length u)).1 (omega arith))
      (in_pairs (S B (length u)) (listed_ways order S Xs (n - length u)) (part d (eq-or-lt_of_le (omega arith))) (rw z r))
    where
      part : Sentence G B u → (length u ≡ m) ⊎ (length u < m) → In u (S B (length u))
      part d (inl e) = let lx = length_joined u us in lead (omega arith) B (at_front refl) u d e
      part d (inr l) = low B u d l

  -- the sentences with fuel enough are listed
  pub complete : {G : Cfg} {level : ℕ → ℕ} → Limits G → Levels G level → (f A : ℕ) (w : List ℕ) → Sentence G A w → 16 * length w + level A + 1 ≤ f
      → In w (listed order G f A (length w))
  unfolding listed
  complete li ls zero A w d le = absurd (omega arith)
  complete {G} {level} li ls (suc f) A w (expand s Ys u v r ex d done) le =
      let k = derive_parts d in
      let e : w ≡ joined k.parts = ex ∙ append-nil u ∙ k.is in
      subst (λ (y : List ℕ). In y (listed_slots order G (listed order G f) A (length y) G.slots)) (sym e)
      (in_slots order G (listed order G f) A (length (joined k.parts)) G.slots s Ys k.parts (slot_below li s A Ys r) r
      (complete_ways (listed order G f) (length (joined k.parts))
      (λ B y b l. let i = ls.small B in let el = ap length e in complete li ls f B y b (omega arith))
      k.taken (omega arith)
      (λ _ B l y b q.
      let i = ls.falls A B (record { slot = s; side = Ys; holds = r; leads = l }) in
      let el = ap length e in
      complete li ls f B y b (omega arith))))
