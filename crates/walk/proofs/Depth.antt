-- No more than (n + 1) × N frames are open when n tokens are gone, with N nonterminals. Assumes nothing.
use Rattle.std.proofs.Common.{◌≡◌, ℕ, zero, suc, ◌+◌, ◌*◌, ◌<◌, ◌≤◌, cond, ltb, List, [], ◌∷◌, ◌++◌, length, take, drop, Some, sym, refl, ap, ◌∙◌, subst, ⊎_elim, append-nil, le_refl, mul-le-mul_right, add-one, arith}
use Rattle.std.proofs.lemmas.List.{take-append-drop}
use Rattle.std.proofs.lemmas.Bool.{cases_eq, cases_lt, lt-ltb, le-ltb}
use Rattle.theory.specs.Grammar.{Symbol, nonterminal, Cfg}
use Rattle.theory.specs.Sets.{Nullable, none, next, Leads, LeftCorner}
use Rattle.theory.specs.Sound.{Ll1}
use Rattle.theory.specs.Count.{left_of, right_of}
use Rattle.theory.proofs.Counting.{is_rule, nullable_join, leads_at}
use Rattle.grammar.proofs.Derived.{left_below}
use Rattle.table.proofs.Sides.{drop_next, take_next, nonterminal_known}
use Rattle.walk.specs.Depth.{Place, side_of, suffix_of, front_of, next_place, higher, OpenFrame, bottom, above, Chain, closed, top}

one_if : (x y : ℕ) → x < y → ◌≡◌ {A = ℕ} (cond (ltb x y) 1 0) 1
one_if x y l = rw (lt-ltb x y l)

none_if : (x y : ℕ) → y ≤ x → ◌≡◌ {A = ℕ} (cond (ltb x y) 1 0) 0
none_if x y l = rw (le-ltb x y l)

at_most_one : (x y : ℕ) → cond (ltb x y) 1 0 ≤ 1
at_most_one x y = ⊎_elim (λ l. omega (arith, one_if x y l)) (λ l. omega (arith, none_if x y l)) (cases_lt x y)

fewer_if : (x y z : ℕ) → y < x → cond (ltb x z) 1 0 ≤ cond (ltb y z) 1 0
fewer_if x y z h = ⊎_elim (λ l. omega (arith, one_if x z l, one_if y z (omega arith))) (λ l. omega (arith, none_if x z l)) (cases_lt x z)

module _ (level : ℕ → ℕ) where
  higher_le : (n A B : ℕ) → level B < level A → higher level n A ≤ higher level n B
  unfolding higher
  higher_le zero A B h = omega arith
  higher_le (suc n) A B h = omega (arith, higher_le n A B h, fewer_if (level A) (level B) (level n) h)

  -- a nonterminal of a lower level has more above it
  higher_lt : (n A B : ℕ) → A < n → level B < level A → higher level n A + 1 ≤ higher level n B
  unfolding higher
  higher_lt zero A B l h = absurd (omega arith)
  higher_lt (suc n) A B l h =
      ⊎_elim
      (λ (e : A ≡ n).
      let i = ap level e in
      omega (arith, higher_le n A B h, none_if (level A) (level n) (omega arith), one_if (level B) (level n) (omega arith)))
      (λ ne. omega (arith, higher_lt n A B (omega arith) h, fewer_if (level A) (level B) (level n) h))
      (cases_eq A n)

  higher_all : (n A : ℕ) → higher level n A ≤ n
  unfolding higher
  higher_all zero A = omega arith
  higher_all (suc n) A = omega (arith, higher_all n A, at_most_one (level A) (level n))

  -- no nonterminal is above itself
  higher_below : (n A : ℕ) → A < n → higher level n A + 1 ≤ n
  unfolding higher
  higher_below zero A l = absurd (omega arith)
  higher_below (suc n) A l =
      ⊎_elim
      (λ (e : A ≡ n). let i = ap level e in omega (arith, higher_all n A, none_if (level A) (level n) (omega arith)))
      (λ ne. omega (arith, higher_below n A (omega arith), at_most_one (level A) (level n)))
      (cases_eq A n)

module _ {G : Cfg} {level : ℕ → ℕ} (ll : Ll1 G level) where
  -- the first frame
  pub begin_chain : (s A : ℕ) → left_of (G.slot s) ≡ Some A → Chain G level (front_of s ∷ []) 0
  begin_chain s A of = top A 0 (record { of = of; since = omega arith; nullable = λ e. none; deep = omega arith }) bottom

  -- a token goes
  pub pass_token : (p : Place) (ps : List Place) (n : ℕ) → Chain G level (p ∷ ps) n → Chain G level (next_place p ∷ ps) (n + 1)
  pass_token p ps n (top A from h b) =
      top A from (record { of = h.of; since = omega (arith, h.since); nullable = λ e. absurd (omega (arith, h.since)); deep = h.deep }) b

  -- a frame opened for the nonterminal at a place lies no deeper than it may
  deeper : (s p below from n A B : ℕ) (Xs : List Symbol) → OpenFrame G level s p below from n A → drop p (right_of (G.slot s)) ≡ nonterminal B ∷ Xs
      → below + 1 ≤ n * G.nonterminals + higher level G.nonterminals B
  deeper s p below from n A B Xs h d =
      ⊎_elim
      (λ (e : n ≡ from).
      let side = right_of (G.slot s) in
      let split = sym (take-append-drop p side) ∙ ap (λ (v : List Symbol). take p side ++ v) d in
      let leads = subst (λ (v : List Symbol). Leads G v B) (sym split) (leads_at (take p side) Xs B (h.nullable e)) in
      let corner : LeftCorner G A B = record { slot = s; side = side; holds = is_rule (G.slot s) h.of; leads = leads } in
      let lt = higher_lt level G.nonterminals A B (left_below {G = G} s ll.limits h.of) (ll.levels.falls A B corner) in
      let same = ap (λ (x : ℕ). x * G.nonterminals) e in
      omega (arith, h.deep))
      (λ ne.
      let more : from + 1 ≤ n = omega (arith, h.since) in
      let product : (from + 1) * G.nonterminals ≤ n * G.nonterminals = mul-le-mul_right G.nonterminals more in
      omega (arith, h.deep, higher_below level G.nonterminals A (left_below {G = G} s ll.limits h.of)))
      (cases_eq n from)

  -- a frame is opened for the nonterminal at the top's place, and the top goes one position further
  pub open_frame : (p : Place) (ps : List Place) (n s B : ℕ) (Xs : List Symbol) → Chain G level (p ∷ ps) n → suffix_of G p ≡ nonterminal B ∷ Xs
      → left_of (G.slot s) ≡ Some B → Chain G level (front_of s ∷ next_place p ∷ ps) n
  open_frame p ps n s B Xs (top A from h b) d of =
      let rest : drop (p.position + 1) (side_of G p) ≡ Xs = rw add-one (drop_next (side_of G p) p.position (nonterminal B) Xs d).0 in
      top B n
      (record { of = of; since = le_refl n; nullable = λ e. none; deep = omega (arith, deeper p.slot p.position (length ps) from n A B Xs h d) })
      (above p.position A from refl (d ∙ ap {B = List Symbol} (λ (v : List Symbol). nonterminal B ∷ v) (sym rest)) h b)

  -- the top is done
  pub close_frame : (p : Place) (ps : List Place) (n : ℕ) → suffix_of G p ≡ [] → Chain G level (p ∷ ps) n → Chain G level ps n
  close_frame p [] n d (top A from h b) = closed
  close_frame p (q ∷ qs) n d (top A from h (above i B from' j e k b)) =
      top B from'
      (record {
        of = k.of;
        since = omega (arith, h.since, k.since);
        nullable = λ (o : n ≡ from').
            let x : n ≡ from = omega (arith, h.since, k.since) in
            let y : from ≡ from' = omega (arith, h.since, k.since) in
            let all : Nullable G (side_of G p) = subst (λ (w : List Symbol). Nullable G w) whole (h.nullable x) in
            let it : Nullable G (nonterminal A ∷ []) = next p.slot (side_of G p) (is_rule (G.slot p.slot) h.of) all none in
            subst (λ (w : List Symbol). Nullable G w) (sym one_more) (nullable_join (k.nullable y) it);
        deep = k.deep;
      })
      b
    where
      whole : take p.position (side_of G p) ≡ side_of G p
      whole = sym (append-nil _) ∙ ap (λ (v : List Symbol). take p.position (side_of G p) ++ v) (sym d) ∙ take-append-drop p.position (side_of G p)

      one_more : take q.position (side_of G q) ≡ take i (side_of G q) ++ (nonterminal A ∷ [])
      one_more = rw (j, add-one) (take_next (side_of G q) i (nonterminal A) (suffix_of G q) e)

  -- so many frames are open at most
  pub depth_bound : (ps : List Place) (n : ℕ) → Chain G level ps n → length ps ≤ (n + 1) * G.nonterminals
  depth_bound [] n c = omega arith
  depth_bound (p ∷ ps) n (top A from h b) =
      let more : from + 1 ≤ n + 1 = omega (arith, h.since) in
      let product : (from + 1) * G.nonterminals ≤ (n + 1) * G.nonterminals = mul-le-mul_right G.nonterminals more in
      omega (arith, h.deep, higher_below level G.nonterminals A (left_below {G = G} p.slot ll.limits h.of))

  -- and fewer where the top stands before a nonterminal
  pub room : (p : Place) (ps : List Place) (n B : ℕ) (Xs : List Symbol) → Chain G level (p ∷ ps) n → suffix_of G p ≡ nonterminal B ∷ Xs
      → length (p ∷ ps) < (n + 1) * G.nonterminals
  room p ps n B Xs (top A from h b) d =
      omega (
        arith,
        deeper p.slot p.position (length ps) from n A B Xs h d,
        higher_below level G.nonterminals B (nonterminal_known ll.limits p.slot p.position B Xs d),
      )
