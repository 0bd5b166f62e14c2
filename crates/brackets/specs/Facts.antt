-- What the grammar of k kinds of brackets owes. Assumes nothing.
use Rattle.std.specs.Prelude.{◌≡◌, ℕ, ◌+◌, ◌*◌, ◌<◌, ◌≤◌, Bool, true, false, cond, List, [], ◌∷◌, ◌++◌, length, Some, None, ◌==◌, ◌≢◌, nat_lt, refl}
use Rattle.std.proofs.Common.{sym, ap, ◌∙◌, subst, arith}
use Rattle.std.proofs.lemmas.Bool.{ltb-true, eqb-true, lt-ltb, le-ltb}
use Rattle.theory.specs.Lists.{In, here, there}
use Rattle.theory.specs.Grammar.{Symbol, terminal, nonterminal, rule, empty, Cfg, RuleAt}
use Rattle.theory.specs.Sets.{Nullable, none, next, First, itself, inside, behind, Follow, from_first, from_left, Next, token, end, FollowOrEnd, Predict, by_first, by_follow, Leads, at_front, past}
use Rattle.theory.specs.Sound.{Known, Limits}
use Rattle.theory.specs.Count.{left_of}
use Rattle.grammar.specs.Interface.{Chooses, Implements}
use Rattle.grammar.proofs.Derived.{implements}
use Rattle.brackets.specs.Brackets.{bracket_side, bracket_slot, bracket_grammar, bracket_choice}

-- ---- sides that begin with a terminal, and the empty side, in any grammar

-- FIRST of a side that begins with a terminal is that terminal
first_terminal : {G : Cfg} {t a : ℕ} {Xs Ys : List Symbol} → Ys ≡ terminal t ∷ Xs → First G Ys a → a ≡ t
first_terminal e (itself f) = cc
first_terminal e (inside s Zs f p) = let z : ◌≡◌ {A = ℕ} 0 1 = cc in absurd (omega arith)
first_terminal e (behind n p) = let z : ◌≡◌ {A = ℕ} 0 1 = cc in absurd (omega arith)

-- FIRST of the empty side has nothing
first_none : {G : Cfg} {a : ℕ} {Ys : List Symbol} → Ys ≡ [] → First G Ys a → ⊥
first_none e (itself f) = let z : ◌≡◌ {A = ℕ} 0 1 = cc in omega arith
first_none e (inside s Zs f p) = let z : ◌≡◌ {A = ℕ} 0 1 = cc in omega arith
first_none e (behind n p) = let z : ◌≡◌ {A = ℕ} 0 1 = cc in omega arith

-- a side that begins with a terminal is not nullable
nullable_terminal : {G : Cfg} {t : ℕ} {Xs Ys : List Symbol} → Ys ≡ terminal t ∷ Xs → Nullable G Ys → ⊥
nullable_terminal e none = let z : ◌≡◌ {A = ℕ} 0 1 = cc in omega arith
nullable_terminal e (next s Zs f p q) = let z : ◌≡◌ {A = ℕ} 0 1 = cc in omega arith

-- no nonterminal leads it
leads_terminal : {G : Cfg} {t B : ℕ} {Xs Ys : List Symbol} → Ys ≡ terminal t ∷ Xs → Leads G Ys B → ⊥
leads_terminal e (at_front f) = let z : ◌≡◌ {A = ℕ} 0 1 = cc in omega arith
leads_terminal e (past n p) = let z : ◌≡◌ {A = ℕ} 0 1 = cc in omega arith

-- none leads the empty side
leads_none : {G : Cfg} {B : ℕ} {Ys : List Symbol} → Ys ≡ [] → Leads G Ys B → ⊥
leads_none e (at_front f) = let z : ◌≡◌ {A = ℕ} 0 1 = cc in omega arith
leads_none e (past n p) = let z : ◌≡◌ {A = ℕ} 0 1 = cc in omega arith

-- the two forms of a rule
pub data Form (k s A : ℕ) (Ys : List Symbol) : Type 0 where
  pair : s < k → A ≡ 0 → Ys ≡ bracket_side k s → Form k s A Ys
  nothing : s ≡ k → A ≡ 0 → Ys ≡ [] → Form k s A Ys

-- a rule has one of the two forms
pub form : (k s A : ℕ) (Ys : List Symbol) → bracket_slot k s ≡ rule A Ys → Form k s A Ys
form k s A Ys = go (nat_lt s k) refl (s == k) refl
  where
    go : (b : Bool) → nat_lt s k ≡ b → (d : Bool) → (s == k) ≡ d → cond b (rule 0 (bracket_side k s)) (cond d (rule 0 []) empty) ≡ rule A Ys → Form k s A Ys
    go true h d i e = pair (ltb-true s k h) (cc) (cc)
    go false h true i e = nothing (eqb-true s k i) (cc) (cc)
    go false h false i e = let z : ◌≡◌ {A = ℕ} 0 1 = cc in absurd (omega arith)

-- ---- what may come after a nonterminal

-- behind a nonterminal of a pair only the closing bracket can come first
behind_first : {G : Cfg} (k s B a : ℕ) (P Q : List Symbol) → bracket_side k s ≡ P ++ (nonterminal B ∷ Q) → First G Q a → a ≡ k + s
behind_first k s B a [] Q e p = let z : ◌≡◌ {A = ℕ} 0 1 = cc in absurd (omega arith)
behind_first k s B a (X ∷ []) Q e p = let q : Q ≡ terminal (k + s) ∷ (nonterminal 0 ∷ []) = cc in first_terminal q p
behind_first k s B a (X ∷ (Y ∷ [])) Q e p = let z : ◌≡◌ {A = ℕ} 0 1 = cc in absurd (omega arith)
behind_first k s B a (X ∷ (Y ∷ (Z ∷ []))) Q e p = let q : Q ≡ [] = cc in absurd (first_none q p)
behind_first k s B a (X ∷ (Y ∷ (Z ∷ (W ∷ [])))) Q e p = let z : ◌≡◌ {A = ℕ} 0 1 = cc in absurd (omega arith)
behind_first k s B a (X ∷ (Y ∷ (Z ∷ (W ∷ (V ∷ P))))) Q e p = let z : ◌≡◌ {A = ℕ} 0 1 = cc in absurd (omega arith)

-- the empty side holds no nonterminal
no_place : (B : ℕ) (P Q : List Symbol) → [] ≢ P ++ (nonterminal B ∷ Q)
no_place B [] Q e = let z : ◌≡◌ {A = ℕ} 0 1 = cc in omega arith
no_place B (X ∷ P) Q e = let z : ◌≡◌ {A = ℕ} 0 1 = cc in omega arith

module _ (k : ℕ) where
  -- only closing brackets may follow
  follow_closes : {B a : ℕ} → Follow (bracket_grammar k) B a → (k ≤ a) × (a < 2 * k)
  follow_closes {B} {a} (from_first s A Ys P Q e f p) = go (form k s A Ys e)
    where
      go : Form k s A Ys → (k ≤ a) × (a < 2 * k)
      go (pair l z y) = let h = behind_first k s B a P Q (sym y ∙ f) p in (omega arith, omega arith)
      go (nothing l z y) = absurd (no_place B P Q (sym y ∙ f))
  follow_closes (from_left s A Ys P Q e f n p) = follow_closes p

  -- ---- the choice

  -- at what may follow the choice is slot k
  at_closing : (n : Next) (B : ℕ) → FollowOrEnd (bracket_grammar k) B n → bracket_choice k 0 n ≡ Some k
  at_closing end B p = refl
  at_closing (token a) B p = let h = follow_closes p in let l : k ≤ a = h.0 in let m : a < 2 * k = h.1 in rw (le-ltb a k l, lt-ltb a (2 * k) m)

  -- the choice finds each predicted slot
  chooses : (A s : ℕ) (Ys : List Symbol) (n : Next) → RuleAt (bracket_grammar k) s A Ys → Predict (bracket_grammar k) s n → bracket_choice k A n ≡ Some s
  chooses A s Ys n e (by_first A' Zs a f p) = go (form k s A' Zs f)
    where
      go : Form k s A' Zs → bracket_choice k A (token a) ≡ Some s
      go (pair l z y) = let h : a ≡ s = first_terminal y p in let i : A ≡ 0 = cc in rw (i, h, lt-ltb s k l)
      go (nothing l z y) = absurd (first_none y p)
  chooses A s Ys n e (by_follow A' Zs f p q) = go (form k s A' Zs f)
    where
      go : Form k s A' Zs → bracket_choice k A n ≡ Some s
      go (pair l z y) = absurd (nullable_terminal y p)
      go (nothing l z y) = let i : A ≡ 0 = cc in rw i (at_closing n A' q ∙ ap Some (sym l))

  -- the filled slots are those of nonterminal 0
  left_low : (s : ℕ) → s ≤ k → left_of (bracket_slot k s) ≡ Some 0
  left_low s h = grind arith

  -- what is chosen is a filled slot
  choice_low : (A s : ℕ) (n : Next) → bracket_choice k A n ≡ Some s → (A ≡ 0) × (s ≤ k)
  choice_low A s (token t) e = grind arith
  choice_low A s end e = grind arith

  -- there is no choice at what is no terminal
  no_choice_at : (A t : ℕ) → 2 * k ≤ t → bracket_choice k A (token t) ≡ None
  no_choice_at A t h = grind arith

  -- the choice is as it should be
  bracket_chooses : Chooses (bracket_grammar k) (bracket_choice k)
  bracket_chooses = record {
    own = λ A s n e. let z = choice_low A s n e in left_low s z.1 ∙ ap Some (sym z.0);
    predicted = chooses;
    unknown_terminal = no_choice_at;
  }

  -- ---- limits and levels

  -- the slots above k are empty
  nothing_above : (s : ℕ) → k + 1 ≤ s → bracket_slot k s ≡ empty
  nothing_above s h = grind arith

  -- nonterminal 0 is the only one
  left_zero : {s A : ℕ} {Ys : List Symbol} → Form k s A Ys → A < 1
  left_zero (pair l z y) = omega arith
  left_zero (nothing l z y) = omega arith

  -- right-hand sides are short
  short_side : {s A : ℕ} {Ys : List Symbol} → Form k s A Ys → length Ys ≤ 6
  short_side (pair l z y) = rw y (omega arith)
  short_side (nothing l z y) = rw y (omega arith)

  -- the symbols of a pair are known
  known_in : {s : ℕ} {X : Symbol} → s < k → In X (bracket_side k s) → Known (2 * k) 1 X
  known_in l (here e) = subst (Known (2 * k) 1) (sym e) (omega arith)
  known_in l (there (here e)) = subst (Known (2 * k) 1) (sym e) (omega arith)
  known_in l (there (there (here e))) = subst (Known (2 * k) 1) (sym e) (omega arith)
  known_in l (there (there (there (here e)))) = subst (Known (2 * k) 1) (sym e) (omega arith)
  known_in l (there (there (there (there p)))) = elim p [ ]

  -- the symbols of each right-hand side are known
  known_side : {s A : ℕ} {Ys : List Symbol} {X : Symbol} → Form k s A Ys → In X Ys → Known (2 * k) 1 X
  known_side {X = X} (pair l z y) p = known_in l (subst (λ (Zs : List Symbol). In X Zs) y p)
  known_side {X = X} (nothing l z y) p = elim (subst (λ (Zs : List Symbol). In X Zs) y p) [ ]

  -- the limits hold
  bracket_limits : 1 ≤ k → k ≤ 16 → Limits (bracket_grammar k)
  bracket_limits l h = record {
    terminals_low = omega arith;
    terminals_high = omega arith;
    nonterminals_low = omega arith;
    nonterminals_high = omega arith;
    start_known = omega arith;
    slots_high = omega arith;
    outside = nothing_above;
    left_known = λ s A Ys e. left_zero (form k s A Ys e);
    side_short = λ s A Ys e. short_side (form k s A Ys e);
    side_known = λ s A Ys X e p. known_side (form k s A Ys e) p;
  }

  -- no long right-hand side is nullable
  no_long_side : {s A : ℕ} {Ys : List Symbol} → Form k s A Ys → 2 ≤ length Ys → Nullable (bracket_grammar k) Ys → ⊥
  no_long_side (pair l z y) h p = nullable_terminal y p
  no_long_side (nothing l z y) h p = let i = ap length y in omega arith

  -- there are no left corners
  no_leads : {s A B : ℕ} {Ys : List Symbol} → Form k s A Ys → Leads (bracket_grammar k) Ys B → ⊥
  no_leads (pair l z y) p = leads_terminal y p
  no_leads (nothing l z y) p = leads_none y p

  -- the grammar of k kinds of brackets implements what it owes
  pub bracket_implements : 1 ≤ k → k ≤ 16 → Implements (bracket_grammar k) (bracket_choice k) (λ A. 0)
  bracket_implements l h =
      implements (bracket_limits l h) (λ s A Ys e. no_long_side (form k s A Ys e)) bracket_chooses
      (record { small = λ A. omega arith; falls = λ A B c. absurd (no_leads (form k c.slot A c.side c.holds) c.leads) }) (λ A i. refl)
