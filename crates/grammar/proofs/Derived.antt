-- What follows from what a grammar owes: two of the soundness rules, and the answers to questions out of range. Assumes nothing.
use Rattle.std.proofs.Common.{◌≡◌, ℕ, zero, suc, ◌<◌, ◌≤◌, List, [], ◌∷◌, length, Some, None, Option, refl, ap, arith}
use Rattle.theory.specs.Grammar.{Symbol, Cfg, Slot, empty, rule}
use Rattle.theory.specs.Sets.{Next, Reaches, one_step, more}
use Rattle.theory.specs.Sound.{Limits, NoLongNullableSide, NoLeftRecursion, PredictSetsApart, Levels, Ll1}
use Rattle.theory.specs.Count.{left_of, right_of}
use Rattle.grammar.specs.Interface.{byte_at, Chooses, Implements, OutsideIsNone}

-- an option has one value
same_some : {o : Option ℕ} {r q : ℕ} → o ≡ Some r → o ≡ Some q → r ≡ q
same_some e f = cc

-- levels fall along left-corner steps
pub lower : {G : Cfg} {level : ℕ → ℕ} {A B : ℕ} → Levels G level → Reaches G A B → level B < level A
lower l (one_step p) = l.falls _ _ p
lower l (more B p q) = omega (arith, l.falls _ _ p, lower l q)

-- levels rule out left recursion
pub no_left_recursion : {G : Cfg} {level : ℕ → ℕ} → Levels G level → NoLeftRecursion G
no_left_recursion l A p = omega (arith, lower l p)

-- a choice that finds each predicted slot keeps the predict sets apart
pub predict_sets_apart : {G : Cfg} {chosen : ℕ → Next → Option ℕ} → Chooses G chosen → PredictSetsApart G
predict_sets_apart {chosen = chosen} c s s' A Ys Ys' n e f p q = same_some {o = chosen A n} (c.predicted A s Ys n e p) (c.predicted A s' Ys' n f q)

-- what a grammar owes, from the parts that do not follow from the others
pub implements : {G : Cfg} {chosen : ℕ → Next → Option ℕ} {level : ℕ → ℕ} → Limits G → NoLongNullableSide G → Chooses G chosen → Levels G level
    → ((A : ℕ) → G.nonterminals ≤ A → level A ≡ 0) → Implements G chosen level
implements l n c v o = record {
  limits = l;
  sound = record { no_long_nullable_side = n; no_left_recursion = no_left_recursion v; predict_sets_apart = predict_sets_apart c };
  choice = c;
  levels = v;
  level_outside = o;
}

-- what the laws ask of a grammar
pub ll1_of : {G : Cfg} {chosen : ℕ → Next → Option ℕ} {level : ℕ → ℕ} → Implements G chosen level → Ll1 G level
ll1_of s = record { limits = s.limits; apart = s.sound.predict_sets_apart; levels = s.levels }

-- a left-hand side is one of the nonterminals
pub left_below : {G : Cfg} (s : ℕ) {A : ℕ} → Limits G → left_of (G.slot s) ≡ Some A → A < G.nonterminals
left_below {G} s {A} l e = go (G.slot s) refl e
  where
    go : (o : Slot) → G.slot s ≡ o → left_of o ≡ Some A → A < G.nonterminals
    go empty f h = let z : ◌≡◌ {A = ℕ} 0 1 = cc in absurd (omega arith)
    go (rule B Ys) f h = let k : G.slot s ≡ rule A Ys = cc in l.left_known s A Ys k

-- a nonterminal outside the grammar has no choice
pub no_choice : {G : Cfg} {chosen : ℕ → Next → Option ℕ} → Limits G → Chooses G chosen → (A : ℕ) (n : Next) → G.nonterminals ≤ A → chosen A n ≡ None
no_choice {G} {chosen} l c A n h = go (chosen A n) refl
  where
    go : (o : Option ℕ) → chosen A n ≡ o → o ≡ None
    go None e = refl
    go (Some s) e = let z = left_below {G = G} s l (c.own A s n e) in absurd (omega arith)

-- no symbol stands past the end
pub past_end : (Xs : List Symbol) (i : ℕ) → length Xs ≤ i → byte_at Xs i ≡ None
past_end [] i h = refl
past_end (X ∷ Xs) zero h = absurd (omega arith)
past_end (X ∷ Xs) (suc i) h = past_end Xs i (omega arith)

-- questions out of range answer none, or 0
pub outside_is_none : {G : Cfg} {chosen : ℕ → Next → Option ℕ} {level : ℕ → ℕ} → Implements G chosen level → OutsideIsNone G chosen level
outside_is_none {G} s = record {
  no_left = λ i h. ap left_of (s.limits.outside i h);
  no_length = λ i h. ap (λ o. length (right_of o)) (s.limits.outside i h);
  no_symbol_of_slot = λ i j h. ap (λ o. byte_at (right_of o) j) (s.limits.outside i h);
  no_symbol_at = λ i j h. past_end (right_of (G.slot i)) j h;
  no_choice_of = no_choice s.limits s.choice;
  no_choice_at = s.choice.unknown_terminal;
  no_level = s.level_outside;
}
