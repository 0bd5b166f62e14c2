-- A parse ends in one way, and stops within the tokens. Assumes nothing.
use Rattle.std.proofs.Common.{◌≡◌, ℕ, suc, ◌≤◌, List, ◌++◌, length, Some, None, Option, refl, ap, subst, arith}
use Rattle.theory.specs.Grammar.{Symbol, Cfg}
use Rattle.theory.specs.Sets.{Next, token}
use Rattle.theory.specs.Count.{right_of}
use Rattle.parser.specs.Parser.{GoesThrough, finished, matched, replaced, StopsAfter, tokens_left, other_token, no_choice, after_match, after_replacement}

-- a choice is one slot
same_choice : {o : Option ℕ} {r s : ℕ} → o ≡ Some r → o ≡ Some s → r ≡ s
same_choice e f = cc

-- or none
choice_or_none : {o : Option ℕ} {s : ℕ} → o ≡ Some s → o ≡ None → ⊥
choice_or_none e f = let z : ◌≡◌ {A = ℕ} 0 1 = cc in omega arith

-- a parse never both goes through and stops
pub not_both : {G : Cfg} {chosen : ℕ → Next → Option ℕ} {Xs : List Symbol} {w : List ℕ} {k : ℕ} → GoesThrough G chosen Xs w → StopsAfter G chosen Xs w k → ⊥
not_both finished q = elim q [ ]
not_both (matched e p) (other_token h) = h (ap token e)
not_both (matched e p) (after_match f q) = not_both p q
not_both (replaced s e p) (no_choice f) = choice_or_none e f
not_both {G} {chosen} {w = w} {k} (replaced {Xs = Xs} s e p) (after_replacement r f q) =
    not_both p (subst (λ (i : ℕ). StopsAfter G chosen (right_of (G.slot i) ++ Xs) w k) (same_choice f e) q)

-- a parse stops at one place
pub one_place : {G : Cfg} {chosen : ℕ → Next → Option ℕ} {Xs : List Symbol} {w : List ℕ} {j k : ℕ} → StopsAfter G chosen Xs w j → StopsAfter G chosen Xs w k → j ≡ k
one_place tokens_left tokens_left = refl
one_place (other_token h) (other_token i) = refl
one_place (other_token h) (after_match e q) = absurd (h (ap token e))
one_place (no_choice e) (no_choice f) = refl
one_place (no_choice e) (after_replacement s f q) = absurd (choice_or_none f e)
one_place (after_match e p) (other_token h) = absurd (h (ap token e))
one_place (after_match e p) (after_match f q) = ap suc (one_place p q)
one_place (after_replacement s e p) (no_choice f) = absurd (choice_or_none e f)
one_place {G} {chosen} {w = w} {k = k} (after_replacement {Xs = Xs} s e p) (after_replacement r f q) =
    one_place p (subst (λ (i : ℕ). StopsAfter G chosen (right_of (G.slot i) ++ Xs) w k) (same_choice f e) q)

-- no more tokens are gone than there were
pub within : {G : Cfg} {chosen : ℕ → Next → Option ℕ} {Xs : List Symbol} {w : List ℕ} {k : ℕ} → StopsAfter G chosen Xs w k → k ≤ length w
within tokens_left = omega arith
within (other_token h) = omega arith
within (no_choice e) = omega arith
within (after_match e p) = let h = within p in omega arith
within (after_replacement s e p) = within p
