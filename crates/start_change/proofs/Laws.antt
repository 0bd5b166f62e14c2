-- The laws of a change of start. Assumes nothing.
use Rattle.std.proofs.Common.{◌≡◌, ℕ, ◌≤◌, ltb, Some, refl, ap}
use Rattle.std.proofs.lemmas.Bool.{lt-ltb, le-ltb, cond-true, cond-false}
use Rattle.theory.specs.Grammar.{Cfg}
use Rattle.grammar.proofs.Smaller.{derives_within}
use Rattle.start_change.specs.Started.{with_start}
use Rattle.start_change.specs.Laws.{DerivationsAreThoseBelow, StartIsStoredOrBelow}

-- the derivations are those below
pub derivations_are_those_below : DerivationsAreThoseBelow
derivations_are_those_below G o Xs w =
    (λ d. derives_within (with_start G o) G (λ s A Ys e. e) d, λ d. derives_within G (with_start G o) (λ s A Ys e. e) d)

-- a start that is no nonterminal below has no effect
no_effect : (G : Cfg) (A : ℕ) → G.nonterminals ≤ A → with_start G (Some A) ≡ G
no_effect G A h =
    ap (λ (x : ℕ). record { terminals = G.terminals; nonterminals = G.nonterminals; start = x; slots = G.slots; slot = G.slot })
    (cond-false (ltb A G.nonterminals) A G.start (le-ltb A G.nonterminals h))

-- what the start is
pub start_is_stored_or_below : StartIsStoredOrBelow
start_is_stored_or_below G =
    record {
      stored = λ A h. cond-true (ltb A G.nonterminals) A G.start (lt-ltb A G.nonterminals h);
      not_below = no_effect G;
      none_stored = refl;
    }
