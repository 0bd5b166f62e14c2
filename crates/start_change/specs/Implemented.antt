-- What a grammar owes, it owes with another start: none of the smallest sets changes. Assumes nothing.
use Rattle.std.specs.Prelude.{ℕ, ◌<◌, Some, None, Option, nat_lt, refl}
use Rattle.std.proofs.lemmas.Bool.{cond_both, ltb-true}
use Rattle.theory.specs.Grammar.{Cfg}
use Rattle.theory.specs.Sets.{Next}
use Rattle.grammar.specs.Interface.{Chooses, Implements}
use Rattle.grammar.proofs.Smaller.{RulesWithin, EqualSizes, predict_within, limits_within, implements_within}
use Rattle.start_change.specs.Started.{effective_start, with_start}

-- the effective start is a nonterminal
start_below : (G : Cfg) (o : Option ℕ) → G.start < G.nonterminals → effective_start G o < G.nonterminals
start_below G None h = h
start_below G (Some A) h =
    cond_both (nat_lt A G.nonterminals) A G.start (λ x. x < G.nonterminals) (λ e. ltb-true A G.nonterminals e) (λ _. h)

module _ (G : Cfg) (o : Option ℕ) where
  -- the rules are those of the grammar below
  same_rules : RulesWithin (with_start G o) G
  same_rules s A Ys e = e

  -- the grammar with another start implements what it owes
  pub start_implements : (chosen : ℕ → Next → Option ℕ) (level : ℕ → ℕ) → Implements G chosen level → Implements (with_start G o) chosen level
  start_implements chosen level s =
      let F = with_start G o in
      let z : EqualSizes F G = record { terminals = refl; nonterminals = refl; slots = refl } in
      let c : Chooses F chosen = record {
        own = s.choice.own;
        predicted = λ A i Ys n e p. s.choice.predicted A i Ys n e (predict_within F G same_rules p);
        unknown_terminal = s.choice.unknown_terminal;
      } in
      implements_within F G same_rules z (limits_within F G same_rules z (start_below G o s.limits.start_known) s.limits.outside s.limits) c s
