-- A grammar that has no rule but another's, in the same slots: its smallest sets and its derivations are among the other's, and it owes what
-- the other owes. Assumes nothing.
use Rattle.std.proofs.Common.{◌≡◌, ℕ, ◌<◌, ◌≤◌, List, Option, sym, subst, arith}
use Rattle.theory.specs.Grammar.{Symbol, empty, Cfg, RuleAt, Derives, done, read, expand}
use Rattle.theory.specs.Sets.{Nullable, none, next, First, itself, inside, behind, Follow, from_first, from_left, Next, token, end, FollowOrEnd, Predict, by_first, by_follow, Leads, at_front, past, LeftCorner}
use Rattle.theory.specs.Sound.{Known, Limits}
use Rattle.grammar.specs.Interface.{Chooses, Implements}
use Rattle.grammar.proofs.Derived.{implements}

-- each rule of F stands in the same slot of G
abbrev pub RulesWithin : Cfg → Cfg → Type 0
RulesWithin F G = (s A : ℕ) (Ys : List Symbol) → RuleAt F s A Ys → RuleAt G s A Ys

-- the numbers of terminals, nonterminals and slots are equal
pub record EqualSizes (F G : Cfg) : Type 0 where
  pub terminals : F.terminals ≡ G.terminals
  pub nonterminals : F.nonterminals ≡ G.nonterminals
  pub slots : F.slots ≡ G.slots

module _ (F G : Cfg) (within : RulesWithin F G) where
  -- nullable lists of symbols
  pub nullable_within : {Xs : List Symbol} → Nullable F Xs → Nullable G Xs
  nullable_within none = none
  nullable_within (next s Ys e p q) = next s Ys (within s _ Ys e) (nullable_within p) (nullable_within q)

  -- FIRST
  pub first_within : {Xs : List Symbol} {a : ℕ} → First F Xs a → First G Xs a
  first_within (itself e) = itself e
  first_within (inside s Ys e p) = inside s Ys (within s _ Ys e) (first_within p)
  first_within (behind n p) = behind (nullable_within n) (first_within p)

  -- FOLLOW
  pub follow_within : {B a : ℕ} → Follow F B a → Follow G B a
  follow_within (from_first s A Ys P Q e f p) = from_first s A Ys P Q (within s A Ys e) f (first_within p)
  follow_within (from_left s A Ys P Q e f n p) = from_left s A Ys P Q (within s A Ys e) f (nullable_within n) (follow_within p)

  -- FOLLOW, or the end
  follow_or_end_within : (A : ℕ) (n : Next) → FollowOrEnd F A n → FollowOrEnd G A n
  follow_or_end_within A (token a) p = follow_within p
  follow_or_end_within A end p = p

  -- predict sets
  pub predict_within : {s : ℕ} {n : Next} → Predict F s n → Predict G s n
  predict_within {s} (by_first A Ys a e p) = by_first A Ys a (within s A Ys e) (first_within p)
  predict_within {s} (by_follow {n} A Ys e p q) = by_follow A Ys (within s A Ys e) (nullable_within p) (follow_or_end_within A n q)

  -- what stands behind nullable symbols
  leads_within : {Xs : List Symbol} {B : ℕ} → Leads F Xs B → Leads G Xs B
  leads_within (at_front e) = at_front e
  leads_within (past n p) = past (nullable_within n) (leads_within p)

  -- left corners
  pub corner_within : {A B : ℕ} → LeftCorner F A B → LeftCorner G A B
  corner_within {A} c = record { slot = c.slot; side = c.side; holds = within c.slot A c.side c.holds; leads = leads_within c.leads }

  -- derivations
  pub derives_within : {Xs : List Symbol} {w : List ℕ} → Derives F Xs w → Derives G Xs w
  derives_within done = done
  derives_within (read e d) = read e (derives_within d)
  derives_within (expand s Ys u v r e d d') = expand s Ys u v (within s _ Ys r) e (derives_within d) (derives_within d')

  -- the limits hold where the sizes are equal, the start is a nonterminal and the slots outside are empty
  pub limits_within : EqualSizes F G → F.start < F.nonterminals → ((s : ℕ) → F.slots ≤ s → F.slot s ≡ empty) → Limits G → Limits F
  limits_within z h o l =
      let t = z.terminals in
      let n = z.nonterminals in
      let k = z.slots in
      record {
        terminals_low = omega (arith, l.terminals_low);
        terminals_high = omega (arith, l.terminals_high);
        nonterminals_low = omega (arith, l.nonterminals_low);
        nonterminals_high = omega (arith, l.nonterminals_high);
        start_known = h;
        slots_high = omega (arith, l.slots_high);
        outside = o;
        left_known = λ s A Ys e. omega (arith, l.left_known s A Ys (within s A Ys e));
        side_short = λ s A Ys e. l.side_short s A Ys (within s A Ys e);
        side_known =
            λ s A Ys X e p.
            subst (λ (N : ℕ). Known F.terminals N X) (sym n) (subst (λ (T : ℕ). Known T G.nonterminals X) (sym t) (l.side_known s A Ys X (within s A Ys e) p));
      }

  -- it owes no more than limits and a choice
  pub implements_within : {chosen chosen' : ℕ → Next → Option ℕ} {level : ℕ → ℕ} → EqualSizes F G → Limits F → Chooses F chosen → Implements G chosen' level
      → Implements F chosen level
  implements_within z l c s =
      implements l (λ i A Ys e h p. s.sound.no_long_nullable_side i A Ys (within i A Ys e) h (nullable_within p)) c
      (record { small = s.levels.small; falls = λ A B p. s.levels.falls A B (corner_within p) })
      (λ A h. s.level_outside A (omega (arith, z.nonterminals)))
