use Rattle.std.proofs.Common.{◌<◌, refl, arith, below_more}
use Rattle.grammar.proofs.Derived.{ll1_of}
use Rattle.table.specs.FillingOf.{PrefixRight}
use Rattle.table.proofs.Due.{nonterminal_due}
use Rattle.table.proofs.Stays.{onward, back, stays_corners, stays_prefix, stays_on, nonterminal_done}
use Rattle.table.proofs.filling.Filling.fill_nonterminal.Goals as goal

pub fill_prefix-requires : goal.fill_prefix-requires
fill_prefix-requires g c =
    let k = c.loop-s.invariant.0 in
    record {
      inside = onward k (λ h l n. c.loop-s.s < (g.G.Grammar.meaning h).slots) (omega arith);
      corners = stays_corners k c.requires.corners;
    }

pub loop-s-preserved : goal.loop-s-preserved
loop-s-preserved g c =
    let k = c.loop-s.invariant.0 in
    let got = c.in_ok-fill_prefix.ensures in (
      stays_on k got.stays,
      below_more (PrefixRight c.fill_prefix.new.self c.args.a) c.loop-s.s
          (λ q l. stays_prefix got.stays (onward k (λ h l n. q < (g.G.Grammar.meaning h).slots) (omega arith)) (c.loop-s.invariant.1 q l))
          got.done,
    )

pub fill-requires : goal.fill-requires
fill-requires g c =
    let y = c.loop-s.self in
    let k = c.loop-s.invariant.0 in
    let f = g.met.G.Grammar.implements y.grammar.now in
    record {
      stands = record { is_row = onward k (λ h l n. c.args.a < (g.G.Grammar.meaning h).nonterminals) c.requires.inside; is = refl };
      due = nonterminal_due (ll1_of f) c.args.a y.length (λ q l. c.loop-s.invariant.1 q (omega (arith, back k (λ h l n. q < (g.G.Grammar.meaning h).slots) l)));
    }

pub returns-clause-done : goal.returns-clause-done
returns-clause-done g c =
    let k = c.loop-s.invariant.0 in
    let end = c.fill.ensures in
    nonterminal_done c.fill.result k end.stays (λ q l. c.loop-s.invariant.1 q (omega (arith, back k (λ h l n. q < (g.G.Grammar.meaning h).slots) l))) end.done
