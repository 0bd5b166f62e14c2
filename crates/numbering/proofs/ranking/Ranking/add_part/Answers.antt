use Rattle.std.proofs.Common.{◌∙◌, arith}
use Rattle.grammar.proofs.Derived.{ll1_of}
use Rattle.numbering.proofs.Suffixes.{rest_short, terminal_here, length_both, last_here, joins, joined_here}
use Rattle.numbering.proofs.ranking.Ranking.add_part.Goals as goal

pub overflow_add-result : goal.overflow_add-result
overflow_add-result g c =
    let ll = ll1_of (g.met.G.Grammar.implements c.args.self.now.counts.now.grammar.now) in
    let lists = g.met.O.LengthPolicy.lists c.args.self.now.policy.now in
    omega (
      arith,
      rest_short ll lists c.args.frame.now c.args.position c.requires.parts c.args.rest c.requires.rest (rw c.in-Some-Terminal.field-0-is at c.in-Some-Terminal.ensures),
      c.requires.short,
      c.args.self.now.counts.now.sound.room.small,
    )

pub returns-in-Some-Terminal : goal.returns-in-Some-Terminal
returns-in-Some-Terminal g c =
    let ll = ll1_of (g.met.G.Grammar.implements c.args.self.now.counts.now.grammar.now) in
    let lists = g.met.O.LengthPolicy.lists c.args.self.now.policy.now in
    terminal_here ll lists c.args.frame.now c.args.position c.requires.parts c.args.rest c.requires.rest (rw c.in-Some-Terminal.field-0-is at c.in-Some-Terminal.ensures)

pub returns-then-position-length : goal.returns-then-position-length
returns-then-position-length g c =
    let ll = ll1_of (g.met.G.Grammar.implements c.args.self.now.counts.now.grammar.now) in
    let lists = g.met.O.LengthPolicy.lists c.args.self.now.policy.now in
    rw c.from.ensures
    (last_here ll lists c.args.frame.now c.args.position c.requires.parts c.args.rest c.requires.rest (rw c.in-Some-Nonterminal.field-0-is at c.in-Some-Nonterminal.ensures)
    (c.if-position-length.true ∙ c.length.ensures))

pub overflow_add-result-2 : goal.overflow_add-result-2
overflow_add-result-2 g c =
    let ll = ll1_of (g.met.G.Grammar.implements c.args.self.now.counts.now.grammar.now) in
    let lists = g.met.O.LengthPolicy.lists c.args.self.now.policy.now in
    rw c.from.ensures
    (omega (
      arith,
      length_both ll lists c.args.frame.now c.args.position c.requires.parts c.args.rest c.requires.rest (rw c.in-Some-Nonterminal.field-0-is at c.in-Some-Nonterminal.ensures),
      c.requires.short,
      c.args.self.now.counts.now.sound.room.small,
    ))

pub join-requires : goal.join-requires
join-requires g c =
    let ll = ll1_of (g.met.G.Grammar.implements c.args.self.now.counts.now.grammar.now) in
    let lists = g.met.O.LengthPolicy.lists c.args.self.now.policy.now in
    rw c.from.ensures
    (joins ll lists c.args.frame.now c.args.position c.requires.parts c.args.rest c.requires.rest (rw c.in-Some-Nonterminal.field-0-is at c.in-Some-Nonterminal.ensures)
    c.args.self.now.counts.now.sound c.requires.inside c.requires.there c.requires.short _ c.length.ensures c.if-position-length.false _ _ c.row-firsts.ensures c.row-rests.ensures)

pub returns : goal.returns
returns g c =
    let ll = ll1_of (g.met.G.Grammar.implements c.args.self.now.counts.now.grammar.now) in
    let lists = g.met.O.LengthPolicy.lists c.args.self.now.policy.now in
    rw c.from.ensures
    (joined_here ll lists c.args.frame.now c.args.position c.requires.parts c.args.rest c.requires.rest (rw c.in-Some-Nonterminal.field-0-is at c.in-Some-Nonterminal.ensures)
    c.args.self.now.counts.now.sound c.requires.inside c.requires.there c.requires.short _ c.length.ensures c.if-position-length.false _ _ c.row-firsts.ensures c.row-rests.ensures
    (rw c.from.ensures at c.join.ensures))
