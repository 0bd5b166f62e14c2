use Rattle.std.proofs.Common.{◌+◌, ◌<◌, length, ◌∙◌, arith}
use Rattle.grammar.proofs.Derived.{ll1_of}
use Rattle.table.proofs.Sides.{side_six}
use Rattle.expanding.specs.Frames.{place_of}
use Rattle.walk.specs.Depth.{side_of}
use Rattle.expanding.proofs.Parts.{before_inside, last_parted, split_parted, rows_for}
use Rattle.expanding.proofs.dividing.Unranking.first_part.Goals as goal

pub overflow_add-f : goal.overflow_add-f
overflow_add-f g c =
    let l = side_six (ll1_of (g.met.G.Grammar.implements c.args.self.now.counts.now.grammar.now)).limits c.args.f.slot in
    omega (arith, c.requires.frame.inside)

pub returns-then-f-length : goal.returns-then-f-length
returns-then-f-length g c =
    let ll = ll1_of (g.met.G.Grammar.implements c.args.self.now.counts.now.grammar.now) in
    let lists = g.met.O.LengthPolicy.lists c.args.self.now.policy.now in
    last_parted ll lists c.args.f c.args.a c.requires.before c.requires.frame (c.if-f-length.true ∙ c.length.ensures)

pub overflow_add-f-2 : goal.overflow_add-f-2
overflow_add-f-2 g c =
    let l = side_six (ll1_of (g.met.G.Grammar.implements c.args.self.now.counts.now.grammar.now)).limits c.args.f.slot in
    omega (arith, c.requires.frame.inside)

pub divide-requires : goal.divide-requires
divide-requires g c =
    let G = g.G.Grammar.meaning c.args.self.now.counts.now.grammar.now in
    let ll = ll1_of (g.met.G.Grammar.implements c.args.self.now.counts.now.grammar.now) in
    let lists = g.met.O.LengthPolicy.lists c.args.self.now.policy.now in
    let more : c.args.f.position + 1 < length (side_of G (place_of c.args.f)) = omega (arith, before_inside ll lists c.args.f c.args.a c.requires.before, c.length.ensures, c.if-f-length.false) in
    let r = rows_for ll lists c.args.f c.args.a c.requires.before c.args.self.now.counts.now.sound c.requires.frame more c.row-first.ensures c.row-rest.ensures in
    record { small = omega (arith, c.requires.frame.short, c.args.self.now.counts.now.sound.room.small); first = r.first_long; rest = r.rest_long; low = r.low; within = r.within }

pub returns : goal.returns
returns g c =
    let G = g.G.Grammar.meaning c.args.self.now.counts.now.grammar.now in
    let ll = ll1_of (g.met.G.Grammar.implements c.args.self.now.counts.now.grammar.now) in
    let lists = g.met.O.LengthPolicy.lists c.args.self.now.policy.now in
    let more : c.args.f.position + 1 < length (side_of G (place_of c.args.f)) = omega (arith, before_inside ll lists c.args.f c.args.a c.requires.before, c.length.ensures, c.if-f-length.false) in
    let r = rows_for ll lists c.args.f c.args.a c.requires.before c.args.self.now.counts.now.sound c.requires.frame more c.row-first.ensures c.row-rest.ensures in
    split_parted ll lists c.args.f c.args.a c.requires.before r c.divide.result c.divide.ensures
