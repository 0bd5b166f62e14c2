use Rattle.std.proofs.Common.{arith}
use Rattle.theory.proofs.Counting.{slots_none}
use Rattle.grammar.proofs.Derived.{ll1_of}
use Rattle.walk.specs.Ways.{slot_ways}
use Rattle.expanding.proofs.Parts.{opened, behind_slot, no_more_slots}
use Rattle.expanding.proofs.dividing.Unranking.open.Goals as goal

pub loop-slot-init : goal.loop-slot-init
loop-slot-init g c =
    let G = g.G.Grammar.meaning c.args.self.now.counts.now.grammar.now in
    omega (arith, slots_none G c.args.a (slot_ways G c.args.m))

pub returns-in-None : goal.returns-in-None
returns-in-None g c =
    opened (ll1_of (g.met.G.Grammar.implements c.args.self.now.counts.now.grammar.now)) c.args.self.now.counts.now.sound c.args.a c.args.m c.loop-slot.slot c.loop-slot.left c.args.rank
    c.slot_ways.result c.requires.short (omega arith) c.loop-slot.invariant c.slot_ways.ensures (omega (arith, c.in-None.ensures))

pub loop-slot-preserved : goal.loop-slot-preserved
loop-slot-preserved g c =
    behind_slot (ll1_of (g.met.G.Grammar.implements c.args.self.now.counts.now.grammar.now)) c.args.self.now.counts.now.sound c.args.a c.args.m c.loop-slot.slot c.loop-slot.left c.args.rank
    c.slot_ways.result c.requires.short (omega arith) c.loop-slot.invariant c.slot_ways.ensures c.in-Some.later (omega (arith, c.in-Some.ensures))

pub unreachable-requires : goal.unreachable-requires
unreachable-requires g c =
    no_more_slots (ll1_of (g.met.G.Grammar.implements c.args.self.now.counts.now.grammar.now)) c.args.self.now.counts.now.sound c.args.a c.args.m c.loop-slot.slot c.args.rank c.loop-slot.left
    (omega arith) c.loop-slot.invariant c.requires.low
