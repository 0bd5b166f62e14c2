use Rattle.std.proofs.Common.{ℕ, length, refl, ap, arith}
use Rattle.stack.proofs.Tops.{held_none}
use Rattle.numbering.specs.Frames.{room_of}
use Rattle.numbering.proofs.Frames.{done_parts, done_short, done_own, below_low, frame_closes, parse_ends, more_stops}
use Rattle.numbering.proofs.parsing.Parse.close.Goals as goal

pub whole_part-part-requires : goal.whole_part-part-requires
whole_part-part-requires g c =
    let p = c.args.self.now in
    let im = g.met.G.Grammar.implements p.ranking.counts.now.grammar.now in
    record {
      own = done_own im c.requires.at c.requires.here;
      parts = done_parts im c.requires.at c.requires.here;
      short = omega (arith, done_short im c.requires.at c.requires.here, p.short);
    }

pub note-requires : goal.note-requires
note-requires g c =
    let im = g.met.G.Grammar.implements c.args.self.now.ranking.counts.now.grammar.now in
    below_low im (rw c.in-Some.ensures.holds at c.requires.at) c.requires.here

pub returns-in-Some : goal.returns-in-Some
returns-in-Some g c =
    let p = c.args.self.now in
    let im = g.met.G.Grammar.implements p.ranking.counts.now.grammar.now in
    let room = ap {B = ℕ} length c.in-Some.ensures.entries in
    record {
      answer = record {
        ranking = refl;
        tokens = refl;
        room = room;
        on =
            rw (c.note.ensures, c.in-Some.ensures.holds)
            (frame_closes im (rw c.in-Some.ensures.holds at c.requires.at) c.requires.here (room_of p.suspended) p.room c.whole_part-part.result c.whole_part-part.ensures);
      };
      room = room;
    }

pub returns-then-self : goal.returns-then-self
returns-then-self g c =
    let im = g.met.G.Grammar.implements c.args.self.now.ranking.counts.now.grammar.now in
    record {
      answer = more_stops im (rw (held_none c.args.self.now.suspended c.in_default.ensures.was_empty) at c.requires.at) c.requires.here c.if-self.true;
      room = ap {B = ℕ} length c.in_default.ensures.entries;
    }

pub returns : goal.returns
returns g c =
    let im = g.met.G.Grammar.implements c.args.self.now.ranking.counts.now.grammar.now in
    let lists = g.met.O.LengthPolicy.lists c.args.self.now.ranking.policy.now in
    record {
      answer = parse_ends im (rw (held_none c.args.self.now.suspended c.in_default.ensures.was_empty) at c.requires.at) c.requires.here lists c.if-self.false c.whole_part-part.result c.whole_part-part.ensures;
      room = ap {B = ℕ} length c.in_default.ensures.entries;
    }
