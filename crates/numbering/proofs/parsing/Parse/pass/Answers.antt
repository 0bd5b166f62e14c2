use Rattle.std.proofs.Common.{refl, sym, ◌∙◌}
use Rattle.numbering.specs.Frames.{room_of}
use Rattle.numbering.proofs.Frames.{is_next, not_next, position_low, other_stops, token_goes}
use Rattle.numbering.proofs.parsing.Parse.pass.Goals as goal

pub returns-then-ne : goal.returns-then-ne
returns-then-ne g c =
    let im = g.met.G.Grammar.implements c.args.self.now.ranking.counts.now.grammar.now in
    record {
      goes = other_stops im c.requires.at c.requires.here (λ h. not_next c.lookahead.result c.args.t c.if-ne.ensures (c.lookahead.ensures ∙ h));
      room = refl;
    }

pub note-requires : goal.note-requires
note-requires g c =
    let im = g.met.G.Grammar.implements c.args.self.now.ranking.counts.now.grammar.now in
    position_low im c.requires.at c.requires.here

pub returns : goal.returns
returns g c =
    let im = g.met.G.Grammar.implements c.args.self.now.ranking.counts.now.grammar.now in
    record {
      goes = record {
        ranking = refl;
        tokens = refl;
        room = refl;
        on =
            rw c.note.ensures
            (token_goes im c.requires.at c.requires.here (room_of c.args.self.now.suspended) (sym c.lookahead.ensures ∙ is_next c.lookahead.result c.args.t c.if-ne.ensures));
      };
      room = refl;
    }
