use Rattle.std.proofs.Common.{◌≡◌, ℕ, ◌<◌, drop, length, None, Some, ap, ◌∙◌, refl, rules, arith, length-set}
use lib.ListN.{length-map}
use Rattle.std.proofs.lemmas.Result.{err_from_is_err_and}
use Rattle.theory.specs.Sets.{next_of}
use Rattle.stack.proofs.Tops.{held_length}
use Rattle.numbering.specs.Frames.{suspended_frames, room_of, suspended_place}
use Rattle.numbering.specs.declared.parsing.Stopped.{Stopped}
use Rattle.numbering.proofs.Frames.{one_more_fits, no_choice_stops, frame_opens}
use Rattle.numbering.proofs.parsing.Parse.open.Goals as goal

pub returns-in_err-slot : goal.returns-in_err-slot
returns-in_err-slot g c =
    let p = c.args.self.now in
    let im = g.met.G.Grammar.implements p.ranking.counts.now.grammar.now in
    let none = c.in_err-slot.ensures.ok_part in
    let stopped : Stopped = record { gone = p.gone } in
    let same : c.in_err-slot.field-0.0 ≡ stopped = let e = rw none at c.in_err-slot.ensures.value in cc in
    let err = err_from_is_err_and c.from_residual.result c.from_residual.ensures.1 in
    let chosen : g.G.Grammar.chosen p.ranking.counts.now.grammar.now c.args.a (next_of (drop p.gone p.tokens.now)) ≡ None = rw (← c.lookahead.ensures, ← c.choice.ensures) none in
    rw (err.1, err.2, same) (record { goes = no_choice_stops im c.requires.at c.requires.here chosen; opens = chosen; room = refl })

pub unwrap-requires : goal.unwrap-requires
unwrap-requires g c =
    let p = c.args.self.now in
    let im = g.met.G.Grammar.implements p.ranking.counts.now.grammar.now in
    let l : p.suspended.depth < room_of p.suspended =
    omega (
      arith,
      one_more_fits im c.requires.at c.requires.here (room_of p.suspended) p.room,
      length-map (suspended_frames p.suspended) suspended_place,
      held_length p.suspended,
    ) in
    search rules

pub returns : goal.returns
returns g c =
    let p = c.args.self.now in
    let im = g.met.G.Grammar.implements p.ranking.counts.now.grammar.now in
    let put = rw c.unwrap.ensures at c.push.ensures in
    let chosen : g.G.Grammar.chosen p.ranking.counts.now.grammar.now c.args.a (next_of (drop p.gone p.tokens.now)) ≡ Some c.in_ok-slot.slot =
    rw (← c.lookahead.ensures, ← c.choice.ensures) c.in_ok-slot.ensures.ok_part in
    let room = ap {B = ℕ} length put.entries ∙ length-set _ _ _ in
    record {
      goes = record {
        ranking = refl;
        tokens = refl;
        room = room;
        on = rw (c.begin.ensures, put.holds) (frame_opens im c.requires.at c.requires.here (room_of p.suspended) p.room c.in_ok-slot.slot chosen);
      };
      opens = (c.in_ok-slot.slot, chosen, c.begin.ensures, put.holds, refl);
      room = room;
    }
