use Rattle.grammar.proofs.Derived.{ll1_of}
use Rattle.table.proofs.RowCells.{sound_cells}
use Rattle.table.proofs.checked_counts.Goals as goal

pub invariant_of-result : goal.invariant_of-result
invariant_of-result g c =
    let G = g.G.Grammar.meaning c.args.g.now in
    let f = g.met.G.Grammar.implements c.args.g.now in
    let u = c.in_ok-counts.ensures.answer.0 in
    let of = c.in_ok-counts.ensures.answer.1 in
    record {
      laid = of.rows;
      sound = sound_cells (ll1_of f) (rw (of.bound, of.read) u.sufficient.room) (rw (of.bound, of.read) u.sound) of.offsets;
    }
