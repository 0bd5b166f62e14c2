use Rattle.table.proofs.Stays.{length_done}
use Rattle.table.proofs.filling.Filling.fill_all.Goals as goal

pub returns-clause-done : goal.returns-clause-done
returns-clause-done g c =
    let got = c.in_ok-fill_nonterminals.ensures in
    let end = c.fill_rests.ensures in
    length_done c.fill_rests.result got.stays end.stays got.done end.done
