use Rattle.std.proofs.Common.{Ok, Err, OnErr, ◌≡◌, refl, rules, arith}
use Rattle.std.proofs.lemmas.Result.{IfOk-weaker}
use Rattle.session.specs.Runs as runs
use Rattle.session.proofs.Kept.{asked, asked_in, same_cells, same_memory}
use Rattle.session.proofs.run.Session+Brackets.run.Goals as goal

pub returns-in-Choice-clause-answer : goal.returns-in-Choice-clause-answer
returns-in-Choice-clause-answer c = rw (c.in-Choice.is, c.into-in-Choice.ensures, c.choice.ensures) (asked _ _ (runs.choice _ _ refl))

pub returns-in-Level-clause-answer : goal.returns-in-Level-clause-answer
returns-in-Level-clause-answer c = rw (c.in-Level.is, c.level.ensures) (asked _ _ (runs.level_of _ refl))

pub returns-in-Start-clause-answer : goal.returns-in-Start-clause-answer
returns-in-Start-clause-answer c = search (rules, runs.start, same_memory)

pub returns-in-Brackets-clause-answer : goal.returns-in-Brackets-clause-answer
returns-in-Brackets-clause-answer c = search (rules, runs.brackets, same_memory)

pub returns-in-Count-clause-answer : goal.returns-in-Count-clause-answer
returns-in-Count-clause-answer c = search (rules, asked_in, runs.count)

pub returns-in-Check-clause-answer : goal.returns-in-Check-clause-answer
returns-in-Check-clause-answer c = search (rules, asked_in, runs.check)

pub returns-in-Cell-clause-answer : goal.returns-in-Cell-clause-answer
returns-in-Cell-clause-answer c = search (rules, asked, runs.cell)

pub returns-in-Flip-clause-answer : goal.returns-in-Flip-clause-answer
returns-in-Flip-clause-answer c = search (rules, asked, runs.flip)

pub returns-in-Poke-clause-answer : goal.returns-in-Poke-clause-answer
returns-in-Poke-clause-answer c = search (rules, asked, runs.poke)

pub returns-in-Table-clause-answer : goal.returns-in-Table-clause-answer
returns-in-Table-clause-answer c =
    let h = c.show_table.ensures in
    rw c.in-Table.is (IfOk-weaker _ _ _ (λ a t. asked_in c.args.self.now c.as_mut_slice-in-Table.ensures.value (omega arith) (runs.table a t h.cells)) h.answer)

pub returns-in-Table-clause-out_of_memory : goal.returns-in-Table-clause-out_of_memory
returns-in-Table-clause-out_of_memory c =
    let same = same_cells c.args.self.now.cells c.show_table.new.cells (cc) in
    rw same (elim c.show_table.result as (λ r. OnErr r (c.args.self.now ≡ c.args.self.now)) [ Ok _ ↦ tt | Err _ ↦ refl ])
