use Rattle.std.proofs.Common.{Err}
use Rattle.std.proofs.lemmas.Result.{err_from_is_err_and}
use Rattle.numbering.specs.Calls.{unusable, stopped}
use Rattle.numbering.proofs.Calls.{number_answer, parsed}
use Rattle.numbering.proofs.number.Goals as goal

pub returns-in_err-counts : goal.returns-in_err-counts
returns-in_err-counts g c =
    let im = g.met.G.Grammar.implements c.args.g.now in
    let err = err_from_is_err_and c.from_residual.result c.from_residual.ensures.1 in
    number_answer g.G.Grammar c.args.g.now im c.from_residual.result (rw (err.1, err.2) (unusable c.in_err-counts.ensures.answer.answer))

pub returns-in_err-rank : goal.returns-in_err-rank
returns-in_err-rank g c =
    let im = g.met.G.Grammar.implements c.args.g.now in
    let err = err_from_is_err_and c.from_residual-in_err-rank.result c.from_residual-in_err-rank.ensures.1 in
    let checked = c.in_ok-counts.ensures.answer.answer in
    number_answer g.G.Grammar c.args.g.now im c.from_residual-in_err-rank.result
    (rw (err.1, err.2) (stopped _ checked.0 (parsed c.in_ok-counts.counts c.in_ok-counts.ensures.grammar _ (Err c.in_err-rank.field-0.0) c.in_err-rank.ensures)))
