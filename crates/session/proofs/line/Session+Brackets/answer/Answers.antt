use Rattle.std.proofs.Common.{rules}
use Rattle.session.specs.Lines as lines
use Rattle.session.proofs.line.Session+Brackets.answer.Goals as goal

pub returns-in-Blank-clause-answer : goal.returns-in-Blank-clause-answer
returns-in-Blank-clause-answer c = search (rules, lines.blank, c.in-Blank.ensures, c.without_line_end.ensures)

pub returns-in-Unreadable-clause-answer : goal.returns-in-Unreadable-clause-answer
returns-in-Unreadable-clause-answer c = search (rules, lines.unreadable, c.in-Unreadable.ensures, c.without_line_end.ensures)

pub returns-in_ok-run-in-Command-clause-answer : goal.returns-in_ok-run-in-Command-clause-answer
returns-in_ok-run-in-Command-clause-answer c = lines.runs _ c.in-Command.command _ c.without_line_end.ensures c.in-Command.ensures c.in_ok-run-in-Command.ensures.answer
