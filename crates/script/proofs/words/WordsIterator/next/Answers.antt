use Rattle.std.proofs.Common.{sym, ap, ◌∙◌, length, arith}
use Rattle.script.proofs.Cutting.{next_word, last_word}
use Rattle.script.proofs.words.WordsIterator.next.Goals as goal

pub returns-in_default-clause-steps : goal.returns-in_default-clause-steps
returns-in_default-clause-steps c = last_word c.args.self.now.rest c.take.new.self c.in_ok-text.text (sym c.take.ensures.value ∙ c.in_ok-text.was) c.take.ensures.after (sym c.first_space.ensures ∙ c.in_default.is)

pub returns-in_default-clause-goes : goal.returns-in_default-clause-goes
returns-in_default-clause-goes c = let h = returns-in_default-clause-steps c in record { on = λ f. (tt, tt, omega (arith, ap length h)); keeps = tt; rests = λ f. tt }

pub returns-clause-steps : goal.returns-clause-steps
returns-clause-steps c = next_word c.args.self.now.rest c.in_ok-text.text c.in-Some.space (sym c.take.ensures.value ∙ c.in_ok-text.was) (sym c.first_space.ensures ∙ c.in-Some.is)

pub returns-clause-goes : goal.returns-clause-goes
returns-clause-goes c = let h = returns-clause-steps c in record { on = λ f. (tt, tt, omega (arith, ap length h)); keeps = tt; rests = λ f. tt }
