use Rattle.script.proofs.Saying.{one_command, one_reading}
use Rattle.script.proofs.line_says_one.Goals as goal

pub returns : goal.returns
returns c = record { command = one_command; reading = one_reading }
