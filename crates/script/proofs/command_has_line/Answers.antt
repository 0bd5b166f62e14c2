use Rattle.script.proofs.Writing.{every_command}
use Rattle.script.proofs.command_has_line.Goals as goal

pub returns : goal.returns
returns c = every_command
