use Rattle.std.proofs.Common.{refl}
use Rattle.restriction.proofs.Bits.{keeps_all}
use Rattle.restriction.proofs.all_slots.Goals as goal

pub returns : goal.returns
returns c = record { value = refl; keeps = keeps_all }
