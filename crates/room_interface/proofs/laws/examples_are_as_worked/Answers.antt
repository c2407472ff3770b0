-- It holds by evaluation.
use Rattle.std.proofs.Common.{refl}
use Rattle.room_interface.specs.Examples.{authors_read}
use Rattle.room_interface.proofs.laws.examples_are_as_worked.Goals as goal

pub returns : goal.returns
unfolding authors_read
returns c = (refl, refl, refl, refl, refl, refl)
