use Rattle.std.proofs.Common.{refl}
use Rattle.json_values.specs.Examples.{members_put}
use Rattle.json_values.proofs.laws.examples_are_as_worked.Goals as goal

pub returns : goal.returns
unfolding members_put
returns c = (refl, refl, refl, refl, refl)
