-- Each holds by evaluation.
use Rattle.std.proofs.Common.{refl}
use Rattle.room_stacks.specs.Examples.{ids_spent, entries_active, redos_stacked}
use Rattle.room_stacks.proofs.laws.examples_are_as_worked.Goals as goal

pub returns-clause-ids_spent : goal.returns-clause-ids_spent
unfolding ids_spent
returns-clause-ids_spent c = (refl, refl, refl, refl, refl, refl, refl, refl)

pub returns-clause-entries_active : goal.returns-clause-entries_active
unfolding entries_active
returns-clause-entries_active c = (refl, refl, refl, refl, refl, refl, refl, refl)

pub returns-clause-redos_stacked : goal.returns-clause-redos_stacked
unfolding redos_stacked
returns-clause-redos_stacked c = (refl, refl, refl, refl, refl, refl, refl, refl, refl)
