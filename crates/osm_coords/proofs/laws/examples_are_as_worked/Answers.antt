-- Each holds by evaluation.
use Rattle.std.proofs.Common.{refl}
use Rattle.osm_coords.specs.Examples.{texts_read, texts_refused, ranges_kept, texts_written}
use Rattle.osm_coords.proofs.laws.examples_are_as_worked.Goals as goal

pub returns-clause-texts_read : goal.returns-clause-texts_read
unfolding texts_read
returns-clause-texts_read c = (refl, refl, refl, refl, refl, refl, refl, refl, refl, refl)

pub returns-clause-texts_refused : goal.returns-clause-texts_refused
unfolding texts_refused
returns-clause-texts_refused c = (refl, refl, refl, refl, refl, refl, refl, refl, refl, refl, refl, refl, refl, refl)

pub returns-clause-ranges_kept : goal.returns-clause-ranges_kept
unfolding ranges_kept
returns-clause-ranges_kept c = (refl, refl, refl, refl, refl, refl, refl, refl, refl, refl, refl, refl)

pub returns-clause-texts_written : goal.returns-clause-texts_written
unfolding texts_written
returns-clause-texts_written c = (refl, refl, refl, refl, refl, refl)
