use Rattle.edit_footprint.specs.Facts.Holding.{HoldsOnly-standing, fallen_again}
use Rattle.edit_footprint.proofs.laws.a_fall_restores.Goals as goal

pub returns-clause-only : goal.returns-clause-only
returns-clause-only c = HoldsOnly-standing

pub returns-clause-restored : goal.returns-clause-restored
returns-clause-restored c = fallen_again
