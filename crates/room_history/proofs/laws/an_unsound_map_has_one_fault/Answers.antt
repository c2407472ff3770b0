use Rattle.edit_simple.specs.Facts.Soundness.{one_fault, unsound_map}
use Rattle.room_history.proofs.laws.an_unsound_map_has_one_fault.Goals as goal

pub returns-clause-unsound : goal.returns-clause-unsound
returns-clause-unsound g c = unsound_map

pub returns-clause-one : goal.returns-clause-one
returns-clause-one g c = one_fault
