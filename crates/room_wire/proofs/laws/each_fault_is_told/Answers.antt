use Rattle.room_wire.proofs.FaultProofs.{bad_action_field_told, bad_field_told, unknown_action_told, bad_id_told, message_told, no_json_told, no_object_told, unknown_do_told}
use Rattle.room_wire.proofs.laws.each_fault_is_told.Goals as goal

pub returns-clause-not_json : goal.returns-clause-not_json
returns-clause-not_json c = no_json_told

pub returns-clause-not_object : goal.returns-clause-not_object
returns-clause-not_object c = λ text d tree. no_object_told text d tree

pub returns-clause-bad_id : goal.returns-clause-bad_id
returns-clause-bad_id c = bad_id_told

pub returns-clause-unknown_do : goal.returns-clause-unknown_do
returns-clause-unknown_do c = unknown_do_told

pub returns-clause-bad_field : goal.returns-clause-bad_field
returns-clause-bad_field c = λ text d id word field tree has asks. bad_field_told text d tree id word field has asks

pub returns-clause-unknown_action : goal.returns-clause-unknown_action
returns-clause-unknown_action c = λ text d id word k tree has asks. unknown_action_told text d tree id word k has asks

pub returns-clause-bad_action_field : goal.returns-clause-bad_action_field
returns-clause-bad_action_field c = λ text d id word k field tree has asks. bad_action_field_told text d tree id word k field has asks

pub returns-clause-well_formed : goal.returns-clause-well_formed
returns-clause-well_formed c = λ text d id word tree has asks. message_told text d tree id word has asks
