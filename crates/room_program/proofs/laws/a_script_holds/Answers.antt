use Rattle.room_program.proofs.ScriptRooms.{script_is_legal}
use Rattle.room_program.proofs.laws.a_script_holds.Goals as goal

pub returns-clause-journals : goal.returns-clause-journals
returns-clause-journals c = λ base limit lines lost. (script_is_legal c.what_is_spelled_is_made.ensures base limit lines lost).journal

pub returns-clause-holds : goal.returns-clause-holds
returns-clause-holds c = λ base limit lines lost sound. c.journals_hold.ensures base limit _ sound (script_is_legal c.what_is_spelled_is_made.ensures base limit lines lost).journal
