use Rattle.room_program.proofs.AskedLemmas.{limit_number, sessions_number, workers_number}
use Rattle.room_program.proofs.laws.limits_are_in_range.Goals as goal

pub returns-clause-told : goal.returns-clause-told
returns-clause-told c = λ words taken. (limit_number words taken).told

pub returns-clause-small : goal.returns-clause-small
returns-clause-small c = λ words taken. (limit_number words taken).most_is

pub returns-clause-workers : goal.returns-clause-workers
returns-clause-workers c = λ words taken serve. ((workers_number words taken serve).least_is, (workers_number words taken serve).most_is)

pub returns-clause-sessions : goal.returns-clause-sessions
returns-clause-sessions c = λ words taken serve. (sessions_number words taken serve).range
