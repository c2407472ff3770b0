use Rattle.room_program.proofs.NoteLemmas.{none_taken_noted, reads_counted}
use Rattle.room_program.proofs.laws.calls_are_noted.Goals as goal

pub returns-clause-reads : goal.returns-clause-reads
returns-clause-reads g c = reads_counted

pub returns-clause-none_taken : goal.returns-clause-none_taken
returns-clause-none_taken g c = none_taken_noted
