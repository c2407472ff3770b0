use Rattle.std.proofs.Common.{◌+◌, ◌*◌}
use Rattle.desk_tests.proofs.seats.+fn-in_threads-join+arg3+in_threads.Given as goal

-- the number of remaining threads; each takes two calls, its own and the closure's
abbrev pub decreases-join+arg3 : goal.decreases-join+arg3
decreases-join+arg3 g l = 2 * l.fewer + 1

abbrev pub decreases-in_threads : goal.decreases-in_threads
decreases-in_threads g l = 2 * l.others
