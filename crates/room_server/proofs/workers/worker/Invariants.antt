use Rattle.std.proofs.Common.{◌≡◌, ℕ, map}
use Rattle.room_server.specs.Prelude.{KeepsKnown, kept_of, known_of, known_through, mark, rule_of, ServesEach}
use Rattle.room_server.proofs.workers.worker.Given as goal

-- the rooms are those of the table, through the seats that the worker was lent, after the sessions so far
abbrev pub invariant-loop : goal.invariant-loop
invariant-loop g l =
    (kept_of l.rooms ≡ (l.table, map mark l.fn.seats.items))
    × KeepsKnown (known_through l.table l.fn.seats.items) (known_of l.rooms)
    × ((sessions : ℕ) × ServesEach (rule_of l.admission) l.turns sessions (known_through l.table l.fn.seats.items) (known_of l.rooms))
