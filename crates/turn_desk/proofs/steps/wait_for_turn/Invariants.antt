use Rattle.std.proofs.Common.{◌≡◌}
use Rattle.turn_desk.proofs.steps.wait_for_turn.Given as goal

-- until the seat has the turn, it knows what it knew before
abbrev pub invariant-asking : goal.invariant-asking
invariant-asking g l = (l.place.table_id ≡ l.fn.place.table_id) × (l.place.id ≡ l.fn.place.id) × (l.place.me ≡ l.fn.place.me)
