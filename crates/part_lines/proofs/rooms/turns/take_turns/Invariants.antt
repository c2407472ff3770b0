use Rattle.turn_desk.specs.Desk.{IsAt}
use Rattle.part_lines.proofs.rooms.turns.take_turns.Given as goal

-- the seat is at the desk
abbrev pub invariant-loop-turn : goal.invariant-loop-turn
invariant-loop-turn g l = IsAt l.desk l.seat
