use Rattle.std.proofs.Common.{◌≡◌, ◌++◌, drop, map}
use Rattle.room_program.specs.Fronts.{front_lines}
use Rattle.room_program.proofs.fronts.front_lines.Given as goal

abbrev pub invariant-loop-room : goal.invariant-loop-room
invariant-loop-room l = l.lines.items ++ front_lines (map (λ r. r.now) (drop l.room l.rooms)) (drop l.room l.fronts) ≡ front_lines (map (λ r. r.now) l.rooms) l.fronts
