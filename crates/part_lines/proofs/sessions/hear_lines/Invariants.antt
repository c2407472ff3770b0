use Rattle.part_lines.specs.Prelude.{IsRunOn, known_of}
use Rattle.part_lines.proofs.sessions.hear_lines.Given as goal

abbrev pub invariant-loop-line : goal.invariant-loop-line
invariant-loop-line g l =
    (goal.iterator-loop-line g).can_next l.line-iterator ×
    (goal.iterator-loop-line g).is_finite l.line-iterator ×
    IsRunOn l.anna (known_of l.rooms) ×
    IsRunOn l.bob (known_of l.rooms)
