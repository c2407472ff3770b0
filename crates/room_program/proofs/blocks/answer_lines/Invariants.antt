use Rattle.std.proofs.Common.{◌≡◌, ◌≤◌, ◌<◌, ◌⊎◌, ◌++◌, [], length}
use Rattle.room_program.specs.Prelude.{IsLine, AnswersFront}
use Rattle.room_program.proofs.blocks.answer_lines.Given as goal

abbrev pub invariant-loop-alloc : goal.invariant-loop-alloc
invariant-loop-alloc g l = record {
  front : AnswersFront g.A.Answerer.answered l.initial.answers (l.initial.begun.items ++ l.block) l.replies (l.begun.items ++ l.rest) l.answers;
  held : IsLine l.begun.items;
  within : length l.rest ≤ length l.block;
  less : (l.replies ≡ []) ⊎ (length l.rest < length l.block);
}

abbrev pub decreases-loop-alloc : goal.decreases-loop-alloc
decreases-loop-alloc g l = length l.rest
