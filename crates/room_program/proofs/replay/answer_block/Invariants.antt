use Rattle.std.proofs.Common.{◌≡◌, ◌++◌, [], false, length}
use Rattle.room_program.specs.Lines.{IsLine}
use Rattle.room_program.proofs.BlockLemmas.{Written}
use Rattle.room_program.proofs.replay.answer_block.Given as goal

abbrev pub invariant-loop-rest : goal.invariant-loop-rest
invariant-loop-rest g l = record {
  written : Written g.A.Answerer.answered l.initial.answers l.answers (l.initial.begun.items ++ l.block) (l.begun.items ++ l.rest) (g.W.Sink.taken l.initial.writer) (g.W.Sink.taken l.writer);
  held : IsLine l.begun.items;
  works : g.W.Sink.has_failed l.writer ≡ false;
  empty : l.replies ≡ [];
}

abbrev pub decreases-loop-rest : goal.decreases-loop-rest
decreases-loop-rest g l = length l.rest
