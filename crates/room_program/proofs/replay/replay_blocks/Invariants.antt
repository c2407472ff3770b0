use Rattle.std.proofs.Common.{◌≡◌, false}
use Rattle.room_program.specs.Prelude.{IsLine, Gets, with_bytes}
use Rattle.room_program.proofs.ProgressLemmas.{Progress}
use Rattle.room_program.proofs.replay.replay_blocks.Given as goal

abbrev pub invariant-loop : goal.invariant-loop
invariant-loop g l = record {
  progress : Progress g.A.Answerer.answered l.fn.answers l.answers (with_bytes l.fn.held (g.S.Source.left l.fn.reader)) (g.S.Source.left l.reader) (g.W.Sink.taken l.fn.writer) (g.W.Sink.taken l.writer) l.begun.items;
  held : IsLine l.begun.items;
  reader_works : g.S.Source.has_failed l.reader ≡ false;
  writer_works : g.W.Sink.has_failed l.writer ≡ false;
  gets : Gets g.S.Source.gets l.counter l.fn.reader l.reader;
}
