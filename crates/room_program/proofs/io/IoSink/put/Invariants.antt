use Rattle.std.proofs.Common.{◌≡◌, ◌≤◌}
use Rattle.room_program.specs.Prelude.{Keeps, calls_of, stream_of}
use Rattle.room_program.proofs.io.IoSink.put.Given as goal

-- all the calls so far were interrupted
abbrev pub invariant-loop : goal.invariant-loop
invariant-loop g l = record {
  kept : Keeps (g.W.Write.contents (stream_of l.initial.self)) (g.W.Write.contents (stream_of l.self));
  works : l.self.has_failed ≡ l.initial.self.has_failed;
  unanswered : (calls_of l.self).answered ≡ (calls_of l.initial.self).answered;
  interrupted : l.counter ≤ (calls_of l.self).interrupted;
}
