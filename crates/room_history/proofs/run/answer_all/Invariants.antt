use Rattle.std.proofs.Common.{◌≡◌, ◌++◌}
use Rattle.room_history.specs.Prelude.{into_iter_items, IsRun}
use Rattle.room_history.proofs.run.answer_all.Given as goal

abbrev pub invariant-loop-call : goal.invariant-loop-call
invariant-loop-call g l = record {
  all : l.yielded ++ into_iter_items l.call-iterator ≡ l.fn.calls.items;
  base : l.room.base ≡ l.fn.room.base;
  limit : l.room.limit ≡ l.fn.room.limit;
  run : IsRun l.fn.room.base l.fn.room.limit l.fn.room.journal l.yielded l.replies.items l.room.journal;
}
