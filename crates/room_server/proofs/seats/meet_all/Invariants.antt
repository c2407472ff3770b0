use Rattle.std.proofs.Common.{◌≡◌, ◌++◌, length}
use Rattle.room_server.specs.Prelude.{into_iter_items, AreAt}
use Rattle.room_server.proofs.Meeting.{MetSoFar}
use Rattle.room_server.proofs.seats.meet_all.Given as goal

-- the first of the seats met the others
abbrev pub invariant-loop-other : goal.invariant-loop-other
invariant-loop-other l = record {
  whole : l.yielded ++ into_iter_items l.other-iterator ≡ l.fn.others.items;
  count : l.room ≡ length l.yielded;
  at : AreAt l.table l.seats.items;
  met : MetSoFar l.table l.fn.seats.items l.yielded l.seats.items;
}
