use Rattle.std.proofs.Common.{◌≡◌, ◌++◌, length}
use Rattle.room_server.specs.Prelude.{into_iter_items, AreSplit}
use Rattle.room_server.proofs.Splitting.{AtFirst}
use Rattle.room_server.proofs.seats.split_all.Given as goal

-- the seats so far were split
abbrev pub invariant-loop-seat : goal.invariant-loop-seat
invariant-loop-seat l = record {
  whole : l.yielded ++ into_iter_items l.seat-iterator ≡ l.fn.seats.items;
  count : l.room ≡ length l.yielded;
  kept : AtFirst l.table l.room l.kept.items;
  new : AtFirst l.table l.room l.new.items;
  split : AreSplit l.yielded l.kept.items l.new.items;
}
