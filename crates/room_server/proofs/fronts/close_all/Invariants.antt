use Rattle.std.proofs.Common.{◌≡◌, ◌++◌, length, List}
use Rattle.room_server.specs.Prelude.{into_iter_items, AreFronts, SeatView}
use Rattle.room_server.proofs.fronts.close_all.Given as goal

-- the desks so far were closed, each with its seat
abbrev pub invariant-loop-desk : goal.invariant-loop-desk
invariant-loop-desk g l = record {
  desks : l.yielded ++ into_iter_items l.desk-iterator ≡ l.fn.table.desks;
  seats : (closed : List SeatView) × (closed ++ into_iter_items l.seats ≡ l.fn.seats.items) × (length closed ≡ length l.yielded) × AreFronts l.yielded closed l.fronts.items;
}
