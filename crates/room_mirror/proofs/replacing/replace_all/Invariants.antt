use Rattle.std.proofs.Common.{◌≡◌, ◌++◌}
use Rattle.room_mirror.specs.Prelude.{into_iter_items, AreInOrder, mirrored}
use Rattle.room_mirror.proofs.replacing.replace_all.Given as goal

abbrev pub invariant-loop-row : goal.invariant-loop-row
invariant-loop-row g l = record {
  all : l.yielded ++ into_iter_items l.row-iterator ≡ l.fn.told.items;
  rows : l.rows ≡ mirrored l.fn.rows l.yielded;
  order : AreInOrder l.rows;
}
