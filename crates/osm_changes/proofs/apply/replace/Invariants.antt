use Rattle.std.proofs.Common.{◌≡◌, ◌++◌, fold}
use Rattle.std.specs.Vec.Iter.{into_iter_items}
use Rattle.osm_changes.specs.Inner.Applying.{with_entered}
use Rattle.osm_changes.proofs.apply.replace.Given as goal

abbrev pub invariant-loop-row : goal.invariant-loop-row
invariant-loop-row g l = record {
  all : l.yielded ++ into_iter_items l.row-iterator ≡ l.fn.entered.items;
  rows_are : l.rows ≡ fold with_entered l.fn.rows l.yielded;
}
