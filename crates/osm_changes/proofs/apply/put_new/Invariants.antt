use Rattle.std.proofs.Common.{◌≡◌, take, drop, fold}
use Rattle.osm_changes.specs.Inner.Applying.{with_entered}
use Rattle.osm_changes.proofs.RowsEntered.{names_entered}
use Rattle.osm_changes.proofs.apply.put_new.Given as goal

abbrev pub invariant-loop-place : goal.invariant-loop-place
invariant-loop-place g l = record {
  rows_are : l.rows ≡ fold with_entered l.fn.rows (take l.place l.fn.new.items);
  waiting : drop l.place l.new.items ≡ drop l.place l.fn.new.items;
  names : names_entered l.new.items ≡ names_entered l.fn.new.items;
}
