use Rattle.std.proofs.Common.{◌≡◌, map, not, take, filter}
use Rattle.osm_changes.specs.Inner.Applying.{after_of, begins}
use Rattle.osm_changes.specs.Inner.References.{row_reference_change}
use Rattle.osm_changes.proofs.division.divide.Given as goal

abbrev pub invariant-loop-row : goal.invariant-loop-row
invariant-loop-row g l = record {
  new_are : l.new.items ≡ map after_of (filter begins (take l.row-index l.rows));
  others_are : l.others.items ≡ map after_of (filter (λ r. not (begins r)) (take l.row-index l.rows));
  changes_are : l.changes.items ≡ map row_reference_change (take l.row-index l.rows);
}
