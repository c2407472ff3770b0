use Rattle.std.proofs.Common.{◌≡◌, map, ◌++◌}
use Rattle.osm_elements.specs.RowPairs.{row_pair}
use Rattle.osm_elements.proofs.map.OsmMap.rows.Given as goal

abbrev pub invariant-loop-name : goal.invariant-loop-name
invariant-loop-name g l = map row_pair l.rows.items ++ l.name-iterator ≡ l.self
