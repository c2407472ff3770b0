use Rattle.std.proofs.Common.{◌≡◌, ◌++◌, [], map}
use Rattle.osm_elements.specs.Prelude.{into_iter_items, row_pair, put_all}
use Rattle.osm_elements.proofs.map.OsmMap.from_rows.Given as goal

abbrev pub invariant-loop-row : goal.invariant-loop-row
invariant-loop-row g l = record {
  all : map row_pair (l.yielded ++ into_iter_items l.row-iterator) ≡ l.fn.rows;
  map_is : l.map ≡ put_all [] (map row_pair l.yielded);
}
