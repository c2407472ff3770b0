use Rattle.std.proofs.Common.{◌≡◌, take, fold}
use Rattle.osm_elements.specs.Maps.{rows_but}
use Rattle.osm_changes.proofs.RowsEntered.{names_entered}
use Rattle.osm_changes.proofs.apply.take_out.Given as goal

abbrev pub invariant-loop-row : goal.invariant-loop-row
invariant-loop-row g l = l.rows ≡ fold (λ n x. rows_but x n) l.fn.rows (names_entered (take l.row-index l.entered))
