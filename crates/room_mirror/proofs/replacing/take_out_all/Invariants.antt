use Rattle.std.proofs.Common.{◌≡◌, take, fold}
use Rattle.osm_elements.specs.Rows.{without_row}
use Rattle.room_mirror.proofs.replacing.take_out_all.Given as goal

abbrev pub invariant-loop-name : goal.invariant-loop-name
invariant-loop-name g l = l.rows ≡ fold without_row l.fn.rows (take l.name-index l.names)
