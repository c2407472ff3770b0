use Rattle.std.proofs.Common.{◌≡◌, take}
use Rattle.edit_simple.specs.Prelude.{row_at, rows_changes}
use Rattle.edit_simple.proofs.row_change.change_rows.Given as goal

abbrev pub invariant-loop-name : goal.invariant-loop-name
invariant-loop-name g l = l.changes ≡ rows_changes l.rows (λ x. g.C.RowChange.becomes l.change x (row_at l.rows x)) (take l.name-index l.names)
