use Rattle.std.proofs.Common.{◌≡◌, take}
use Rattle.edit_groups.specs.Prelude.{row_at, rows_changes}
use Rattle.edit_groups.proofs.differing.changes_at.Given as goal

abbrev pub invariant-loop-name : goal.invariant-loop-name
invariant-loop-name g l = l.changes ≡ rows_changes (g.M.Lookup.rows l.before) (row_at (g.N.Lookup.rows l.after)) (take l.name-index l.names)
