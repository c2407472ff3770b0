use Rattle.std.proofs.Common.{ap, ◌∙◌}
use Rattle.edit_simple.specs.Prelude.{row_at, one_fits}
use Rattle.edit_simple.proofs.row_change.change_rows.Goals as goal

pub push_row-requires : goal.push_row-requires
push_row-requires g c =
    let m = c.args.rows.now in
    one_fits m (λ x. g.C.RowChange.becomes c.args.change.now x (row_at m x)) c.args.names.now c.loop-name.name-index c.name-item.result c.loop-name-test.true c.name-item.is
    c.requires c.loop-name.changes c.in_ok-copy_of.field-0 c.in_ok-after.after c.loop-name.invariant (c.in_ok-copy_of.ensures ∙ c.get-row.ensures)
    (c.in_ok-after.ensures ∙ ap (g.C.RowChange.becomes c.args.change.now c.name-item.result) c.get-row.ensures)
