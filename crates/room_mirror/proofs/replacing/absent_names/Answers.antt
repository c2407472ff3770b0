use Rattle.std.proofs.Common.{◌∙◌}
use Rattle.osm_elements.specs.Maps.{is_absent}
use Rattle.room_mirror.proofs.ReplacedRows.{absent_more, absent_as_before}
use Rattle.room_mirror.proofs.replacing.absent_names.Goals.{then-is_absent+in_ok-push, else-is_absent}
use Rattle.room_mirror.proofs.replacing.absent_names.Goals as goal

pub loop-row-preserved : goal.loop-row-preserved
loop-row-preserved g c =
    let told = c.args.told.now in
    let i = c.loop-row.row-index in
    elim c.if-is_absent.branch [
      | then-is_absent+in_ok-push w ↦
          (λ k. (w.names-is k).items) ∙ w.in_ok-push.ensures.items
          ∙ absent_more (is_absent c.args.rows.now) told i c.row-item.result c.loop-row.names.items c.loop-row-test.true c.row-item.is w.if-is_absent.ensures c.loop-row.invariant
      | else-is_absent w ↦
          (λ k. (w.names-is k).items)
          ∙ absent_as_before (is_absent c.args.rows.now) told i c.row-item.result c.loop-row.names.items c.loop-row-test.true c.row-item.is w.if-is_absent.ensures c.loop-row.invariant
    ]
