use Rattle.std.proofs.Common.{Some, not, ap, ◌∙◌}
use Rattle.edit_simple.specs.Prelude.{is_absent, least_taken, least_passed}
use Rattle.edit_simple.proofs.moving.least_absent.Goals.{then-not-is_present, else-not-is_present}
use Rattle.edit_simple.proofs.moving.least_absent.Goals as goal

pub loop-name-preserved : goal.loop-name-preserved
loop-name-preserved g c =
    let p = is_absent c.args.rows.now in
    elim c.if-not-is_present.branch [
      | then-not-is_present w ↦ w.least-is ∙ ap Some w.lesser.ensures ∙ least_taken p c.args.names.now c.loop-name.name-index c.name-item.result c.loop-name-test.true c.name-item.is c.loop-name.least c.loop-name.invariant (ap not w.if-not-is_present.ensures)
      | else-not-is_present w ↦ w.least-is ∙ least_passed p c.args.names.now c.loop-name.name-index c.name-item.result c.loop-name-test.true c.name-item.is c.loop-name.least c.loop-name.invariant (ap not w.if-not-is_present.ensures)
    ]
