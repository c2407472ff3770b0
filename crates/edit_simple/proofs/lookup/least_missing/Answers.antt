use Rattle.std.proofs.Common.{Some, ap, ◌∙◌}
use Rattle.edit_simple.specs.Prelude.{is_missing, least_taken, least_passed}
use Rattle.edit_simple.proofs.lookup.least_missing.Goals.{then-is_missing, else-is_missing}
use Rattle.edit_simple.proofs.lookup.least_missing.Goals as goal

pub loop-name-preserved : goal.loop-name-preserved
loop-name-preserved g c =
    let p = is_missing (g.R.Lookup.rows c.args.rows.now) c.args.new.now in
    elim c.if-is_missing.branch [
      | then-is_missing w ↦ w.least-is ∙ ap Some w.lesser.ensures ∙ least_taken p c.args.names.now c.loop-name.name-index c.name-item.result c.loop-name-test.true c.name-item.is c.loop-name.least c.loop-name.invariant w.if-is_missing.ensures
      | else-is_missing w ↦ w.least-is ∙ least_passed p c.args.names.now c.loop-name.name-index c.name-item.result c.loop-name-test.true c.name-item.is c.loop-name.least c.loop-name.invariant w.if-is_missing.ensures
    ]
