use Rattle.std.proofs.Common.{Some, ap, ◌∙◌}
use Rattle.edit_simple.specs.Prelude.{Name, is_relation, least_taken, least_passed}
use Rattle.edit_simple.proofs.moving.least_relation.Goals.{then-is_relation, else-is_relation}
use Rattle.edit_simple.proofs.moving.least_relation.Goals as goal

pub loop-name-preserved : goal.loop-name-preserved
loop-name-preserved c =
    let p = λ (e : Name). is_relation e.kind in
    elim c.if-is_relation.branch [
      | then-is_relation w ↦ w.least-is ∙ ap Some w.lesser.ensures ∙ least_taken p c.args.names.now c.loop-name.name-index c.name-item.result c.loop-name-test.true c.name-item.is c.loop-name.least c.loop-name.invariant w.if-is_relation.ensures
      | else-is_relation w ↦ w.least-is ∙ least_passed p c.args.names.now c.loop-name.name-index c.name-item.result c.loop-name-test.true c.name-item.is c.loop-name.least c.loop-name.invariant w.if-is_relation.ensures
    ]
