use Rattle.room_interface.specs.Facts.MadeCalls.{are_made_next}
use Rattle.room_interface.proofs.edit.all_keep_values.Goals as goal

pub loop-action-preserved : goal.loop-action-preserved
loop-action-preserved g c =
    are_made_next c.args.actions.now c.loop-action.action-index c.action-item.result c.loop-action-test.true c.action-item.is c.loop-action.invariant c.keeps_values.ensures
