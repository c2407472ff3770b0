use Rattle.std.proofs.Common.{subst}
use Rattle.std.proofs.lemmas.List.Elements.{All-more}
use Rattle.room_mirror.specs.Clients.{HasIds}
use Rattle.room_mirror.proofs.brought.actions_have_ids.Goals as goal

pub loop-action-preserved : goal.loop-action-preserved
loop-action-preserved c =
    All-more HasIds c.args.actions.now c.loop-action.action-index c.action-item.result c.loop-action-test.true c.loop-action.invariant (subst HasIds c.action-item.is c.action_has_ids.ensures)
