use Rattle.std.proofs.Common.{subst}
use Rattle.std.proofs.lemmas.List.Elements.{All-more}
use Rattle.room_wire.specs.ReadBack.{HasId}
use Rattle.room_mirror.proofs.brought.names_have_ids.Goals as goal

pub loop-name-preserved : goal.loop-name-preserved
loop-name-preserved c =
    All-more HasId c.args.names.now c.loop-name.name-index c.name-item.result c.loop-name-test.true c.loop-name.invariant (subst HasId c.name-item.is c.name_has_id.ensures)
