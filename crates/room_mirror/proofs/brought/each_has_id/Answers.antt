use Rattle.std.proofs.Common.{subst}
use Rattle.std.proofs.lemmas.List.Elements.{All-more}
use Rattle.room_wire.specs.ReadBack.{HasId}
use Rattle.room_mirror.proofs.brought.each_has_id.Goals as goal

pub loop-row-preserved : goal.loop-row-preserved
loop-row-preserved c =
    All-more (λ r. HasId r.name) c.args.rows.now c.loop-row.row-index c.row-item.result c.loop-row-test.true c.loop-row.invariant (subst (λ r. HasId r.name) c.row-item.is c.name_has_id.ensures)
