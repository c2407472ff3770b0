use Rattle.std.proofs.Common.{BTreeSet, ap, ◌∙◌}
use Rattle.edit_simple.specs.Prelude.{Name, name_cmp_is}
use Rattle.edit_simple.proofs.PurgeLoops.{gone_more, gone_still}
use Rattle.edit_simple.proofs.purge.all_gone.Goals.{then-falls_short+in_ok-insert-2, else-falls_short}
use Rattle.edit_simple.proofs.purge.all_gone.Goals as goal

pub loop-user-preserved : goal.loop-user-preserved
loop-user-preserved g c =
    let m = c.args.rows.now in
    let x = c.args.purged.now in
    let users = c.args.its_users.now in
    elim c.if-falls_short.branch [
      | then-falls_short+in_ok-insert-2 w ↦
          gone_more m x users c.loop-user.user-index c.user-item.result c.loop-user-test.true c.user-item.is _ name_cmp_is c.loop-user.gone.keys c.if-falls_short.gone.keys c.loop-user.invariant
          (ap (λ (s : BTreeSet Name). s.keys) w.gone-is ∙ w.in_ok-insert-2.ensures.keys) w.if-falls_short.ensures
      | else-falls_short w ↦
          ap (λ (s : BTreeSet Name). s.keys) w.gone-is ∙ gone_still m x users c.loop-user.user-index c.user-item.result c.loop-user-test.true c.user-item.is c.loop-user.gone.keys c.loop-user.invariant w.if-falls_short.ensures
    ]
