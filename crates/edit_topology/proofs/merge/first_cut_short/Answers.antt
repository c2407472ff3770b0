use Rattle.edit_topology.specs.Prelude.{Name, row_at}
use Rattle.edit_topology.specs.Inner.Merging.{is_cut_short}
use Rattle.edit_topology.proofs.MergeLists.{found_here, none_yet}
use Rattle.edit_topology.proofs.merge.first_cut_short.Goals as goal

pub returns-then-is_cut_short : goal.returns-then-is_cut_short
returns-then-is_cut_short g c =
    found_here (λ (u : Name). is_cut_short c.args.name.now c.args.other.now (row_at c.args.rows.now u)) c.args.its_users.now c.loop-user.user-index c.user-item.result
    c.loop-user-test.true c.user-item.is c.loop-user.invariant c.if-is_cut_short.ensures

pub loop-user-preserved : goal.loop-user-preserved
loop-user-preserved g c =
    none_yet (λ (u : Name). is_cut_short c.args.name.now c.args.other.now (row_at c.args.rows.now u)) c.args.its_users.now c.loop-user.user-index c.user-item.result
    c.loop-user-test.true c.user-item.is c.loop-user.invariant c.if-is_cut_short.ensures
