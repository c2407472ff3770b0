use Rattle.std.proofs.Common.{◌≡◌, take}
use Rattle.edit_groups.proofs.Turns.{IsAfter}
use Rattle.edit_groups.proofs.plan.plan_group.Given as goal

abbrev pub invariant-loop-action : goal.invariant-loop-action
invariant-loop-action g l = record {
  after : IsAfter l.store.rows (take l.action-index l.group) l.draft l.names.items l.touches.items;
  at : l.position ≡ l.action-index;
}
