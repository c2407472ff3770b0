use Rattle.std.proofs.Common.{◌≡◌, ◌++◌, take, map}
use Rattle.edit_groups.proofs.step.push_names.Given as goal

abbrev pub invariant-loop-change : goal.invariant-loop-change
invariant-loop-change g l = l.names.items ≡ l.fn.names.items ++ map (λ c. c.name) (take l.change-index l.changes)
