use Rattle.std.proofs.Common.{◌≡◌, take, filter}
use Rattle.edit_simple.specs.Prelude.{least, is_relation}
use Rattle.edit_simple.proofs.moving.least_relation.Given as goal

abbrev pub invariant-loop-name : goal.invariant-loop-name
invariant-loop-name l = l.least ≡ least (filter (λ e. is_relation e.kind) (take l.name-index l.names))
