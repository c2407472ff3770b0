use Rattle.std.proofs.Common.{◌≡◌, map, take}
use Rattle.osm_changes.specs.declared.change.Change.{Change}
use Rattle.osm_changes.proofs.rows.changed_names.Given as goal

abbrev pub invariant-loop-change : goal.invariant-loop-change
invariant-loop-change g l = l.names.items ≡ map (λ (c : Change _). c.name) (take l.change-index l.changes)
