use Rattle.std.proofs.Common.{◌≡◌, map, drop}
use Rattle.edit_topology.specs.Prelude.{tag_pair, conflict}
use Rattle.edit_topology.proofs.both_tags.conflict.Given as goal

abbrev pub invariant-loop-tag : goal.invariant-loop-tag
invariant-loop-tag g l = conflict l.tags l.others ≡ conflict (map tag_pair (drop l.tag-index l.tag-items)) l.others
