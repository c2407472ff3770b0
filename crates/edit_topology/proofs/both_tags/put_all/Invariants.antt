use Rattle.std.proofs.Common.{◌≡◌, map, take}
use Rattle.edit_topology.specs.Prelude.{tag_pair, both_tags}
use Rattle.edit_topology.proofs.both_tags.put_all.Given as goal

abbrev pub invariant-loop-tag : goal.invariant-loop-tag
invariant-loop-tag g l = l.tags ≡ both_tags l.fn.tags (map tag_pair (take l.tag-index l.others))
