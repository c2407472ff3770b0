use Rattle.std.proofs.Common.{◌≡◌, map, take}
use Rattle.edit_topology.specs.Prelude.{member_pair, split_members}
use Rattle.edit_topology.proofs.split.split_members.Given as goal

abbrev pub invariant-loop-member : goal.invariant-loop-member
invariant-loop-member g l = map member_pair l.split.items ≡ split_members l.way l.into (map member_pair (take l.member-index l.members))
