use Rattle.std.proofs.Common.{◌≡◌, map, take}
use Rattle.edit_topology.specs.Prelude.{member_pair, renamed_members}
use Rattle.edit_topology.proofs.renaming.renamed_members.Given as goal

abbrev pub invariant-loop-member : goal.invariant-loop-member
invariant-loop-member g l = l.new ≡ renamed_members l.other l.name (map member_pair (take l.member-index l.members))
