use Rattle.std.proofs.Common.{◌≡◌, ◌++◌, map, drop, option_copied, option_map}
use Rattle.edit_topology.specs.Prelude.{member_pair, joined_members, kept_members, renamed_members}
use Rattle.edit_topology.proofs.join.joined_members.Given as goal

abbrev pub invariant-loop-member : goal.invariant-loop-member
invariant-loop-member g l =
    joined_members l.name l.other (map member_pair l.members)
    ≡ l.joined ++ renamed_members l.other l.name (kept_members l.name l.other (option_map member_pair (option_copied l.before)) (map member_pair (drop l.member-index l.members)))
