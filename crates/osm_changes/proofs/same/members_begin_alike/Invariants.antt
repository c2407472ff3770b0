use Rattle.std.proofs.Common.{◌≡◌, map, drop}
use Rattle.osm_changes.specs.Prelude.{member_pair, are_same_members}
use Rattle.osm_changes.proofs.same.members_begin_alike.Given as goal

abbrev pub invariant-loop-place : goal.invariant-loop-place
invariant-loop-place g l = are_same_members (map member_pair l.one) (map member_pair l.other) ≡ are_same_members (map member_pair (drop l.place l.one)) (map member_pair (drop l.place l.other))
