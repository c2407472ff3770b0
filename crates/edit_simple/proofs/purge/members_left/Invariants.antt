use Rattle.std.proofs.Common.{◌≡◌, not, map, take, filter}
use Rattle.edit_simple.specs.Prelude.{is_among, member_pair}
use Rattle.edit_simple.proofs.purge.members_left.Given as goal

abbrev pub invariant-loop-member : goal.invariant-loop-member
invariant-loop-member g l = l.left ≡ filter (λ r. not (is_among l.gone.keys r.0)) (map member_pair (take l.member-index l.members))
