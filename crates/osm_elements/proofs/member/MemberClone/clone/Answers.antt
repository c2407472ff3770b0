use Rattle.std.proofs.Common.{refl}
use Rattle.osm_elements.proofs.ShortRoles.{same_member}
use Rattle.osm_elements.proofs.member.MemberClone.clone.Goals as goal

pub returns : goal.returns
returns g c = record { cases = same_member _ _ refl c.in_ok-role.ensures.cases }
