use Rattle.osm_elements.proofs.ShortRoles.{short_roles}
use Rattle.osm_elements.proofs.members.Members.as_slice.Goals as goal

pub returns-clause-short : goal.returns-clause-short
returns-clause-short g c = rw (← c.self.view_is) (short_roles c.self.inside.members.items)
