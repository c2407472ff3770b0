use Rattle.std.proofs.Common.{ap, ◌∙◌}
use Rattle.osm_elements.specs.Maps.{name_set}
use Rattle.edit_footprint.proofs.half_refs.refs_of.Goals as goal

pub returns : goal.returns
returns g c = c.from_vec.ensures ∙ c.in_ok-names.ensures.set ∙ ap name_set c.in_ok-named.ensures
