use Rattle.std.proofs.Common.{ap, ◌∙◌}
use Rattle.osm_elements.specs.Maps.{name_set}
use Rattle.osm_refs.proofs.refs.refs_of.Goals as goal

pub returns-clause-set : goal.returns-clause-set
returns-clause-set g c = c.from_vec.ensures ∙ c.in_ok-names.ensures.set ∙ ap name_set c.in_ok-named.ensures.names
