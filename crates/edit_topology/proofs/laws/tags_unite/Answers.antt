use Rattle.edit_topology.specs.Facts.TagValues.{united_values, no_key_has_two, least_key_has_two}
use Rattle.edit_topology.proofs.laws.tags_unite.Goals as goal

pub returns-clause-values : goal.returns-clause-values
returns-clause-values c = united_values

pub returns-clause-none : goal.returns-clause-none
returns-clause-none c = no_key_has_two

pub returns-clause-least : goal.returns-clause-least
returns-clause-least c = least_key_has_two
