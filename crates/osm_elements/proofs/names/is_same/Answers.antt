use Rattle.std.proofs.Common.{◌∙◌}
use Rattle.osm_elements.specs.Facts.SameNames.{name_eq_is}
use Rattle.osm_elements.proofs.names.is_same.Goals as goal

pub returns : goal.returns
returns c = c.eq.ensures ∙ name_eq_is c.args.one.now c.args.other.now
