use Rattle.std.proofs.Common.{◌∙◌}
use Rattle.osm_elements.specs.Facts.SameNames.{name_eq_is}
use Rattle.edit_topology.proofs.JoinLoops.{ends_meet}
use Rattle.edit_topology.proofs.join.meet_end_to_end.Goals as goal

pub returns : goal.returns
returns c = c.eq.ensures ∙ ends_meet _ name_eq_is c.last.result c.first.result c.args.nodes.now c.args.others.now c.last.ensures.value c.first.ensures.value
