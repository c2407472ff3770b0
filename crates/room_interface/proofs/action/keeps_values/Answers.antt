use Rattle.std.proofs.Common.{ap, subst, ◌∙◌}
use Rattle.room_interface.specs.Prelude.{AreNodes, is_made_action, all_nodes}
use Rattle.room_interface.proofs.action.keeps_values.Goals as goal

pub returns-in-Nodes : goal.returns-in-Nodes
returns-in-Nodes g c = ap is_made_action c.in-Nodes.is ∙ all_nodes c.in-Nodes.list (subst AreNodes c.deref.ensures c.names.ensures.nodes)
