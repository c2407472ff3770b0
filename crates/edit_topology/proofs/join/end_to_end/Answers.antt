use Rattle.std.proofs.Common.{◌-◌, length, sym, subst}
use Rattle.osm_elements.specs.Nodes.{AreNodes}
use Rattle.edit_topology.proofs.JoinLoops.{nodes_of_both}
use Rattle.edit_topology.proofs.join.end_to_end.Goals as goal

pub from_vec-requires : goal.from_vec-requires
from_vec-requires g c =
    nodes_of_both c.into_vec-names.result.items c.names.result.now c.extend_from_slice.new.self.items (length c.names.result.now - 1)
    (subst AreNodes (sym c.into_vec-names.ensures.names) c.into_vec-names.ensures.nodes) (subst AreNodes (sym c.names.ensures.names) c.names.ensures.nodes) c.in_ok-extend_from_slice.ensures.items
