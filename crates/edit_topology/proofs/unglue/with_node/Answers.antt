use Rattle.std.proofs.Common.{◌≡◌, List, set, sym, subst}
use Rattle.std.proofs.lemmas.List.Elements.{All-set}
use Rattle.edit_topology.specs.Prelude.{Name, AreNodes, told_node}
use Rattle.osm_elements.specs.declared.name.Kind.TheVariants as kinds
use Rattle.edit_topology.proofs.unglue.with_node.Goals as goal

pub from_vec-requires : goal.from_vec-requires
from_vec-requires g c =
    subst (λ (l : List Name). AreNodes (set l c.args.place c.args.node.now)) (sym c.into_vec-names.ensures.names)
    (All-set (λ (n : Name). n.kind ≡ kinds.Node) c.in_ok-copy.field-0 c.args.place c.args.node.now (told_node c.args.node.now.kind c.requires.node) c.into_vec-names.ensures.nodes)
