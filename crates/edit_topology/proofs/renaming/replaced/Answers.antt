use Rattle.std.proofs.Common.{◌≡◌, ◌&&◌, sym, ap, subst, ◌∙◌, rules}
use Rattle.std.proofs.lemmas.Fn.{dedup_same}
use Rattle.edit_topology.specs.Prelude.{dedup, Name, is_same, AreNodes}
use Rattle.edit_topology.specs.Inner.Merging.{replaced}
use Rattle.edit_topology.proofs.MergeLists.{replaced_nodes}
use Rattle.edit_topology.proofs.renaming.replaced.Goals as goal

pub from_vec-requires : goal.from_vec-requires
from_vec-requires g c =
    let same = λ (n before : Name). is_same c.args.name.now n && is_same c.args.name.now before in
    let left : c.dedup_by.new.self.items ≡ replaced c.args.name.now c.args.other.now c.args.nodes.now =
    dedup_same _ same _ (λ x y b f' x' y' k. search rules) _ _ c.dedup_by.ensures.filtered ∙ ap (dedup same) c.in_ok-new.ensures in
    subst (λ l. AreNodes l) (sym left) (replaced_nodes c.args.name.now c.args.other.now c.args.nodes.now c.requires.node c.requires.nodes)

pub returns : goal.returns
returns g c =
    let same = λ (n before : Name). is_same c.args.name.now n && is_same c.args.name.now before in
    c.from_vec.ensures ∙ dedup_same _ same _ (λ x y b f' x' y' k. search rules) _ _ c.dedup_by.ensures.filtered ∙ ap (dedup same) c.in_ok-new.ensures
