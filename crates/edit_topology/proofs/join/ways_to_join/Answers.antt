use Rattle.std.proofs.Common.{length, ◌≤◌, sym, subst, ◌∙◌}
use Rattle.osm_changes.specs.Sound.{most_nodes}
use Rattle.edit_topology.proofs.JoinWays.{has_one, has_few}
use Rattle.edit_topology.proofs.join.ways_to_join.Goals as goal

pub check_lists-requires : goal.check_lists-requires
check_lists-requires g c = record {
  some = subst (λ l. 1 ≤ length l) (sym (c.names-2.ensures.names ∙ c.deref-2.ensures)) (has_one c.args.rows.now c.args.other.now c.in_ok-other_way.other_way.0.now c.in_ok-other_way.other_way.1.now c.requires c.in_ok-other_way.ensures);
  few = subst (λ l. length l ≤ most_nodes) (sym (c.names.ensures.names ∙ c.deref.ensures)) (has_few c.args.rows.now c.args.name.now c.in_ok-way.way.0.now c.in_ok-way.way.1.now c.requires c.in_ok-way.ensures);
  other_few = subst (λ l. length l ≤ most_nodes) (sym (c.names-2.ensures.names ∙ c.deref-2.ensures)) (has_few c.args.rows.now c.args.other.now c.in_ok-other_way.other_way.0.now c.in_ok-other_way.other_way.1.now c.requires c.in_ok-other_way.ensures);
}
