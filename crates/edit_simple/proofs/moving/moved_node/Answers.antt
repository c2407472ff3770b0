use Rattle.std.proofs.Common.{◌+ℤ◌, ap, ◌∙◌}
use Rattle.std.proofs.lemmas.Int.{to_z-of_z}
use Rattle.edit_simple.specs.Prelude.{w64, latitude, longitude}
use Rattle.edit_simple.proofs.MoveLoops.{node_moved}
use Rattle.edit_simple.proofs.moving.moved_node.Goals as goal

pub returns : goal.returns
returns g c =
    node_moved c.args.rows.now c.args.dlat c.args.dlon c.args.name.now c.in-Some.element.now c.in-Node.lat c.in-Node.lon c.in-Some-Some.new_lat c.in-Some-Some.new_lon c.in-Node.tags c.in_ok-copy.field-0 c.in_ok-before.before
    c.in-Some.ensures c.in-Node.is (c.in-Some-Some.ensures ∙ ap (λ d. latitude (c.in-Node.lat +ℤ d)) (to_z-of_z w64 c.args.dlat c.ranges.dlat))
    (c.in-Some-Some.ensures' ∙ ap (λ d. longitude (c.in-Node.lon +ℤ d)) (to_z-of_z w64 c.args.dlon c.ranges.dlon)) c.in_ok-copy.ensures c.in_ok-before.ensures
