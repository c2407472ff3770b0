use Rattle.std.proofs.Common.{◌≡◌, ◌&&◌, ◌||◌, ℤ, pos, true, false, length, nat_eq, sym, subst, ◌∙◌, int_eq}
use Rattle.std.specs.Int.{w64}
use Rattle.std.proofs.lemmas.Int.{to_z-of_z}
use Rattle.edit_simple.specs.Inner.Moves.{MayMove, IsMoved}
use Rattle.edit_simple.proofs.MoveLoops.{of_distances}
use Rattle.edit_simple.proofs.MovePlans.{may_move, move_planned, move_nothing, all_there, full_and_far}
use Rattle.edit_simple.proofs.moving.plan_move.Goals as goal

pub returns-then-moves_nothing-clause-plan : goal.returns-then-moves_nothing-clause-plan
returns-then-moves_nothing-clause-plan g c =
    let a = to_z-of_z w64 c.args.dlat c.ranges.dlat in
    let b = to_z-of_z w64 c.args.dlon c.ranges.dlon in
    move_nothing c.args.rows.now c.requires c.args.names.now c.args.dlat c.args.dlon c.in_default.ensures c.in_default-least_absent.ensures
    (of_distances (λ (d e : ℤ). (nat_eq (length c.args.names.now) 0 || (int_eq d (pos 0) && int_eq e (pos 0))) ≡ true) _ _ c.args.dlat c.args.dlon a b (sym c.if-moves_nothing.ensures))

pub move_all-requires : goal.move_all-requires
move_all-requires g c =
    let a = to_z-of_z w64 c.args.dlat c.ranges.dlat in
    let b = to_z-of_z w64 c.args.dlon c.ranges.dlon in
    let here = all_there c.args.rows.now c.requires c.args.names.now c.args.dlat c.args.dlon c.in_default-least_absent.ensures in
    let far = of_distances (λ (d e : ℤ). (nat_eq (length c.args.names.now) 0 || (int_eq d (pos 0) && int_eq e (pos 0))) ≡ false) _ _ c.args.dlat c.args.dlon a b (sym c.if-moves_nothing.ensures) in
    of_distances (λ (d e : ℤ). MayMove c.args.rows.now c.deref.result.now d e) c.args.dlat c.args.dlon _ _ (sym a) (sym b)
    (subst (λ l. MayMove c.args.rows.now l c.args.dlat c.args.dlon) (sym (c.deref.ensures.value ∙ c.in_ok-moved.ensures))
    (may_move c.args.rows.now c.requires c.args.names.now here c.args.dlat c.args.dlon (full_and_far c.args.rows.now c.requires c.args.names.now c.args.dlat c.args.dlon far).1))

pub returns-clause-plan : goal.returns-clause-plan
returns-clause-plan g c =
    let a = to_z-of_z w64 c.args.dlat c.ranges.dlat in
    let b = to_z-of_z w64 c.args.dlon c.ranges.dlon in
    let here = all_there c.args.rows.now c.requires c.args.names.now c.args.dlat c.args.dlon c.in_default-least_absent.ensures in
    let far = of_distances (λ (d e : ℤ). (nat_eq (length c.args.names.now) 0 || (int_eq d (pos 0) && int_eq e (pos 0))) ≡ false) _ _ c.args.dlat c.args.dlon a b (sym c.if-moves_nothing.ensures) in
    let parts = full_and_far c.args.rows.now c.requires c.args.names.now c.args.dlat c.args.dlon far in
    move_planned c.args.rows.now c.requires c.args.names.now here c.args.dlat c.args.dlon parts.1 c.in_default.ensures c.in_default-least_absent.ensures parts.0 c.move_all.result
    (subst (λ l. IsMoved c.args.rows.now l c.args.dlat c.args.dlon c.move_all.result) (c.deref.ensures.value ∙ c.in_ok-moved.ensures)
    (of_distances (λ (d e : ℤ). IsMoved c.args.rows.now c.deref.result.now d e c.move_all.result) _ _ c.args.dlat c.args.dlon a b c.move_all.ensures))
