use Rattle.std.proofs.Common.{◌≡◌, ◌⊎◌, ℤ, true, Some, take, sym, ap, ◌∙◌}
use Rattle.std.proofs.lemmas.Int.{to_z-of_z}
use Rattle.std.proofs.lemmas.List.{take_all}
use Rattle.edit_simple.specs.Prelude.{w64, row_at, rows_changes, OutOfRange, Memory, err_result}
use Rattle.edit_simple.specs.Inner.Moving.{moved_row, row_leaves}
use Rattle.edit_simple.specs.Inner.Moves.{is_node_row, leaving, IsMoved}
use Rattle.edit_simple.proofs.MoveLoops.{all_at, push_fits, leaving_told, of_distances}
use Rattle.edit_simple.proofs.moving.move_all.Goals as goal

pub moved_node-requires : goal.moved_node-requires
moved_node-requires g c = all_at (λ y. is_node_row (row_at c.args.rows.now y)) c.args.moved.now c.loop-name.name-index c.name-item.result c.requires.there c.loop-name-test.true c.name-item.is

pub returns-in_err-before : goal.returns-in_err-before
returns-in_err-before g c =
    let a = to_z-of_z w64 c.args.dlat c.ranges.dlat in
    let b = to_z-of_z w64 c.args.dlon c.ranges.dlon in
    err_result (IsMoved c.args.rows.now c.args.moved.now c.args.dlat c.args.dlon) c.from_residual.result c.in_err-before.field-0.0 c.from_residual.ensures.0 c.from_residual.ensures.1
    (leaving_told c.args.rows.now c.args.dlat c.args.dlon c.args.moved.now c.loop-name.name-index c.name-item.result c.loop-name-test.true c.name-item.is c.requires
    ((λ i. leaving c.args.rows.now (sym a i) (sym b i) (take c.loop-name.name-index c.args.moved.now)) ∙ c.loop-name.invariant.1) c.in_err-before.field-0.0
    (of_distances (λ (d e : ℤ). ((row_leaves d e (row_at c.args.rows.now c.name-item.result) ≡ true) × (c.in_err-before.field-0.0 ≡ OutOfRange c.name-item.result)) ⊎ (c.in_err-before.field-0.0 ≡ Memory)) _ _ c.args.dlat c.args.dlon a b c.in_err-before.ensures))

pub push_row-requires : goal.push_row-requires
push_row-requires g c =
    let a = to_z-of_z w64 c.args.dlat c.ranges.dlat in
    let b = to_z-of_z w64 c.args.dlon c.ranges.dlon in
    push_fits c.args.rows.now c.args.dlat c.args.dlon c.args.moved.now c.loop-name.name-index c.name-item.result c.loop-name-test.true c.name-item.is c.loop-name.changes (Some c.in_ok-before.before) (Some c.in_ok-before.after) c.requires
    (c.loop-name.invariant.0 ∙ (λ i. rows_changes c.args.rows.now (moved_row c.args.rows.now (a i) (b i)) (take c.loop-name.name-index c.args.moved.now)))
    c.in_ok-before.ensures.1 (c.in_ok-before.ensures.2 ∙ (λ i. moved_row c.args.rows.now (a i) (b i) c.name-item.result))

pub returns : goal.returns
returns g c =
    let a = to_z-of_z w64 c.args.dlat c.ranges.dlat in
    let b = to_z-of_z w64 c.args.dlon c.ranges.dlon in
    let all = take_all c.loop-name.name-index c.args.moved.now c.loop-name-test.false in (
      ap (leaving c.args.rows.now c.args.dlat c.args.dlon) (sym all) ∙ (λ i. leaving c.args.rows.now (sym a i) (sym b i) (take c.loop-name.name-index c.args.moved.now)) ∙ c.loop-name.invariant.1,
      c.loop-name.invariant.0 ∙ (λ i. rows_changes c.args.rows.now (moved_row c.args.rows.now (a i) (b i)) (all i)),
    )
