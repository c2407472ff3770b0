use Rattle.std.proofs.Common.{◌+◌, ◌<◌, length, refl, get_or, sym, ap, subst, ◌∙◌, arith}
use Rattle.std.proofs.lemmas.List.{take_all}
use Rattle.edit_groups.specs.Prelude.{row_at, differences, is_group_length}
use Rattle.edit_groups.proofs.Turns.{IsAfter, none_yet, then_after, group_refused, group_planned, position_fits}
use Rattle.edit_groups.proofs.plan.plan_group.Goals as goal

pub loop-action-init : goal.loop-action-init
loop-action-init g c = record {
  after = none_yet c.args.store.now.rows c.of-draft.result c.new-names.result.items c.new-touches.result.items c.map-map.ensures.sound c.of-draft.ensures c.new-names.ensures.items c.new-touches.ensures.items;
  at = refl;
}

pub returns-in-Err : goal.returns-in-Err
returns-in-Err g c =
    let i = c.loop-action.invariant in
    let actions = c.as_slice-action-items.ensures.actions in
    let below = subst (λ xs. c.loop-action.action-index < length xs) actions c.loop-action-test.true in
    let is = c.action-item.is ∙ ap (λ xs. get_or xs c.loop-action.action-index c.action-item.result) actions in
    group_refused c.args.store.now.rows c.args.group.now c.loop-action.action-index c.action-item.result below is c.loop-action.draft c.loop-action.names.items c.loop-action.touches.items
    i.after c.step.ensures.made c.in-Err.why c.refused_at.result c.loop-action.position i.at c.in-Err.ensures.refused c.refused_at.ensures.memory c.refused_at.ensures.position

pub overflow_add-position : goal.overflow_add-position
overflow_add-position g c = position_fits c.loop-action.position c.loop-action.action-index (length c.as_slice-action-items.result.now) c.loop-action.invariant.at c.loop-action-test.true (ap (λ xs. is_group_length (length xs)) c.as_slice-action-items.ensures.actions ∙ c.as_slice-action-items.ensures.length)

pub loop-action-preserved : goal.loop-action-preserved
loop-action-preserved g c =
    let i = c.loop-action.invariant in
    let actions = c.as_slice-action-items.ensures.actions in
    let below = subst (λ xs. c.loop-action.action-index < length xs) actions c.loop-action-test.true in
    let is = c.action-item.is ∙ ap (λ xs. get_or xs c.loop-action.action-index c.action-item.result) actions in
    record {
      after = then_after c.args.store.now.rows c.args.group.now c.loop-action.action-index c.action-item.result below is c.loop-action.draft c.loop-action.names.items c.loop-action.touches.items
          i.after c.step.ensures.made c.in-Ok.after c.step.new.names.items c.step.new.touches.items c.in-Ok.ensures.accepted c.in-Ok.ensures.after c.in-Ok.ensures.names c.in-Ok.ensures.touches;
      at = ap (λ n. n + 1) i.at;
    }

pub changes_between-requires : goal.changes_between-requires
changes_between-requires g c =
    λ y out. c.loop-action.invariant.after.rest y out ∙ ap (λ m. row_at m y) (sym c.map-map.ensures.map)

pub returns : goal.returns
returns g c =
    let m = c.args.store.now.rows in
    let group = c.args.group.now in
    let whole = take_all c.loop-action.action-index group (let end = c.loop-action-test.false in let count = ap length c.as_slice-action-items.ensures.actions in omega (arith, end, count)) in
    group_planned m group c.loop-action.draft c.loop-action.names.items c.loop-action.touches.items
    (subst (λ done. IsAfter m done c.loop-action.draft c.loop-action.names.items c.loop-action.touches.items) whole c.loop-action.invariant.after)
    c.in_ok-changes.changes (c.in_ok-changes.ensures ∙ ap (λ n. differences n c.loop-action.draft) c.map-map.ensures.map)
    c.accepted.result c.accepted.ensures.changes c.accepted.ensures.footprint c.accepted.ensures.some c.accepted.ensures.refused
