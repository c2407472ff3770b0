use Rattle.std.proofs.Common.{◌++◌, [], ◌∷◌, map, take, sym, ap, ◌∙◌}
use Rattle.std.proofs.lemmas.List.{map_more}
use Rattle.osm_changes.specs.Prelude.{Name, changed, changed_row}
use Rattle.osm_changes.proofs.rows.rows_of.Goals as goal

pub loop-name-preserved : goal.loop-name-preserved
loop-name-preserved g c =
    let m = g.R.Lookup.rows c.args.rows.now in
    let row = changed_row m (changed m c.args.changes.now) in
    let done = map row (take c.loop-name.name-index c.args.names.now) in
    c.in_ok-push.ensures.items
    ∙ (λ i. c.loop-name.invariant i ++ c.in_ok-row_of_name.ensures i ∷ [])
    ∙ ap (λ (x : Name). done ++ row x ∷ []) c.name-item.is
    ∙ sym (map_more row c.args.names.now c.loop-name.name-index c.name-item.result c.loop-name-test.true)
