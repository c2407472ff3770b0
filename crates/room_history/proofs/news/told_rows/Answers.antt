use Rattle.std.proofs.Common.{◌++◌, [], ◌∷◌, sym, ap, ◌∙◌}
use Rattle.std.proofs.lemmas.List.{map_more}
use Rattle.room_history.specs.Inner.Telling.{told_row}
use Rattle.room_history.proofs.news.told_rows.Goals as goal

pub loop-row-preserved : goal.loop-row-preserved
loop-row-preserved g c =
    let row = c.row-item.result in
    c.in_ok-push.ensures.items
    ∙ ap (λ e. c.loop-row.rows.items ++ record { name = row.name; element = e } ∷ []) (c.in_ok-element.ensures ∙ c.as_ref.ensures.value)
    ∙ (λ i. c.loop-row.invariant i ++ told_row (c.row-item.is i) ∷ [])
    ∙ sym (map_more told_row c.args.changed.now c.loop-row.row-index row c.loop-row-test.true)
