use Rattle.std.proofs.Common.{◌≡◌, ◌++◌, ◌∷◌, [], length, refl, sym, ap, subst, ◌∙◌, rules, append_assoc, append-nil}
use Rattle.room_mirror.specs.Prelude.{into_iter_items, is_present, AreInOrder, with_row, AreInOrder-with_row, mirrored}
use Rattle.room_mirror.proofs.ReplacedRows.{mirrored_more, nothing_left, still_there}
use Rattle.room_mirror.proofs.replacing.replace_all.Goals as goal

pub loop-row-init : goal.loop-row-init
loop-row-init g c = record { all = c.into_iter-row-iterator.ensures.into_iter_gives.0; rows = refl; order = c.requires.order }

pub replace_one-requires-clause-order : goal.replace_one-requires-clause-order
replace_one-requires-clause-order g c = c.loop-row.invariant.order

pub replace_one-requires-clause-present : goal.replace_one-requires-clause-present
replace_one-requires-clause-present g c =
    let i = c.loop-row.invariant in
    let row = c.in-Some.row in
    ap (λ n. is_present n row.name) i.rows
    ∙ still_there c.args.rows.now c.args.told.items c.loop-row.yielded (into_iter_items c.next.new.self) row
    (ap (λ cs. c.loop-row.yielded ++ cs) (sym c.in-Some.ensures.steps.0) ∙ i.all) c.requires.rising c.requires.present

pub loop-row-preserved : goal.loop-row-preserved
loop-row-preserved g c =
    let i = c.loop-row.invariant in
    let row = c.in-Some.row in
    record {
      all = append_assoc c.loop-row.yielded (row ∷ []) (into_iter_items c.next.new.self) ∙ ap (λ cs. c.loop-row.yielded ++ cs) (sym c.in-Some.ensures.steps.0) ∙ i.all;
      rows = c.replace_one.ensures ∙ ap (λ n. with_row n row.name row.element) i.rows ∙ sym (mirrored_more c.args.rows.now c.loop-row.yielded row);
      order = subst (λ n. AreInOrder n) (sym c.replace_one.ensures) (AreInOrder-with_row c.loop-row.rows row.name row.element i.order);
    }

pub returns : goal.returns
returns g c =
    let i = c.loop-row.invariant in
    let none : length (into_iter_items c.loop-row.row-iterator) ≡ 0 = search rules in
    let empty : into_iter_items c.loop-row.row-iterator ≡ [] = nothing_left (into_iter_items c.loop-row.row-iterator) none in
    i.rows ∙ ap (mirrored c.args.rows.now) (sym (append-nil c.loop-row.yielded) ∙ ap (λ cs. c.loop-row.yielded ++ cs) (sym empty) ∙ i.all)
