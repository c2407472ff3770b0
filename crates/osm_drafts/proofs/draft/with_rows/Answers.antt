use Rattle.std.proofs.Common.{◌≡◌, ◌++◌, ◌∷◌, [], refl, length, sym, ap, ◌∙◌, rules, append_assoc, append-nil, fold}
use Rattle.std.proofs.lemmas.List.Sums.{fold-append}
use Rattle.osm_drafts.specs.Prelude.{into_iter_items, nothing_left, with_row}
use Rattle.osm_drafts.proofs.draft.with_rows.Goals as goal

pub loop-row-init : goal.loop-row-init
loop-row-init g c = record { all = c.into_iter-row-iterator.ensures.into_iter_gives.0; draft_is = refl }

pub loop-row-preserved : goal.loop-row-preserved
loop-row-preserved g c =
    let i = c.loop-row.invariant in
    let row = c.in-Some.row in
    record {
      all = append_assoc c.loop-row.yielded (row ∷ []) (into_iter_items c.next.new.self) ∙ ap (λ cs. c.loop-row.yielded ++ cs) (sym c.in-Some.ensures.steps.0) ∙ i.all;
      draft_is = c.in_ok-draft.ensures ∙ ap (λ n. with_row n row.name row.after) i.draft_is ∙ sym (fold-append (λ n r. with_row n r.name r.after) _ c.loop-row.yielded (row ∷ []));
    }

pub returns : goal.returns
returns g c =
    let i = c.loop-row.invariant in
    let none : length (into_iter_items c.loop-row.row-iterator) ≡ 0 = search rules in
    let empty : into_iter_items c.loop-row.row-iterator ≡ [] = nothing_left (into_iter_items c.loop-row.row-iterator) none in
    i.draft_is ∙ ap (fold (λ n r. with_row n r.name r.after) c.args.draft) (sym (append-nil c.loop-row.yielded) ∙ ap (λ cs. c.loop-row.yielded ++ cs) (sym empty) ∙ i.all)
