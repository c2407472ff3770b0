use Rattle.std.proofs.Common.{◌≡◌, ◌++◌, ◌∷◌, [], length, map, sym, ap, ◌∙◌, rules, append_assoc, append-nil}
use Rattle.osm_elements.specs.Prelude.{into_iter_items, row_pair, put_row, nothing_left, put_all, put_more, put_all_is}
use Rattle.osm_elements.proofs.map.OsmMap.from_rows.Goals as goal

pub loop-row-init : goal.loop-row-init
loop-row-init g c = record { all = ap (map row_pair) c.into_iter-row-iterator.ensures.into_iter_gives.0 ∙ c.into_vec-row-items.ensures; map_is = c.new-map.ensures }

pub loop-row-preserved : goal.loop-row-preserved
loop-row-preserved g c =
    let i = c.loop-row.invariant in
    let row = c.in-Some.row in
    record {
      all = ap (map row_pair) (append_assoc c.loop-row.yielded (row ∷ []) (into_iter_items c.next.new.self) ∙ ap (λ cs. c.loop-row.yielded ++ cs) (sym c.in-Some.ensures.steps.0)) ∙ i.all;
      map_is = c.in_ok-put_next.ensures.ok ∙ ap (λ n. put_row n row.name row.element) i.map_is ∙ sym (put_more c.loop-row.yielded row);
    }

pub returns : goal.returns
returns g c =
    let i = c.loop-row.invariant in
    let none : length (into_iter_items c.loop-row.row-iterator) ≡ 0 = search rules in
    let empty : into_iter_items c.loop-row.row-iterator ≡ [] = nothing_left (into_iter_items c.loop-row.row-iterator) none in
    i.map_is ∙ ap (put_all []) (ap (map row_pair) (sym (append-nil c.loop-row.yielded) ∙ ap (λ cs. c.loop-row.yielded ++ cs) (sym empty)) ∙ i.all) ∙ put_all_is c.args.rows c.requires
