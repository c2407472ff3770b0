use Rattle.std.proofs.Common.{◌≤◌, length, map, refl, ◌∙◌, ap, arith, subst, sym, IsSorted}
use Rattle.std.proofs.lemmas.List.{take_all}
use Rattle.std.proofs.lemmas.List.Sorted.{IsPermutation-refl}
use Rattle.osm_changes.specs.Prelude.{name_cmp, name_eq_is, name_set, sorted_is_name_set, Change}
use Rattle.osm_changes.proofs.HalvesAfter.{names_sorted}
use Rattle.osm_changes.proofs.rows.changed_names.Goals as goal

pub returns : goal.returns
returns g c =
    let cs = c.args.changes.now in
    let names = map (λ (d : Change _). d.name) cs in
    let end : length cs ≤ c.loop-change.change-index = omega (arith, c.loop-change-test.false) in
    let all = c.loop-change.invariant ∙ ap (map (λ (d : Change _). d.name)) (take_all c.loop-change.change-index cs end) in
    let sorted = subst (IsSorted name_cmp) (sym all) (names_sorted cs c.requires) in
    sorted_is_name_set _ name_eq_is name_cmp refl c.loop-change.names.items _ _ (IsPermutation-refl c.loop-change.names.items) sorted c.dedup.ensures.filtered ∙ ap name_set all
