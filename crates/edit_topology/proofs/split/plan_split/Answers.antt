use Rattle.std.proofs.Common.{◌∷◌, take, refl, inl, sym, subst, ◌∙◌}
use Rattle.edit_topology.specs.Prelude.{IsRising-name_set, first_that_holds, split_checks}
use Rattle.osm_refs.specs.Rising.{IsRising}
use Rattle.edit_topology.proofs.SplitPlans.{passed_ok, nothing_told, relation_told, split_planned}
use Rattle.edit_topology.proofs.split.plan_split.Goals as goal

pub returns-in-Some-clause-plan : goal.returns-in-Some-clause-plan
returns-in-Some-clause-plan g c =
    let m = c.args.rows.now in
    let early = passed_ok c.in_ok-check.field-0 (first_that_holds (take 5 (split_checks m c.args.name.now c.args.place c.args.into.now))) c.in_ok-check.ensures in
    inl (relation_told m c.args.name.now c.args.place c.args.into.now c.as_slice.result.now c.requires (c.as_slice.ensures ∙ c.in_ok-its_users.ensures) early c.in-Some.relation c.in-Some.ensures)

pub change_rows-requires : goal.change_rows-requires
change_rows-requires g c = subst IsRising (sym (c.deref.ensures.value ∙ c.in_ok-names.ensures))
    (IsRising-name_set (c.args.name.now ∷ c.args.into.now ∷ c.as_slice-2.result.now))

pub returns-clause-plan : goal.returns-clause-plan
returns-clause-plan g c =
    let m = c.args.rows.now in
    let its_are = c.as_slice.ensures ∙ c.in_ok-its_users.ensures in
    let early = passed_ok c.in_ok-check.field-0 (first_that_holds (take 5 (split_checks m c.args.name.now c.args.place c.args.into.now))) c.in_ok-check.ensures in
    split_planned m c.args.name.now c.args.place c.args.into.now c.requires
    (nothing_told m c.args.name.now c.args.place c.args.into.now c.as_slice.result.now c.requires its_are early c.in_default.ensures)
    _ c.as_slice-2.result.now c.deref.result.now refl (c.as_slice-2.ensures ∙ c.in_ok-its_users.ensures) (c.deref.ensures.value ∙ c.in_ok-names.ensures) c.in_ok-change_rows.field-0 c.in_ok-change_rows.ensures
