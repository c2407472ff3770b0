use Rattle.std.proofs.Common.{◌++◌, length, nat_lt, inl, sym, ap, subst, ◌∙◌}
use Rattle.edit_topology.specs.Prelude.{IsRising-name_set, row_tags}
use Rattle.osm_refs.specs.Rising.{IsRising}
use Rattle.edit_topology.specs.Inner.Merging.{subjects, tag_checks}
use Rattle.edit_topology.proofs.MergePlans.{too_few, from_tags, refused, merge_planned}
use Rattle.edit_topology.proofs.merge.plan_merge.Goals as goal

pub returns-in-Some-clause-plan : goal.returns-in-Some-clause-plan
returns-in-Some-clause-plan g c =
    let m = c.args.rows.now in
    let k = c.args.name.now in
    let o = c.args.other.now in
    let its_are = c.as_slice.ensures ∙ c.in_ok-its_users.ensures in
    inl (too_few m k o c.requires c.in_ok-kept.ensures.0 c.as_slice.result.now its_are c.in-Some.way c.in-Some.ensures)

pub returns-in_err-tags-clause-plan : goal.returns-in_err-tags-clause-plan
returns-in_err-tags-clause-plan g c =
    let m = c.args.rows.now in
    let k = c.args.name.now in
    let o = c.args.other.now in
    let its_are = c.as_slice.ensures ∙ c.in_ok-its_users.ensures in
    let told =
    from_tags m k o c.requires c.in_ok-kept.ensures.0 c.as_slice.result.now its_are c.in_default.ensures c.in_ok-kept.kept.now c.in_ok-kept.gone.now c.in_ok-kept.ensures.1 c.in_ok-kept.ensures.2
    c.tags.result.now c.tags-2.result.now c.tags.ensures c.tags-2.ensures in
    refused m k o c.requires c.from_residual-in_err-tags.result c.in_err-tags.field-0.0 (tag_checks k c.tags.result.now c.tags-2.result.now) c.from_residual-in_err-tags.ensures.0 c.from_residual-in_err-tags.ensures.1 told c.in_err-tags.ensures

pub change_rows-requires : goal.change_rows-requires
change_rows-requires g c = subst IsRising (sym (c.deref.ensures.value ∙ c.in_ok-changed.ensures))
    (IsRising-name_set (subjects c.args.name.now c.args.other.now (nat_lt c.len-2.result c.len.result) ++ c.as_slice-2.result.now))

pub returns-clause-plan : goal.returns-clause-plan
returns-clause-plan g c =
    let m = c.args.rows.now in
    let k = c.args.name.now in
    let o = c.args.other.now in
    let its_are = c.as_slice.ensures ∙ c.in_ok-its_users.ensures in
    let told =
    from_tags m k o c.requires c.in_ok-kept.ensures.0 c.as_slice.result.now its_are c.in_default.ensures c.in_ok-kept.kept.now c.in_ok-kept.gone.now c.in_ok-kept.ensures.1 c.in_ok-kept.ensures.2
    c.tags.result.now c.tags-2.result.now c.tags.ensures c.tags-2.ensures in
    merge_planned m k o c.requires (told ∙ c.in_ok-tags.ensures.0) c.tags.result.now c.tags-2.result.now c.in_ok-tags.tags (c.tags.ensures ∙ ap row_tags (sym c.in_ok-kept.ensures.1)) (c.tags-2.ensures ∙ ap row_tags (sym c.in_ok-kept.ensures.2)) c.in_ok-tags.ensures.1
    (nat_lt c.len-2.result c.len.result) (λ i. nat_lt ((c.len-2.ensures ∙ ap length (c.tags-4.ensures ∙ sym c.tags.ensures)) i) (c.len.ensures i))
    c.as_slice-2.result.now c.deref.result.now (c.as_slice-2.ensures ∙ c.in_ok-its_users.ensures) (c.deref.ensures.value ∙ c.in_ok-changed.ensures) c.in_ok-change_rows.field-0 c.in_ok-change_rows.ensures
