use Rattle.std.proofs.Common.{None, drop, length, map, take, inl, ap, ◌∙◌, filter}
use Rattle.edit_simple.specs.Prelude.{are_same_members, least, is_missing, err_result, first_stays, named_if_first, members_checks, IsNamed}
use Rattle.edit_simple.proofs.MemberNames.{names_of_pairs}
use Rattle.edit_simple.proofs.Relisted.{not_above, changed_named, members_left, members_absent, members_planned}
use Rattle.edit_simple.proofs.members.plan_members.Goals as goal

pub returns-in_err-members-clause-named : goal.returns-in_err-members-clause-named
returns-in_err-members-clause-named g c =
    let checks = members_checks c.args.rows.now c.args.name.now c.args.list.now in
    err_result (IsNamed checks) c.from_residual.result c.in_err-members.field-0.0 c.from_residual.ensures.0 c.from_residual.ensures.1 (named_if_first checks _ (first_stays (take 2 checks) (drop 2 checks) _ c.in_err-members.ensures))

pub returns-in-Some : goal.returns-in-Some
returns-in-Some g c =
    let first =
    members_absent c.args.rows.now c.args.name.now c.args.list.now c.in_ok-members.members.now c.in_ok-members.tags.now c.in_ok-members.ensures.0 c.in_ok-members.ensures.1
    (not_above c.len.result (length c.args.list.now) 32000 (c.len.ensures ∙ ap length c.deref.ensures) c.if-len-gt-MOST_MEMBERS.false)
    c.in-Some.absent (c.in-Some.ensures ∙ ap (λ l. least (filter (is_missing c.args.rows.now c.args.name.now) l)) (names_of_pairs c.as_slice.result.now ∙ ap (map (λ m. m.0)) (c.as_slice.ensures.members ∙ c.deref-2.ensures))) in
    record { plan = inl first; named = named_if_first (members_checks c.args.rows.now c.args.name.now c.args.list.now) _ first }

pub returns-clause-plan : goal.returns-clause-plan
returns-clause-plan g c =
    members_planned c.args.rows.now c.args.name.now c.args.list.now c.in_ok-members.members.now c.in_ok-members.tags.now c.in_ok-members.ensures.0 c.in_ok-members.ensures.1
    (not_above c.len.result (length c.args.list.now) 32000 (c.len.ensures ∙ ap length c.deref.ensures) c.if-len-gt-MOST_MEMBERS.false)
    (c.in_default.ensures ∙ ap (λ l. least (filter (is_missing c.args.rows.now c.args.name.now) l)) (names_of_pairs c.as_slice.result.now ∙ ap (map (λ m. m.0)) (c.as_slice.ensures.members ∙ c.deref-2.ensures))) c.change_members.result c.change_members.ensures.changed

pub returns-clause-named : goal.returns-clause-named
returns-clause-named g c =
    changed_named (members_checks c.args.rows.now c.args.name.now c.args.list.now) (are_same_members c.in_ok-members.members.now c.args.list.now)
    (members_left c.args.rows.now c.args.name.now c.args.list.now c.in_ok-members.members.now c.in_ok-members.tags.now c.in_ok-members.ensures.0 c.in_ok-members.ensures.1
    (not_above c.len.result (length c.args.list.now) 32000 (c.len.ensures ∙ ap length c.deref.ensures) c.if-len-gt-MOST_MEMBERS.false)
    None (c.in_default.ensures ∙ ap (λ l. least (filter (is_missing c.args.rows.now c.args.name.now) l)) (names_of_pairs c.as_slice.result.now ∙ ap (map (λ m. m.0)) (c.as_slice.ensures.members ∙ c.deref-2.ensures))))
    c.change_members.result c.change_members.ensures.named
