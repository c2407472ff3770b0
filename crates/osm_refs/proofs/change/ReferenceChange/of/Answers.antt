use Rattle.std.proofs.Common.{[], sym, ap, subst, ◌∙◌, option_copied}
use Rattle.osm_refs.specs.Prelude.{name_set, reference_change, row_references, IsRising-name_set, IsRising, names_but}
use Rattle.osm_refs.proofs.SameReferences.{none_but_itself}
use Rattle.osm_refs.proofs.change.ReferenceChange.of.Goals as goal

pub names_but-requires-clause-names : goal.names_but-requires-clause-names
names_but-requires-clause-names g c = subst IsRising (sym (c.as_slice.ensures ∙ c.in_ok-after.ensures)) (IsRising-name_set (row_references (option_copied c.args.after)))

pub names_but-requires-clause-others : goal.names_but-requires-clause-others
names_but-requires-clause-others g c = subst IsRising (sym (c.as_slice-2.ensures ∙ c.in_ok-before.ensures)) (IsRising-name_set (row_references (option_copied c.args.before)))

pub names_but-requires-2-clause-names : goal.names_but-requires-2-clause-names
names_but-requires-2-clause-names g c = subst IsRising (sym (c.as_slice-3.ensures ∙ c.in_ok-before.ensures)) (IsRising-name_set (row_references (option_copied c.args.before)))

pub names_but-requires-2-clause-others : goal.names_but-requires-2-clause-others
names_but-requires-2-clause-others g c = subst IsRising (sym (c.as_slice-4.ensures ∙ c.in_ok-after.ensures)) (IsRising-name_set (row_references (option_copied c.args.after)))

pub returns-then-keep_references : goal.returns-then-keep_references
returns-then-keep_references g c =
    let before = row_references (option_copied c.args.before) in
    let same = c.keep_references.ensures c.if-keep_references.true in
    let none = none_but_itself (name_set before) (IsRising-name_set before) in
    ap (λ ns. record { name = c.args.name; begun = ns; ceased = c.empty-ceased.result }) c.empty-begun.ensures ∙ ap (λ ns. record { name = c.args.name; begun = []; ceased = ns }) c.empty-ceased.ensures
    ∙ ap (λ ns. record { name = c.args.name; begun = ns; ceased = [] }) (sym none) ∙ ap (λ ns. record { name = c.args.name; begun = names_but (name_set before) (name_set before); ceased = ns }) (sym none)
    ∙ ap (λ after. reference_change c.args.name (name_set before) (name_set after)) same
