use Rattle.std.proofs.Common.{◌≡◌, true, rules, sym, ◌∙◌, option_copied}
use Rattle.osm_refs.specs.Prelude.{pointwise, name_eq_is, is_same, row_references}
use Rattle.osm_refs.proofs.SameReferences.{same_lists}
use Rattle.osm_refs.proofs.change.keep_references.Goals as goal

pub returns-in-Some-Way-Some-Way : goal.returns-in-Some-Way-Some-Way
returns-in-Some-Way-Some-Way g c e =
    let nodes = c.names.result.now in
    let later = c.names-in-Some-Way-Some-Way.result.now in
    let are : pointwise is_same nodes later ≡ true = sym (c.eq.ensures ∙ (λ i. pointwise (λ a b. name_eq_is a b i) nodes later)) ∙ e in
    let was : row_references (option_copied c.args.before) ≡ c.in-Some-Way-Some-Way.nodes = search rules in
    let is : row_references (option_copied c.args.after) ≡ c.in-Some-Way-Some-Way.later = search rules in
    was ∙ sym (c.names.ensures.names ∙ c.deref.ensures) ∙ same_lists nodes later are ∙ c.names-in-Some-Way-Some-Way.ensures.names ∙ c.deref-in-Some-Way-Some-Way.ensures ∙ sym is
