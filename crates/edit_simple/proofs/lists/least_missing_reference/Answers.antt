use Rattle.std.proofs.Common.{ap, ◌∙◌, map, filter}
use Rattle.edit_simple.specs.Prelude.{least, is_missing}
use Rattle.edit_simple.proofs.MemberNames.{names_of_pairs}
use Rattle.edit_simple.proofs.lists.least_missing_reference.Goals as goal

pub returns-in-Relation : goal.returns-in-Relation
returns-in-Relation g c =
    rw c.in-Relation.is (c.least_missing_member.ensures
    ∙ ap (λ names. least (filter (is_missing (g.R.Lookup.rows c.args.rows.now) c.args.name.now) names)) (names_of_pairs c.as_slice.result.now ∙ ap (map (λ m. m.0)) (c.as_slice.ensures.members ∙ c.deref-in-Relation.ensures)))
