use Rattle.std.proofs.Common.{rules, ◌∙◌}
use Rattle.osm_refs.proofs.MemberNames.{names_of_members}
use Rattle.osm_refs.proofs.refs.named.Goals as goal

pub returns-in-Relation-clause-names : goal.returns-in-Relation-clause-names
returns-in-Relation-clause-names g c =
    let e = names_of_members c.as_slice.result.now in
    rw c.in-Relation.is (rw (← (c.as_slice.ensures.members ∙ c.deref-in-Relation.ensures)) (rw e (search rules)))
