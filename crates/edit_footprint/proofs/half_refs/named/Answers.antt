use Rattle.std.proofs.Common.{rules, ◌∙◌}
use Rattle.edit_footprint.proofs.MemberNames.{names_of_members}
use Rattle.edit_footprint.proofs.half_refs.named.Goals as goal

pub returns-in-Members : goal.returns-in-Members
returns-in-Members g c =
    let e = names_of_members c.as_slice.result.now in
    rw c.in-Members.is (rw (← (c.as_slice.ensures.members ∙ c.deref-in-Members.ensures)) (rw e (search rules)))
