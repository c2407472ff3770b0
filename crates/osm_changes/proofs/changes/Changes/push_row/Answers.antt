use Rattle.std.proofs.Common.{◌++◌, [], ◌∷◌, ap, subst, sym, ◌∙◌, filter}
use Rattle.osm_changes.specs.Prelude.{Tags, differs, AreChanges}
use Rattle.osm_changes.proofs.Pushing.{change_of, pushed}
use Rattle.osm_changes.proofs.changes.Changes.push_row.Goals as goal

pub invariant_of-self-2 : goal.invariant_of-self-2
invariant_of-self-2 g c =
    let before = c.halves-tags_before.ensures in
    let after = c.halves-tags_after.ensures in
    let start = c.reserve_row.ensures.items ∙ c.self.view_is in
    subst AreChanges
    (sym (pushed c.args.name c.args.before c.args.after _ _ _ _ before.tags after.tags before.rest after.rest c.args.self.now c.push_if_other.new.changes.items c.push_if_other-2.new.changes.items
    (c.push_if_other.ensures.items ∙ ap (λ cs. cs ++ filter differs (change_of c.args.name Tags c.halves-tags_before.result.0 c.halves-tags_after.result.0 ∷ [])) start) c.push_if_other-2.ensures.items))
    c.requires
