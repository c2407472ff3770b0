use Rattle.std.proofs.Common.{◌≡◌, ◌++◌, IfOk, ap, subst, ◌∙◌}
use Rattle.osm_elements.specs.Maps.{name_set}
use Rattle.edit_topology.proofs.subjects.subjects_and_users.Goals as goal

pub returns : goal.returns
returns g c =
    subst (λ names. IfOk c.name_set.result (λ set. set.items ≡ name_set names))
    (c.in_ok-extend_from_slice-2.ensures.items ∙ ap (λ l. l ++ c.args.users.now) (c.in_ok-extend_from_slice.ensures.items ∙ ap (λ l. l ++ c.args.subjects.now) c.new-names.ensures.items))
    c.name_set.ensures.set
