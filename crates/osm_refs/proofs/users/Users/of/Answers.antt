use Rattle.std.proofs.Common.{◌≡◌, sym, ap, subst, ◌∙◌}
use Rattle.osm_refs.specs.Prelude.{in_name_order, IsRising, Table, users_in, AreLists, listed}
use Rattle.osm_refs.proofs.Entering.{users_in-references_of}
use Rattle.osm_refs.proofs.users.Users.of.Goals as goal

pub returns-clause-users : goal.returns-clause-users
returns-clause-users g c =
    let lists = c.self.inside.lists.lists.entries in
    let kept = in_name_order (λ order. AreLists order order lists) c.self.inside.lists.kept in
    in_name_order (λ order. c.of.result.now ≡ listed order lists c.args.name.now) c.of.ensures ∙ sym (users_in-references_of lists c.args.name.now kept)
    ∙ ap (λ (t : Table). users_in t c.args.name.now) c.self.view_is

pub returns-clause-rising : goal.returns-clause-rising
returns-clause-rising g c =
    let lists = c.self.inside.lists.lists.entries in
    let kept = in_name_order (λ order. AreLists order order lists) c.self.inside.lists.kept in
    subst IsRising (sym (in_name_order (λ order. c.of.result.now ≡ listed order lists c.args.name.now) c.of.ensures)) (kept.rising c.args.name.now)
