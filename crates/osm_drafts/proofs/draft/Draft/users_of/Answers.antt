use Rattle.std.proofs.Common.{◌++◌, ap, ◌∙◌, flat_map}
use Rattle.osm_drafts.specs.Prelude.{name_set, users, Table, users_in, users_in-table_of, sound_in_order, unwritten, users-drafted}
use Rattle.osm_drafts.proofs.draft.Draft.users_of.Goals as goal

pub returns : goal.returns
returns g c =
    let m = c.self.inside.store.now.rows in
    let w = c.self.inside.written.keys in
    let here = c.self.inside.here in
    let e = c.args.name.now in
    let its = c.of-its_users.ensures.users ∙ ap (λ (t : Table). users_in t e) c.users.ensures ∙ users_in-table_of m e in
    let own = c.of.ensures.users ∙ ap (λ (t : Table). users_in t e) c.self.invariant.users_are ∙ users_in-table_of here e in
    let pushed = c.in_ok-push_all_unwritten.ensures ∙ (λ i. c.new-names.ensures.items i ++ flat_map (unwritten w) (its i)) in
    c.from_vec.ensures
    ∙ c.in_ok-names.ensures.set
    ∙ ap name_set (c.in_ok-extend_from_slice.ensures.items ∙ (λ i. pushed i ++ own i))
    ∙ users-drafted m w here e (sound_in_order m c.map.ensures.sound) c.self.invariant.order c.self.invariant.inside
    ∙ ap (λ k. users k e) c.self.view_is
