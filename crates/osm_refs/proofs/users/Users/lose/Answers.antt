use Rattle.std.proofs.Common.{◌∙◌, ap}
use Rattle.osm_refs.specs.Prelude.{in_name_order, names_but, Table, references_at, referring, AreLists, Loses}
use Rattle.osm_refs.proofs.Entering.{lost}
use Rattle.osm_refs.proofs.users.Users.lose.Goals as goal

pub returns : goal.returns
returns g c =
    let before = c.self.inside.lists.lists.entries in
    let after = c.take_out_all.new.self.lists.entries in
    let name = c.args.name.now in
    let names = c.args.names.now in
    lost before after name names (in_name_order (λ order. AreLists order order before) c.self.inside.lists.kept) (in_name_order (λ order. AreLists order order after) c.take_out_all.new.self.kept)
    (in_name_order (λ order. Loses order order before after names name) c.take_out_all.ensures) ∙ ap (λ (t : Table). referring t name (names_but (references_at t name) names)) c.self.view_is
