use Rattle.std.proofs.Common.{◌++◌, ◌≡◌, ◌∙◌, ap, subst, sym}
use Rattle.osm_refs.specs.Prelude.{name_set, in_derived_order, in_name_order, names_but, Table, references_at, referring, AreLists, Gains, Lacks, SameLists}
use Rattle.osm_refs.proofs.Entering.{OnErr-always, gained, lacks, same_references}
use Rattle.osm_refs.proofs.users.Users.gain.Goals as goal

pub add_all-requires : goal.add_all-requires
add_all-requires g c =
    let lists = c.self.inside.lists.lists.entries in
    let name = c.args.name in
    let names = c.args.names.now in
    in_derived_order (λ order. Lacks order order lists names name)
    (lacks lists lists name names (in_name_order (λ order. AreLists order order lists) c.self.inside.lists.kept) (subst (λ (t : Table). names_but names (references_at t name) ≡ names) (sym c.self.view_is) c.requires.new))

pub returns-in_err-add_all-clause-err : goal.returns-in_err-add_all-clause-err
returns-in_err-add_all-clause-err g c =
    let before = c.self.inside.lists.lists.entries in
    let after = c.add_all.new.self.lists.entries in
    OnErr-always c.from_residual.result
    (same_references before after (in_name_order (λ order. AreLists order order before) c.self.inside.lists.kept) (in_name_order (λ order. AreLists order order after) c.add_all.new.self.kept)
    (in_name_order (λ order. SameLists order order before after) c.in_err-add_all.ensures.err) ∙ c.self.view_is)

pub returns-clause-ok : goal.returns-clause-ok
returns-clause-ok g c =
    let before = c.self.inside.lists.lists.entries in
    let after = c.add_all.new.self.lists.entries in
    let name = c.args.name in
    let names = c.args.names.now in
    gained before after name names (in_name_order (λ order. AreLists order order before) c.self.inside.lists.kept) (in_name_order (λ order. AreLists order order after) c.add_all.new.self.kept)
    (in_name_order (λ order. Gains order order before after names name) c.in_ok-add_all.ensures.ok) ∙ ap (λ (t : Table). referring t name (name_set (references_at t name ++ names))) c.self.view_is
