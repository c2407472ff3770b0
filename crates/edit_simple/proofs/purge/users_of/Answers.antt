use Rattle.std.proofs.Common.{sym, ◌∙◌}
use Rattle.osm_refs.specs.Facts.MapTables.{users_in-table_of}
use Rattle.edit_simple.proofs.purge.users_of.Goals as goal

pub returns : goal.returns
returns g c = c.in_ok-names.ensures ∙ sym (users_in-table_of c.args.rows.now c.args.name.now)
