use Rattle.std.proofs.Common.{ap, ◌∙◌}
use Rattle.osm_changes.specs.Changes.{changes_of}
use Rattle.room_history.proofs.kept.effect_of.Goals as goal

pub returns-clause-changes : goal.returns-clause-changes
returns-clause-changes g c =
    ap changes_of c.in_ok-rows.ensures ∙ c.changes_are_those_of_rows.ensures c.args.store.now.rows c.args.changes c.rows.ensures.changes c.requires
