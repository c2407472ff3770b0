use Rattle.std.proofs.Common.{sym, ap, ◌∙◌}
use Rattle.osm_drafts.specs.Prelude.{without_row_is_filter, with_row}
use Rattle.osm_drafts.proofs.draft.put.Goals as goal

pub returns-clause-ok : goal.returns-clause-ok
returns-clause-ok g c =
    c.take_out.ensures.rest ∙ without_row_is_filter c.args.rows.now c.args.name c.take_out.ensures.in_order
    ∙ ap (with_row c.args.rows.now c.args.name) (sym c.in-None.is)
