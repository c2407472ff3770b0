use Rattle.std.proofs.Common.{ap, sym, ◌∙◌}
use Rattle.room_mirror.specs.Prelude.{without_row_is_filter, with_row}
use Rattle.room_mirror.proofs.replacing.replace_one.Goals as goal

pub returns-in-None : goal.returns-in-None
returns-in-None g c =
    c.take_out.ensures.rest ∙ without_row_is_filter c.args.rows.now c.args.row.name c.requires.order ∙ ap (with_row c.args.rows.now c.args.row.name) (sym c.in-None.is)
