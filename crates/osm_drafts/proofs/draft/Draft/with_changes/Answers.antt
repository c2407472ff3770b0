use Rattle.std.proofs.Common.{ap, ◌∙◌, fold}
use Rattle.osm_drafts.specs.Prelude.{with_row, changed_rows, with_changed_rows}
use Rattle.osm_drafts.proofs.draft.Draft.with_changes.Goals as goal

pub returns : goal.returns
returns g c =
    c.in_ok-with_rows.ensures
    ∙ ap (fold (λ n r. with_row n r.name r.after) c.args.self) (c.in_ok-rows.ensures ∙ ap (changed_rows c.args.self) c.rows.ensures.rows)
    ∙ with_changed_rows c.args.self c.args.changes.now
