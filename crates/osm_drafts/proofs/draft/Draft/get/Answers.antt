use Rattle.std.proofs.Common.{ap, ◌∙◌}
use Rattle.osm_drafts.specs.Prelude.{row_at, row_written, row_unwritten}
use Rattle.osm_drafts.proofs.draft.Draft.get.Goals as goal

pub returns-then-is_written : goal.returns-then-is_written
returns-then-is_written g c =
    c.get.ensures
    ∙ row_written c.self.inside.store.now.rows c.self.inside.written.keys c.self.inside.here c.args.name.now c.self.invariant.order c.self.invariant.inside c.if-is_written.ensures
    ∙ ap (λ m. row_at m c.args.name.now) c.self.view_is

pub returns-else-is_written : goal.returns-else-is_written
returns-else-is_written g c =
    c.get-else-is_written.ensures ∙ ap (λ m. row_at m c.args.name.now) c.map-rows.ensures.map
    ∙ row_unwritten c.self.inside.store.now.rows c.self.inside.written.keys c.self.inside.here c.args.name.now c.self.invariant.order c.self.invariant.inside c.if-is_written.ensures
    ∙ ap (λ m. row_at m c.args.name.now) c.self.view_is
