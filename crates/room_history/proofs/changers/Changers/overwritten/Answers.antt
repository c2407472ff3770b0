use Rattle.std.proofs.Common.{◌+◌, ◌<◌, ℕ, Option, List, length, take, sym, ap, subst, ◌∙◌, rules}
use Rattle.osm_changes.specs.Prelude.{Name, Cell, cell_of, changed_cells}
use Rattle.room_history.specs.Inner.Changers.{IsOutcome, changer, later}
use Rattle.room_history.proofs.CellsInTurn.{before_it, next_cells}
use Rattle.room_history.proofs.LaterOutcomes.{later_outcome}
use Rattle.room_history.proofs.changers.Changers.overwritten.Goals as goal

pub loop-change-preserved : goal.loop-change-preserved
loop-change-preserved g c =
    let cs = c.args.changes.now in
    let i = c.loop-change.change-index in
    let d = c.change-item.result in
    let within : i < length cs = search rules in
    let before = c.loop-change.found in
    subst (λ (o : Option (ℕ × Name)). IsOutcome c.args.since (changer c.args.entries.now c.args.author.now c.args.self.now.rows) (changed_cells (take (i + 1) cs)) o)
    (sym (c.later-found.ensures ∙ ap (λ m. later c.args.since before m d.name) c.changer.ensures))
    (subst (λ (l : List Cell). IsOutcome c.args.since (changer c.args.entries.now c.args.author.now c.args.self.now.rows) l
    (later c.args.since before (changer c.args.entries.now c.args.author.now c.args.self.now.rows (cell_of d)) d.name)) (sym (next_cells cs i d within c.change-item.is))
    (later_outcome c.args.since (changer c.args.entries.now c.args.author.now c.args.self.now.rows) (changed_cells (take i cs)) (cell_of d)
    (before_it cs i d c.requires within c.change-item.is) before c.loop-change.invariant))
