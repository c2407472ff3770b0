use Rattle.std.proofs.Common.{◌<◌, cond, length, arith, ap, ◌∙◌, rules}
use Rattle.edit_footprint.specs.Touches.{is_same_touch}
use Rattle.room_history.specs.Inner.Changers.{changed_again, last_at}
use Rattle.room_history.proofs.NotingChanges.{one_more}
use Rattle.room_history.proofs.changers.note_all.Goals as goal

pub note-requires : goal.note-requires
note-requires g c =
    let within : c.loop-change.change-index < length c.args.changes.now = search rules in
    let enough = c.loop-change.invariant.0 in
    omega (arith, within, enough)

pub loop-change-preserved : goal.loop-change-preserved
loop-change-preserved g c =
    let cs = c.args.changes.now in
    let i = c.loop-change.change-index in
    let within : i < length cs = search rules in
    let enough = c.loop-change.invariant.0 in
    let used = c.note.ensures.room in (
      omega (arith, enough, used),
      one_more c.args.entries.now c.args.author.now c.args.seq cs i c.change-item.result within c.change-item.is c.args.table.now.entries c.loop-change.table.entries c.note.new.table.entries c.loop-change.invariant.1
          (λ t. c.note.ensures.last t ∙ ap (λ u. cond (is_same_touch t u) (changed_again c.args.entries.now c.args.author.now c.args.seq (last_at c.loop-change.table.entries t)) (last_at c.loop-change.table.entries t)) c.written_by.ensures),
    )
