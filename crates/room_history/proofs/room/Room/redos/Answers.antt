use Rattle.std.proofs.Common.{ap, ◌∙◌}
use Rattle.room_history.specs.Journals.{redos}
use Rattle.room_history.proofs.Deeds.{redo_deeds}
use Rattle.room_stacks.specs.Stacks as stacks
use Rattle.room_history.proofs.room.Room.redos.Goals as goal

pub returns : goal.returns
returns g c =
    c.redo.ensures ∙ ap (λ ds. stacks.redo ds c.args.author.now) c.self.invariant.deeds_are
    ∙ redo_deeds c.self.inside.entries.items c.args.author.now ∙ ap (λ s. redos s.journal c.args.author.now) c.self.view_is
