use Rattle.std.proofs.Common.{ap, ◌∙◌}
use Rattle.room_history.specs.Journals.{undos}
use Rattle.room_history.proofs.Deeds.{standing_deeds}
use Rattle.room_stacks.specs.Stacks as stacks
use Rattle.room_history.proofs.room.Room.undos.Goals as goal

pub returns : goal.returns
returns g c =
    c.standing.ensures.numbers ∙ ap (λ ds. stacks.standing ds c.args.author.now) c.self.invariant.deeds_are
    ∙ standing_deeds c.self.inside.entries.items c.args.author.now ∙ ap (λ s. undos s.journal c.args.author.now) c.self.view_is
