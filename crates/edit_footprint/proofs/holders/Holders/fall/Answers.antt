use Rattle.std.proofs.Common.{◌∙◌, ap}
use Rattle.edit_footprint.specs.Holding.{Held, fallen}
use Rattle.edit_footprint.proofs.Keeping.{falls}
use Rattle.edit_footprint.proofs.holders.Holders.fall.Goals as goal

pub returns : goal.returns
returns g c =
    let lost = rw c.touches.ensures.touches at c.take_out_all.ensures in
    let only = rw (← c.self.view_is) at c.requires in
    falls c.self.inside.lists.lists.entries c.take_out_all.new.self.lists.entries c.args.footprint.now c.args.seq c.self.inside.lists.kept c.take_out_all.new.self.kept only lost
    ∙ ap (λ (held : Held). fallen held c.args.seq) c.self.view_is
