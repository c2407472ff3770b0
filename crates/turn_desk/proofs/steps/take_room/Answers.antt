use Rattle.std.proofs.Common.{rules, ap, sym, ◌∙◌, ◌∷◌, Some}
use Rattle.atomic_table.specs.Table.{rest}
use Rattle.turn_desk.proofs.steps.take_room.Goals as goal

pub exchange-requires : goal.exchange-requires
exchange-requires g c = let slot = c.requires.slot in
    (search rules, (Some slot.0, slot.1 ∙ ap (λ cs. (0, Some slot.0) ∷ rest cs) (sym slot.1)))
