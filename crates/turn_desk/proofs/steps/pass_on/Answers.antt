use Rattle.std.proofs.Common.{rules}
use Rattle.turn_desk.proofs.Passing.{passes_on}
use Rattle.turn_desk.proofs.steps.pass_on.Goals as goal

pub fetch_add-served-requires : goal.fetch_add-served-requires
fetch_add-served-requires g c = let turn = c.requires.turn in let room = c.requires.room in
    (search rules, search rules, passes_on g.R.Turned.fixed g.R.Turned.list g.R.Turned.answers _ _ _ _ room.0 _ c.requires.seat.1.1 c.requires.seat.2 turn.1 room.1 room.2)
