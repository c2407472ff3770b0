use Rattle.room_history.specs.Replays.{mapof}
use Rattle.room_mirror.proofs.FromCalls.{ids_of_names}
use Rattle.room_mirror.proofs.NamesKept.{ids_of_base, ids_of_map}
use Rattle.room_mirror.proofs.laws.actions_create_no_other_ids.Goals as goal

pub returns : goal.returns
returns c = λ base limit j sound legal ids brought.
    ids_of_names (mapof base j) (ids_of_map base j (ids_of_base base ids) brought (c.journals_hold.ensures base limit j sound legal).replayed)
