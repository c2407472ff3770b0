use Rattle.room_mirror.proofs.Following.{mirror_follows}
use Rattle.room_mirror.proofs.laws.mirrors_follow.Goals as goal

pub returns : goal.returns
returns g c = λ base limit j a b sound legal l m.
    mirror_follows base limit j sound legal c.entries_change_their_maps.ensures.changes c.entries_change_their_maps.ensures.from c.entries_change_their_maps.ensures.leads a b l m
