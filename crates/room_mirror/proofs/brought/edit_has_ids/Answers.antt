use Rattle.std.proofs.Common.{All, sym, subst}
use Rattle.room_mirror.specs.Clients.{HasEditIds, HasIds}
use Rattle.room_mirror.proofs.FromCalls.{all_have_ids}
use Rattle.room_mirror.proofs.brought.edit_has_ids.Goals as goal

pub returns-in-Group : goal.returns-in-Group
returns-in-Group c = subst HasEditIds (sym c.in-Group.is) (all_have_ids c.in-Group.actions (subst (All HasIds) c.as_slice.ensures.actions c.actions_have_ids.ensures))
