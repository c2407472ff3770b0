use Rattle.std.proofs.Common.{◌≡◌, map, take}
use Rattle.room_interface.specs.GivenTags.{given_pair}
use Rattle.edit_simple.specs.Inner.Retagging.{all_removed}
use Rattle.edit_simple.proofs.retagging.remove_tags.Given as goal

abbrev pub invariant-loop-row : goal.invariant-loop-row
invariant-loop-row g l = l.tags ≡ all_removed l.fn.tags (map given_pair (take l.row-index l.given))
