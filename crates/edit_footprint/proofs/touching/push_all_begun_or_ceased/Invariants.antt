use Rattle.std.proofs.Common.{◌≡◌, ◌++◌, map, take}
use Rattle.edit_footprint.specs.Touches.{presence_read}
use Rattle.edit_footprint.specs.Inner.Touching.{all_begun_or_ceased}
use Rattle.edit_footprint.proofs.touching.push_all_begun_or_ceased.Given as goal

abbrev pub invariant-loop-change : goal.invariant-loop-change
invariant-loop-change g l = l.touches.items ≡ l.initial.touches.items ++ map presence_read (all_begun_or_ceased (take l.change-index l.rows))
