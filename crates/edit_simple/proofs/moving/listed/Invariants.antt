use Rattle.std.proofs.Common.{◌≡◌, take}
use Rattle.edit_simple.specs.Inner.Moving.{all_moved}
use Rattle.edit_simple.proofs.moving.listed.Given as goal

abbrev pub invariant-loop-name : goal.invariant-loop-name
invariant-loop-name g l = l.moved.items ≡ all_moved l.rows (take l.name-index l.names)
