use Rattle.std.proofs.Common.{◌≡◌, ◌++◌, drop, length}
use Rattle.osm_coords.specs.Written.{last_digits}
use Rattle.osm_coords.proofs.decimal.write_digits.Given as goal

abbrev pub invariant-loop-i : goal.invariant-loop-i
invariant-loop-i l = last_digits l.i l.number ++ drop l.i l.digits ≡ last_digits (length l.digits) l.fn.number
