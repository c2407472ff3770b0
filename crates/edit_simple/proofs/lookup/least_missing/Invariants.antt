use Rattle.std.proofs.Common.{◌≡◌, take, filter}
use Rattle.edit_simple.specs.Prelude.{least, is_missing}
use Rattle.edit_simple.proofs.lookup.least_missing.Given as goal

abbrev pub invariant-loop-name : goal.invariant-loop-name
invariant-loop-name g l = l.least ≡ least (filter (is_missing (g.R.Lookup.rows l.rows) l.new) (take l.name-index l.names))
