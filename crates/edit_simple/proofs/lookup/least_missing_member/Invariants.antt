use Rattle.std.proofs.Common.{◌≡◌, take, map, filter}
use Rattle.edit_simple.specs.Prelude.{least, is_missing}
use Rattle.edit_simple.proofs.lookup.least_missing_member.Given as goal

abbrev pub invariant-loop-member : goal.invariant-loop-member
invariant-loop-member g l = l.least ≡ least (filter (is_missing (g.R.Lookup.rows l.rows) l.new) (map (λ m. m.name) (take l.member-index l.members)))
