use Rattle.std.proofs.Common.{◌≡◌, drop, reverse}
use Rattle.osm_changes.specs.SameRows.{are_same_names}
use Rattle.edit_simple.proofs.reverse.is_palindrome.Given as goal

abbrev pub invariant-loop-place : goal.invariant-loop-place
invariant-loop-place l = are_same_names l.names (reverse l.names) ≡ are_same_names (drop l.place l.names) (drop l.place (reverse l.names))
