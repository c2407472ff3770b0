use Rattle.std.proofs.Common.{◌≡◌, None, take, find}
use Rattle.osm_elements.specs.Rows.{row_at}
use Rattle.edit_topology.specs.Inner.Merging.{is_cut_short}
use Rattle.edit_topology.proofs.merge.first_cut_short.Given as goal

abbrev pub invariant-loop-user : goal.invariant-loop-user
invariant-loop-user g l = find (λ u. is_cut_short l.name l.other (row_at l.rows u)) (take l.user-index l.its_users) ≡ None
