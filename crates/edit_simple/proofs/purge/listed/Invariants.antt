use Rattle.std.proofs.Common.{◌≡◌, ◌∷◌, take, flat_map}
use Rattle.osm_refs.specs.Tables.{table_of}
use Rattle.edit_simple.specs.Inner.Purging.{reached_with}
use Rattle.edit_simple.proofs.purge.listed.Given as goal

abbrev pub invariant-loop-user : goal.invariant-loop-user
invariant-loop-user g l = l.reached.items ≡ l.purged ∷ flat_map (reached_with (table_of l.rows) l.gone.keys) (take l.user-index l.user-items)
