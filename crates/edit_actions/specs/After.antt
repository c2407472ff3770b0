-- The map after an accepted action, and the action's changes. (The rules of the actions are this project's.)
use Rattle.std.specs.Prelude.{List}
use Rattle.edit_topology.specs.Prelude.{Rows, differences, after_create, after_delete, after_members, after_move, after_nodes, after_purge, after_retag, after_reverse, after_join, after_merge, after_split, after_unglue}
use Rattle.osm_changes.specs.declared.change.Change.{Change}
use Rattle.room_interface.specs.declared.action.Action.{Action}
use Rattle.room_interface.specs.declared.action.Action.TheVariants.{Create, Retag, Move, Reverse, Nodes, Members, Delete, Purge, Split, Join, Merge, Unglue}

module _ {A : Type 0} where
  abbrev pub after : Rows A → Action A → Rows A
  after m (Create x v) = after_create m x v
  after m (Retag x given) = after_retag m x given
  after m (Move list dlat dlon) = after_move m list dlat dlon
  after m (Reverse w) = after_reverse m w
  after m (Nodes w list) = after_nodes m w list
  after m (Members r list) = after_members m r list
  after m (Delete x) = after_delete m x
  after m (Purge x) = after_purge m x
  after m (Split w i v) = after_split m w i v
  after m (Join w v) = after_join m w v
  after m (Merge k g) = after_merge m k g
  after m (Unglue w i v) = after_unglue m w i v

  -- the changes of an action: the differences between the map and the map after the action
  abbrev pub changes : Rows A → Action A → List (Change A)
  changes m a = differences m (after m a)
