-- The refusal of an action on a map: the first of its checks, in order, that holds. (The rules of the actions are this
-- project's.)
use Rattle.std.specs.Prelude.{List, Option}
use Rattle.edit_topology.specs.Prelude.{Rows, first_that_holds, create_checks, delete_checks, members_checks, move_checks, nodes_checks, purge_checks, retag_checks, reverse_checks, join_checks, merge_checks, split_checks, unglue_checks}
use Rattle.room_interface.specs.declared.refusal.Refusal.{Refusal}
use Rattle.room_interface.specs.declared.action.Action.{Action}
use Rattle.room_interface.specs.declared.action.Action.TheVariants.{Create, Retag, Move, Reverse, Nodes, Members, Delete, Purge, Split, Join, Merge, Unglue}

module _ {A : Type 0} where
  abbrev pub checks : Rows A → Action A → List (Option (Refusal A))
  checks m (Create x v) = create_checks m x v
  checks m (Retag x given) = retag_checks m x given
  checks m (Move list dlat dlon) = move_checks m list dlat dlon
  checks m (Reverse w) = reverse_checks m w
  checks m (Nodes w list) = nodes_checks m w list
  checks m (Members r list) = members_checks m r list
  checks m (Delete x) = delete_checks m x
  checks m (Purge x) = purge_checks m x
  checks m (Split w i v) = split_checks m w i v
  checks m (Join w v) = join_checks m w v
  checks m (Merge k g) = merge_checks m k g
  checks m (Unglue w i v) = unglue_checks m w i v

  -- the refusal of an action on a map, or `None` if the action is accepted
  abbrev pub refusal : Rows A → Action A → Option (Refusal A)
  refusal m a = first_that_holds (checks m a)
