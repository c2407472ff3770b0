-- Every action looks only at its footprint.
use Rattle.std.specs.Prelude.{◌≡◌, true, None}
use Rattle.edit_actions.specs.Prelude.{Rows, is_sound, refusal}
use Rattle.room_interface.specs.declared.action.Action.{Action}
use Rattle.room_interface.specs.declared.action.Action.TheVariants.{Create, Retag, Move, Reverse, Nodes, Members, Delete, Purge, Split, Join, Merge, Unglue}
use Rattle.edit_footprint.specs.Agreement.{Agree}
use Rattle.edit_footprint.specs.Footprints.{footprint}
use Rattle.edit_footprint.specs.Locality.{AcceptedAlike}
use Rattle.edit_footprint.specs.Facts.AcceptedAlike.{IsLocal}
use Rattle.edit_footprint.specs.Facts.Joining.{join_local}
use Rattle.edit_footprint.specs.Facts.Merging.{merge_local}
use Rattle.edit_footprint.specs.Facts.Moving.{move_local}
use Rattle.edit_footprint.specs.Facts.OneRow.{create_local, retag_local, reverse_local, nodes_local, members_local, delete_local}
use Rattle.edit_footprint.specs.Facts.Purging.{purge_local}
use Rattle.edit_footprint.specs.Facts.Splitting.{split_local}
use Rattle.edit_footprint.specs.Facts.Ungluing.{unglue_local}

module _ {A : Type 0} where
  each_local : (a : Action A) → IsLocal a
  each_local (Create x v) = create_local x v
  each_local (Retag x given) = retag_local x given
  each_local (Move list dlat dlon) = move_local list dlat dlon
  each_local (Reverse w) = reverse_local w
  each_local (Nodes w list) = nodes_local w list
  each_local (Members r list) = members_local r list
  each_local (Delete x) = delete_local x
  each_local (Purge x) = purge_local x
  each_local (Split w i v) = split_local w i v
  each_local (Join w v) = join_local w v
  each_local (Merge k g) = merge_local k g
  each_local (Unglue w i v) = unglue_local w i v

  pub locality : (m n : Rows A) (a : Action A) → is_sound m ≡ true → is_sound n ≡ true → refusal m a ≡ None → Agree m n (footprint m a) → AcceptedAlike m n a
  locality m n a = each_local a m n
