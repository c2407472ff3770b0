-- Facts about accepted actions.
use Rattle.std.specs.Prelude.{◌≡◌, ◌≢◌, true, not, None, reverse, if◌then◌else◌, filter}
use Rattle.edit_topology.specs.Prelude.{is_sorted-where_key, Rows, rows_but, name_cmp, AreInOrder, AreInOrder-rows_but, AreInOrder-put_row, is_sound, changed-differences, sound_in_order, is_moved, moved_by, at_name, with_tags, with_nodes, with_members, each_row, goes, what_is_left, retagged, AreInOrder-each_row, create_accepted, delete_accepted, move_accepted, purge_accepted, reverse_accepted, nodes_accepted, members_accepted, retag_accepted, join_row, join_accepted, merge_row, merge_accepted, split_row, split_off, split_accepted, AreInOrder-after_unglue, unglue_accepted, is_made_action}
use Rattle.osm_changes.specs.Changes.{changed}
use Rattle.room_interface.specs.declared.action.Action.{Action}
use Rattle.room_interface.specs.declared.action.Action.TheVariants.{Create, Retag, Move, Reverse, Nodes, Members, Delete, Purge, Split, Join, Merge, Unglue}
use Rattle.edit_actions.specs.After.{after, changes}
use Rattle.edit_actions.specs.Refusals.{refusal}

module _ {A : Type 0} where
  -- an accepted action with made values leads from a sound map to another sound map
  pub accepted_keeps_sound : (m : Rows A) (a : Action A) → is_sound m ≡ true → is_made_action a ≡ true → refusal m a ≡ None → (is_sound (after m a) ≡ true) × (after m a ≢ m)
  accepted_keeps_sound m (Create x v) sound made ok = create_accepted m x v sound made ok
  accepted_keeps_sound m (Retag x given) sound made ok = retag_accepted m x given sound made ok
  accepted_keeps_sound m (Move list dlat dlon) sound made ok = move_accepted m list dlat dlon sound ok
  accepted_keeps_sound m (Reverse w) sound made ok = reverse_accepted m w sound ok
  accepted_keeps_sound m (Nodes w list) sound made ok = nodes_accepted m w list sound made ok
  accepted_keeps_sound m (Members r list) sound made ok = members_accepted m r list sound made ok
  accepted_keeps_sound m (Delete x) sound made ok = delete_accepted m x sound ok
  accepted_keeps_sound m (Purge x) sound made ok = purge_accepted m x sound ok
  accepted_keeps_sound m (Split w i v) sound made ok = split_accepted m w i v sound ok
  accepted_keeps_sound m (Join w v) sound made ok = join_accepted m w v sound ok
  accepted_keeps_sound m (Merge k g) sound made ok = merge_accepted m k g sound ok
  accepted_keeps_sound m (Unglue w i v) sound made ok = unglue_accepted m w i v sound ok

  -- the map after an action has its names in order, even if the action is refused
  pub AreInOrder-after : (m : Rows A) (a : Action A) → AreInOrder m → AreInOrder (after m a)
  AreInOrder-after m (Create x v) h = AreInOrder-put_row m x v h
  AreInOrder-after m (Retag x given) h = AreInOrder-each_row (at_name x (with_tags (λ tags. retagged tags given))) m h
  AreInOrder-after m (Move list dlat dlon) h = AreInOrder-each_row (λ n v. if is_moved m list n then moved_by dlat dlon v else v) m h
  AreInOrder-after m (Reverse w) h = AreInOrder-each_row (at_name w (with_nodes reverse)) m h
  AreInOrder-after m (Nodes w list) h = AreInOrder-each_row (at_name w (with_nodes (λ _. list))) m h
  AreInOrder-after m (Members r list) h = AreInOrder-each_row (at_name r (with_members (λ _. list))) m h
  AreInOrder-after m (Delete x) h = AreInOrder-rows_but m x h
  AreInOrder-after m (Purge x) h =
      AreInOrder-each_row (λ _ v. what_is_left m x v) (filter (λ r. not (goes m x r.0)) m) (is_sorted-where_key name_cmp (λ z. not (goes m x z)) m h)
  AreInOrder-after m (Split w i v) h = AreInOrder-put_row (each_row (split_row w i v) m) v (split_off m w i) (AreInOrder-each_row (split_row w i v) m h)
  AreInOrder-after m (Join w v) h = AreInOrder-each_row (join_row m w v) (rows_but v m) (AreInOrder-rows_but m v h)
  AreInOrder-after m (Merge k g) h = AreInOrder-each_row (merge_row m k g) (rows_but g m) (AreInOrder-rows_but m g h)
  AreInOrder-after m (Unglue w i v) h = AreInOrder-after_unglue m w i v h

  -- the changes lead to the map after the action
  pub changes_lead : (m : Rows A) (a : Action A) → is_sound m ≡ true → is_made_action a ≡ true → refusal m a ≡ None → changed m (changes m a) ≡ after m a
  changes_lead m a sound made ok = let order = sound_in_order m sound in changed-differences m (after m a) order (AreInOrder-after m a order)
