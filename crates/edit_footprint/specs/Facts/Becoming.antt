-- The map after an action, row by row, from what the action reads of the map before.
use Rattle.std.specs.Prelude.{◌≡◌, Option, Some, None, reverse, cond, option_map}
use Rattle.edit_actions.specs.Prelude.{Rows, is_same, row_at, row_at-rows_but, row_at-put_row, with_tags, with_nodes, with_members, at_name, goes, what_is_left, row_at-each_row, moves, row_at-after_purge, row_at-each_but, join_row, merge_row, split_row, split_off, row_at-after_split, unglue_row, row_at-after_unglue, row_standing, after}
use Rattle.osm_elements.specs.declared.name.Name.{Name}
use Rattle.osm_elements.specs.declared.element.Element.{Element}
use Rattle.edit_simple.specs.Tagging.{retagged}
use Rattle.room_interface.specs.declared.action.Action.{Action}
use Rattle.room_interface.specs.declared.action.Action.TheVariants.{Create, Retag, Move, Reverse, Nodes, Members, Delete, Purge, Split, Join, Merge, Unglue}

module _ {A : Type 0} where
  -- the row at y after an action; m is the map that the action reads
  abbrev pub becomes : Rows A → Action A → Name → Option (Element A) → Option (Element A)
  becomes m (Create x v) y o = cond (is_same y x) (Some v) o
  becomes m (Retag x given) y o = option_map (at_name x (with_tags (λ tags. retagged tags given)) y) o
  becomes m (Move list dlat dlon) y o = option_map (moves m list dlat dlon y) o
  becomes m (Reverse w) y o = option_map (at_name w (with_nodes reverse) y) o
  becomes m (Nodes w list) y o = option_map (at_name w (with_nodes (λ _. list)) y) o
  becomes m (Members r list) y o = option_map (at_name r (with_members (λ _. list)) y) o
  becomes m (Delete x) y o = cond (is_same y x) None o
  becomes m (Purge x) y o = cond (goes m x y) None (option_map (what_is_left m x) o)
  becomes m (Split w i v) y o = cond (is_same y v) (Some (split_off m w i)) (option_map (split_row w i v y) o)
  becomes m (Join w v) y o = option_map (join_row m w v y) (cond (is_same y v) None o)
  becomes m (Merge k g) y o = option_map (merge_row m k g y) (cond (is_same y g) None o)
  becomes m (Unglue w i v) y o = cond (is_same y v) (row_standing m w i) (option_map (unglue_row w i v y) o)

  pub row_at-after : (m : Rows A) (a : Action A) (y : Name) → row_at (after m a) y ≡ becomes m a y (row_at m y)
  row_at-after m (Create x v) y = row_at-put_row m x v y
  row_at-after m (Retag x given) y = row_at-each_row (at_name x (with_tags (λ tags. retagged tags given))) m y
  row_at-after m (Move list dlat dlon) y = row_at-each_row (moves m list dlat dlon) m y
  row_at-after m (Reverse w) y = row_at-each_row (at_name w (with_nodes reverse)) m y
  row_at-after m (Nodes w list) y = row_at-each_row (at_name w (with_nodes (λ _. list))) m y
  row_at-after m (Members r list) y = row_at-each_row (at_name r (with_members (λ _. list))) m y
  row_at-after m (Delete x) y = row_at-rows_but m x y
  row_at-after m (Purge x) y = row_at-after_purge m x y
  row_at-after m (Split w i v) y = row_at-after_split m w i v y
  row_at-after m (Join w v) y = row_at-each_but m v (join_row m w v) y
  row_at-after m (Merge k g) y = row_at-each_but m g (merge_row m k g) y
  row_at-after m (Unglue w i v) y = row_at-after_unglue m w i v y
