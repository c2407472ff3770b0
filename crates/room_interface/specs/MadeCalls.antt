-- Values of actions, edits and calls that their types allow. (The limits are this project's.)
use Rattle.std.specs.Prelude.{◌&&◌, Bool, true, List, [], ◌∷◌}
use Rattle.osm_elements.specs.Prelude.{are_nodes, is_made, are_members}
use Rattle.room_interface.specs.GivenTags.{are_given}
use Rattle.room_interface.specs.declared.action.Action.{Action}
use Rattle.room_interface.specs.declared.action.Action.TheVariants.{Create, Retag, Move, Reverse, Nodes, Members, Delete, Purge, Split, Join, Merge, Unglue}
use Rattle.room_interface.specs.declared.ask.RoomCall.{RoomCall}
use Rattle.room_interface.specs.declared.call.Request.{Request}
use Rattle.room_interface.specs.declared.edit.Edit.{Edit}
use Rattle.room_interface.specs.declared.edit.Edit.TheVariants.{One, Group}
use Rattle.room_interface.specs.declared.ask.RoomCall.TheVariants as asked
use Rattle.room_interface.specs.declared.call.Request.TheVariants as requests

-- the values of an action are made: their types could hold them
abbrev pub is_made_action : {A : Type 0} → Action A → Bool
is_made_action (Create x v) = is_made v
is_made_action (Retag x given) = are_given given
is_made_action (Move list dlat dlon) = true
is_made_action (Reverse w) = true
is_made_action (Nodes w list) = are_nodes list
is_made_action (Members r list) = are_members list
is_made_action (Delete x) = true
is_made_action (Purge x) = true
is_made_action (Split w i v) = true
is_made_action (Join w v) = true
is_made_action (Merge k g) = true
is_made_action (Unglue w i v) = true

module _ {A : Type 0} where
  abbrev pub are_made : List (Action A) → Bool
  are_made [] = true
  are_made (a ∷ rest) = is_made_action a && are_made rest

  -- the values of an edit are made
  abbrev pub is_made_edit : Edit A → Bool
  is_made_edit (One a) = is_made_action a
  is_made_edit (Group g) = are_made g

  -- the values of a request are made
  abbrev pub is_made_request : Request A → Bool
  is_made_request (requests.Do e since) = is_made_edit e
  is_made_request (requests.Undo s) = true
  is_made_request requests.Redo = true

  -- the values of a call or a query are made
  abbrev pub is_made_room_call : RoomCall A → Bool
  is_made_room_call (asked.Take c) = is_made_request c.request
  is_made_room_call (asked.Get x) = true
  is_made_room_call asked.Rows = true
  is_made_room_call (asked.Undos author) = true
  is_made_room_call (asked.News from) = true
