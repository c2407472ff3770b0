-- The definitions of actions for edits: one action, or a group. (Groups are this project's.)
use Rattle.std.specs.Prelude.{List, Option, Some, None}
use Rattle.edit_actions.specs.Prelude.{Rows, differences, alone}
use Rattle.osm_changes.specs.declared.change.Change.{Change}
use Rattle.room_interface.specs.declared.refusal.Refusal.{Refusal}
use Rattle.room_interface.specs.declared.edit.Edit.{Edit}
use Rattle.room_interface.specs.declared.edit.Edit.TheVariants.{One, Group}
use Rattle.room_interface.specs.declared.edit_refusal.EditRefusal.{EditRefusal}
use Rattle.edit_footprint.specs.Touches.{Touch, touch_set}
use Rattle.edit_groups.specs.Groups.{after_all, group_refusal, touched}
use Rattle.edit_actions.specs.After as actions
use Rattle.edit_actions.specs.Refusals as of_actions
use Rattle.edit_footprint.specs.Footprints as of_one

module _ {A : Type 0} where
  abbrev pub after : Rows A → Edit A → Rows A
  after m (One a) = actions.after m a
  after m (Group g) = after_all m g

  -- the changes of an edit
  abbrev pub changes : Rows A → Edit A → List (Change A)
  changes m e = differences m (after m e)

  -- the refusal of one action, which has no position
  abbrev pub refused_alone : Option (Refusal A) → Option (EditRefusal A)
  refused_alone None = None
  refused_alone (Some why) = Some (alone why)

  -- the refusal of an edit, with the position of the action in a group; `None` if the edit is accepted
  abbrev pub refusal : Rows A → Edit A → Option (EditRefusal A)
  refusal m (One a) = refused_alone (of_actions.refusal m a)
  refusal m (Group g) = group_refusal m g

  -- the footprint of an edit on a map; that of a group has the touches of each action on its map
  abbrev pub footprint : Rows A → Edit A → List Touch
  footprint m (One a) = of_one.footprint m a
  footprint m (Group g) = touch_set (touched m g)
