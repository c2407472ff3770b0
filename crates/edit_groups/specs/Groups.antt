-- A group of actions on a map: its refusal, the map after it, its changes and its footprint. (Groups are this
-- project's.)
use Rattle.std.specs.Prelude.{◌+◌, ◌++◌, ℕ, List, [], ◌∷◌, Option, Some, None}
use Rattle.edit_footprint.specs.Prelude.{Rows, differences, after, refusal, footprint, at_position}
use Rattle.room_interface.specs.Groups.{alone}
use Rattle.edit_footprint.specs.Touches.{Touch}
use Rattle.osm_changes.specs.declared.change.Change.{Change}
use Rattle.room_interface.specs.declared.refusal.Refusal.{Refusal}
use Rattle.room_interface.specs.declared.refusal.Refusal.TheVariants.{Nothing}
use Rattle.room_interface.specs.declared.action.Action.{Action}
use Rattle.room_interface.specs.declared.edit_refusal.EditRefusal.{EditRefusal}

module _ {A : Type 0} where
  -- the map after actions in order
  abbrev pub after_all : Rows A → List (Action A) → Rows A
  after_all m [] = m
  after_all m (a ∷ rest) = after_all (after m a) rest

  -- the refusal of the action at position k, or else the result of the later actions
  abbrev pub refused_at : ℕ → Option (Refusal A) → Option (EditRefusal A) → Option (EditRefusal A)
  refused_at k (Some why) later = Some (at_position k why)
  refused_at k None later = later

  -- the first action that is refused on the map that the previous ones lead to, with its position, counted from k
  abbrev pub first_refused : Rows A → ℕ → List (Action A) → Option (EditRefusal A)
  first_refused m k [] = None
  first_refused m k (a ∷ rest) = refused_at k (refusal m a) (first_refused (after m a) (k + 1) rest)

  -- the changes of a group: from the map before it to the map after all of it
  abbrev pub group_changes : Rows A → List (Action A) → List (Change A)
  group_changes m g = differences m (after_all m g)

  -- the refusal `Nothing`, if there are no changes
  abbrev pub nothing_changed : List (Change A) → Option (EditRefusal A)
  nothing_changed [] = Some (alone Nothing)
  nothing_changed (c ∷ cs) = None

  abbrev pub refused_or : Option (EditRefusal A) → Option (EditRefusal A) → Option (EditRefusal A)
  refused_or (Some r) later = Some r
  refused_or None later = later

  -- the refusal of a group: that of its first refused action, or `Nothing` if the whole group changes nothing
  abbrev pub group_refusal : Rows A → List (Action A) → Option (EditRefusal A)
  group_refusal m g = refused_or (first_refused m 0 g) (nothing_changed (group_changes m g))

  -- the touches of the actions, each on the map that the previous ones lead to
  abbrev pub touched : Rows A → List (Action A) → List Touch
  touched m [] = []
  touched m (a ∷ rest) = footprint m a ++ touched (after m a) rest
