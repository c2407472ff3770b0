-- What an action does not change, and when two maps accept it with the same changes. (Footprints are this project's.)
use Rattle.std.specs.Prelude.{◌≡◌, false, None}
use Rattle.edit_actions.specs.Prelude.{Rows, users, half_at, after, changes, refusal}
use Rattle.osm_changes.specs.Prelude.{is_present}
use Rattle.osm_elements.specs.declared.name.Name.{Name}
use Rattle.osm_changes.specs.declared.cell.Cell.{Cell}
use Rattle.room_interface.specs.declared.action.Action.{Action}
use Rattle.edit_footprint.specs.Footprints.{footprint, writes_presence, reaches_presence, writes}

module _ {A : Type 0} where
  -- a cell that the footprint does not write has the same half before and after; an element whose presence it does not
  -- write is present after if it was before; and a name whose presence it neither reads nor writes has the same users
  pub record LeavesTheRest (m : Rows A) (a : Action A) : Type 0 where
    pub same_half : (c : Cell) → writes (footprint m a) c ≡ false → half_at (after m a) c ≡ half_at m c
    pub same_presence : (x : Name) → writes_presence (footprint m a) x ≡ false → is_present (after m a) x ≡ is_present m x
    pub same_users : (x : Name) → reaches_presence (footprint m a) x ≡ false → users (after m a) x ≡ users m x

  -- the action is accepted in n, with the changes and the footprint that it has in m
  pub record AcceptedAlike (m n : Rows A) (a : Action A) : Type 0 where
    pub accepted : refusal n a ≡ None
    pub same_changes : changes n a ≡ changes m a
    pub same_footprint : footprint n a ≡ footprint m a
