-- The first row of a map that is not sound. (OpenStreetMap API v0.6: no element refers to an absent element. The limits
-- and the order of the checks are this project's.)
use Rattle.std.specs.Prelude.{◌≡◌, true, false, Some}
use Rattle.osm_drafts.specs.Prelude.{is_lt, name_cmp, Rows, row_at, is_sound_row}
use Rattle.osm_elements.specs.declared.name.Name.{Name}
use Rattle.osm_elements.specs.declared.element.Element.{Element}
use Rattle.room_interface.specs.declared.refusal.Refusal.{Refusal}
use Rattle.edit_simple.specs.Checks.{first_that_holds}
use Rattle.edit_simple.specs.Create.{list_checks}

module _ {A : Type 0} where
  -- x is the least name whose row is not sound, and why is the row's first fault: of its length, or of an absent name
  -- that it refers to
  pub record IsFirstUnsound (m : Rows A) (x : Name) (why : Refusal A) : Type 0 where
    pub element : Element A
    pub there : row_at m x ≡ Some element
    pub unsound : is_sound_row m x element ≡ false
    pub reason : first_that_holds (list_checks m x element) ≡ Some why
    pub first : (y : Name) (v : Element A) → row_at m y ≡ Some v → is_lt (name_cmp y x) ≡ true
        → is_sound_row m y v ≡ true
