-- The action that deletes an element. (OpenStreetMap API v0.6: an element in use is not deleted.)
use Rattle.std.specs.Prelude.{List, [], ◌∷◌, Option}
use Rattle.osm_drafts.specs.Prelude.{then_some, Rows, is_absent, rows_but, users}
use Rattle.osm_elements.specs.declared.name.Name.{Name}
use Rattle.room_interface.specs.declared.refusal.Refusal.{Refusal}
use Rattle.room_interface.specs.declared.refusal.Refusal.TheVariants.{Absent, InUse}
use Rattle.edit_simple.specs.Checks.{the_least}

module _ {A : Type 0} where
  -- the map does not have the element, or an element refers to it, maybe itself
  abbrev pub delete_checks : Rows A → Name → List (Option (Refusal A))
  delete_checks m x =
      then_some (is_absent m x) (Absent x)
      ∷ the_least (InUse x) (users m x)
      ∷ []

  -- the map without the element
  abbrev pub after_delete : Rows A → Name → Rows A
  after_delete m x = rows_but x m
