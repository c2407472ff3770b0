-- One row of a move.
use Rattle.std.specs.Prelude.{ℤ, Bool, false, List, [], ◌∷◌, Option, Some, None, flat_map, option_map}
use Rattle.room_interface.specs.Prelude.{Rows, row_at}
use Rattle.osm_elements.specs.declared.name.Name.{Name}
use Rattle.osm_elements.specs.declared.element.Element.{Element}
use Rattle.osm_elements.specs.declared.element.Element.TheVariants.{Node, Way, Relation}
use Rattle.edit_simple.specs.Move.{moved_by, is_out_of_range}

module _ {A : Type 0} where
  -- the nodes that a listed name moves, given its row: itself, or the nodes of the way
  abbrev pub moved_with : Name → Option (Element A) → List Name
  moved_with x None = []
  moved_with x (Some (Node lat lon tags)) = x ∷ []
  moved_with x (Some (Way nodes tags)) = nodes
  moved_with x (Some (Relation members tags)) = []

  abbrev pub all_moved : Rows A → List Name → List Name
  all_moved m list = flat_map (λ x. moved_with x (row_at m x)) list

  -- the row would leave the range
  abbrev pub row_leaves : ℤ → ℤ → Option (Element A) → Bool
  row_leaves dlat dlon None = false
  row_leaves dlat dlon (Some v) = is_out_of_range (moved_by dlat dlon v)

  -- the row of a moved name after the move
  abbrev pub moved_row : Rows A → ℤ → ℤ → Name → Option (Element A)
  moved_row m dlat dlon y = option_map (moved_by dlat dlon) (row_at m y)
