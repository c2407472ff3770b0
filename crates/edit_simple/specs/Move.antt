-- The action that moves nodes and ways by a distance. (OpenStreetMap API v0.6: a node's latitude and longitude, and
-- their ranges.)
use Rattle.std.specs.Prelude.{◌&&◌, ◌||◌, ◌+ℤ◌, Bool, false, not, ℤ, pos, List, [], ◌∷◌, Option, is_some, length, nat_eq, if◌then◌else◌, filter}
use Rattle.room_interface.specs.Prelude.{then_some, list_any, int_eq, latitude, longitude, is_node, Rows, is_among, is_absent, names_of, row_at}
use Rattle.osm_elements.specs.declared.name.Name.{Name}
use Rattle.osm_elements.specs.declared.element.Element.{Element}
use Rattle.osm_elements.specs.declared.element.Element.TheVariants.{Node, Way, Relation}
use Rattle.room_interface.specs.declared.refusal.Refusal.{Refusal}
use Rattle.room_interface.specs.declared.refusal.Refusal.TheVariants.{Absent, WrongKind, OutOfRange, Nothing}
use Rattle.edit_simple.specs.Checks.{the_least}
use Rattle.edit_simple.specs.Kinds.{is_relation}
use Rattle.edit_simple.specs.Contents.{nodes_of, each_row}

module _ {A : Type 0} where
  -- n is a node that is listed, or a node of a listed way
  abbrev pub is_moved : Rows A → List Name → Name → Bool
  is_moved m list n = is_node n.kind && (is_among list n || list_any (λ w. is_among (nodes_of (row_at m w)) n) list)

  abbrev pub moved_by : ℤ → ℤ → Element A → Element A
  moved_by dlat dlon (Node lat lon tags) = Node (lat +ℤ dlat) (lon +ℤ dlon) tags
  moved_by dlat dlon (Way nodes tags) = Way nodes tags
  moved_by dlat dlon (Relation members tags) = Relation members tags

  abbrev pub is_out_of_range : Element A → Bool
  is_out_of_range (Node lat lon tags) = not (is_some (latitude lat) && is_some (longitude lon))
  is_out_of_range (Way nodes tags) = false
  is_out_of_range (Relation members tags) = false

  -- the moved nodes that would leave the range
  abbrev pub left_range : Rows A → List Name → ℤ → ℤ → List Name
  left_range m list dlat dlon =
      names_of (filter (λ r. is_moved m list r.0 && is_out_of_range (moved_by dlat dlon r.1)) m)

  -- a relation is listed, or an absent name, or a moved node leaves the range, or the list is empty, or the distance is
  -- 0
  abbrev pub move_checks : Rows A → List Name → ℤ → ℤ → List (Option (Refusal A))
  move_checks m list dlat dlon =
      the_least WrongKind (filter (λ e. is_relation e.kind) list)
      ∷ the_least Absent (filter (is_absent m) list)
      ∷ the_least OutOfRange (left_range m list dlat dlon)
      ∷ then_some (nat_eq (length list) 0 || (int_eq dlat (pos 0) && int_eq dlon (pos 0))) Nothing
      ∷ []

  -- an element after the move: a moved node has a new position
  abbrev pub moves : Rows A → List Name → ℤ → ℤ → Name → Element A → Element A
  moves m list dlat dlon y v = if is_moved m list y then moved_by dlat dlon v else v

  -- the map in which each listed node, and each node of each listed way, is moved once, however often it is listed
  abbrev pub after_move : Rows A → List Name → ℤ → ℤ → Rows A
  after_move m list dlat dlon = each_row (moves m list dlat dlon) m
