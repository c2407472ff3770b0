-- The action that reverses a way. (OpenStreetMap wiki, "Elements": a way is an ordered list of nodes.)
use Rattle.std.specs.Prelude.{not, List, [], ◌∷◌, Option, reverse}
use Rattle.osm_drafts.specs.Prelude.{then_some, Rows, is_absent, row_at, are_same_names}
use Rattle.osm_elements.specs.declared.name.Name.{Name}
use Rattle.room_interface.specs.declared.refusal.Refusal.{Refusal}
use Rattle.room_interface.specs.declared.refusal.Refusal.TheVariants.{Absent, WrongKind, Nothing}
use Rattle.edit_simple.specs.Kinds.{is_way}
use Rattle.edit_simple.specs.Contents.{nodes_of, with_nodes, each_row, at_name}

module _ {A : Type 0} where
  -- the name is not a way's, or is absent, or the nodes are the same backwards
  abbrev pub reverse_checks : Rows A → Name → List (Option (Refusal A))
  reverse_checks m w =
      then_some (not (is_way w.kind)) (WrongKind w)
      ∷ then_some (is_absent m w) (Absent w)
      ∷ then_some (are_same_names (nodes_of (row_at m w)) (reverse (nodes_of (row_at m w)))) Nothing
      ∷ []

  -- the map in which the nodes of w are reversed
  abbrev pub after_reverse : Rows A → Name → Rows A
  after_reverse m w = each_row (at_name w (with_nodes reverse)) m
