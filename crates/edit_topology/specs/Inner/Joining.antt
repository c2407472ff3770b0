-- A join, check by check and row by row.
use Rattle.std.specs.Prelude.{not, List, [], ◌∷◌, Option, Some, None, length, nat_lt, if◌then◌else◌, option_map}
use Rattle.edit_simple.specs.Prelude.{then_some, Rows, is_same, row_at, most_nodes, is_way, nodes_of, row_tags, with_members}
use Rattle.osm_elements.specs.declared.name.Name.{Name}
use Rattle.osm_elements.specs.declared.element.Element.{Element}
use Rattle.osm_elements.specs.declared.element.Element.TheVariants.{Way}
use Rattle.room_interface.specs.declared.refusal.Refusal.{Refusal}
use Rattle.room_interface.specs.declared.refusal.Refusal.TheVariants.{WrongKind, Same, NotEndToEnd, TooMany}
use Rattle.edit_topology.specs.BothTags.{both_tags}
use Rattle.edit_topology.specs.Join.{meet_end_to_end, end_to_end, joined_members}

module _ {A : Type 0} where
  -- both names are ways' and differ
  abbrev pub name_checks : Name → Name → List (Option (Refusal A))
  name_checks w v =
      then_some (not (is_way w.kind)) (WrongKind w) ∷ then_some (not (is_way v.kind)) (WrongKind v)
      ∷ then_some (is_same w v) (Same w) ∷ []

  -- one list ends where the other begins, and together they are not too long
  abbrev pub list_checks : Name → List Name → List Name → List (Option (Refusal A))
  list_checks w one other =
      then_some (not (meet_end_to_end one other)) NotEndToEnd
      ∷ then_some (nat_lt most_nodes (length (end_to_end one other))) (TooMany w) ∷ []

  -- the joined way
  abbrev pub way_of_both : Rows A → Name → Name → Element A
  way_of_both m w v =
      Way (end_to_end (nodes_of (row_at m w)) (nodes_of (row_at m v)))
      (both_tags (row_tags (row_at m w)) (row_tags (row_at m v)))

  -- the row o of y after the join, if w becomes `joined`
  abbrev pub joined_row : Name → Name → Element A → Name → Option (Element A) → Option (Element A)
  joined_row w v joined y o =
      if is_same y w then Some joined
      else (if is_same y v then None else option_map (with_members (joined_members w v)) o)

  -- the row of y after the join
  abbrev pub row_joined : Rows A → Name → Name → Element A → Name → Option (Element A)
  row_joined m w v joined y = joined_row w v joined y (row_at m y)
