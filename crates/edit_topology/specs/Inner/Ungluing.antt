-- An unglue, part by part.
use Rattle.std.specs.Prelude.{ℕ, not, List, [], ◌∷◌, Option, option_and_then, slice_get}
use Rattle.edit_simple.specs.Prelude.{then_some, is_node, Rows, is_present, is_absent, row_at, is_way}
use Rattle.osm_elements.specs.declared.name.Name.{Name}
use Rattle.osm_elements.specs.declared.element.Element.{Element}
use Rattle.room_interface.specs.declared.refusal.Refusal.{Refusal}
use Rattle.room_interface.specs.declared.refusal.Refusal.TheVariants.{Absent, Present, WrongKind}

module _ {A : Type 0} where
  -- the checks that need only the names, which come before the check of the position
  abbrev pub name_checks : Rows A → Name → Name → List (Option (Refusal A))
  name_checks m w v =
      then_some (not (is_way w.kind)) (WrongKind w)
      ∷ then_some (not (is_node v.kind)) (WrongKind v)
      ∷ then_some (is_absent m w) (Absent w)
      ∷ then_some (is_present m v) (Present v)
      ∷ []

  -- the row of the node at position i of a list
  abbrev pub node_standing : Rows A → List Name → ℕ → Option (Element A)
  node_standing m nodes i = option_and_then (row_at m) (slice_get nodes i)
