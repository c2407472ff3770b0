-- Unglues a way from a node: the way gets a new node in place of the old. (Editors' practice: the new node has the
-- position and the tags of the old one. Which positions and names are refused, and in which order, is this project's.)
use Rattle.std.specs.Prelude.{ℕ, not, List, [], ◌∷◌, Option, length, nat_lt, set, option_and_then, slice_get}
use Rattle.edit_simple.specs.Prelude.{then_some, is_node, Rows, is_present, is_absent, row_at, with_row, is_way, nodes_of, with_nodes, each_row, at_name}
use Rattle.osm_elements.specs.declared.name.Name.{Name}
use Rattle.osm_elements.specs.declared.element.Element.{Element}
use Rattle.room_interface.specs.declared.refusal.Refusal.{Refusal}
use Rattle.room_interface.specs.declared.refusal.Refusal.TheVariants.{Absent, Present, WrongKind, BadPosition}

module _ {A : Type 0} where
  -- the row of the node at position i of w's list, counted from 0
  abbrev pub row_standing : Rows A → Name → ℕ → Option (Element A)
  row_standing m w i = option_and_then (row_at m) (slice_get (nodes_of (row_at m w)) i)

  -- w is a way's name and v a node's, w is present and v absent, and i is a position of w's list
  abbrev pub unglue_checks : Rows A → Name → ℕ → Name → List (Option (Refusal A))
  unglue_checks m w i v =
      then_some (not (is_way w.kind)) (WrongKind w)
      ∷ then_some (not (is_node v.kind)) (WrongKind v)
      ∷ then_some (is_absent m w) (Absent w)
      ∷ then_some (is_present m v) (Present v)
      ∷ then_some (not (nat_lt i (length (nodes_of (row_at m w))))) BadPosition
      ∷ []

  -- the map after the unglue: w has v at position i, and v has the row of the node that was there
  abbrev pub after_unglue : Rows A → Name → ℕ → Name → Rows A
  after_unglue m w i v = with_row (each_row (at_name w (with_nodes (λ list. set list i v))) m) v (row_standing m w i)
