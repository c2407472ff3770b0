-- Splits a way in two at one of its nodes. (Editors' practice: both parts have the node, the tags and the memberships.
-- The order of a relation's members, and their greatest number, are this project's.)
use Rattle.std.specs.Prelude.{◌+◌, ◌&&◌, ℕ, Bool, not, List, [], ◌∷◌, Option, Some, length, take, drop, nat_lt, if◌then◌else◌, filter, flat_map}
use Rattle.edit_simple.specs.Prelude.{then_some, Rows, is_same, is_present, is_absent, names_of, row_at, put_row, most_members, the_least, is_way, nodes_of, members_of, row_tags, with_nodes, with_members, each_row, at_name}
use Rattle.osm_elements.specs.declared.name.Name.{Name}
use Rattle.osm_elements.specs.declared.element.Element.{Element}
use Rattle.osm_elements.specs.declared.element.Element.TheVariants.{Way}
use Rattle.room_interface.specs.declared.refusal.Refusal.{Refusal}
use Rattle.room_interface.specs.declared.refusal.Refusal.TheVariants.{Absent, Present, WrongKind, BadPosition, TooMany}

-- i is a position of the list, counted from 0, and neither the first nor the last
abbrev pub is_inside : ℕ → List Name → Bool
is_inside i list = nat_lt 0 i && nat_lt (i + 1) (length list)

-- each member w becomes two members, w and v, in the same role
abbrev pub split_members : Name → Name → List (Name × List ℕ) → List (Name × List ℕ)
split_members w v members = flat_map (λ e. if is_same w e.0 then e ∷ (v, e.1) ∷ [] else e ∷ []) members

module _ {A : Type 0} where
  -- the relations that would have more than 32,000 members
  abbrev pub overfull : Rows A → Name → Name → List Name
  overfull m w v = names_of (filter (λ r. nat_lt most_members (length (split_members w v (members_of (Some r.1))))) m)

  -- both names are ways', w is present and v absent, i is an inner position of w's list, and no relation gets too long
  abbrev pub split_checks : Rows A → Name → ℕ → Name → List (Option (Refusal A))
  split_checks m w i v =
      then_some (not (is_way w.kind)) (WrongKind w)
      ∷ then_some (not (is_way v.kind)) (WrongKind v)
      ∷ then_some (is_absent m w) (Absent w)
      ∷ then_some (is_present m v) (Present v)
      ∷ then_some (not (is_inside i (nodes_of (row_at m w)))) BadPosition
      ∷ the_least TooMany (overfull m w v)
      ∷ []

  -- a row after the split: w keeps the positions from 0 to i, and each member w becomes w and v
  abbrev pub split_row : Name → ℕ → Name → Name → Element A → Element A
  split_row w i v y u = with_members (split_members w v) (at_name w (with_nodes (take (i + 1))) y u)

  -- the new way: the nodes of w from position i to the last, and w's tags
  abbrev pub split_off : Rows A → Name → ℕ → Element A
  split_off m w i = Way (drop i (nodes_of (row_at m w))) (row_tags (row_at m w))

  -- the map after the split: its rows after the split, and the new way v
  abbrev pub after_split : Rows A → Name → ℕ → Name → Rows A
  after_split m w i v = put_row (each_row (split_row w i v) m) v (split_off m w i)
