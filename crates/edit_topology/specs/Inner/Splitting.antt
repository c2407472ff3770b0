-- A split, row by row.
use Rattle.std.specs.Prelude.{◌+◌, ℕ, Bool, true, false, List, [], ◌∷◌, Option, Some, None, length, take, drop, count_by, nat_lt, if◌then◌else◌}
use Rattle.edit_simple.specs.Prelude.{Rows, is_same, row_at, most_members, nodes_of, members_of, row_tags, with_nodes, with_members}
use Rattle.osm_elements.specs.declared.name.Name.{Name}
use Rattle.osm_elements.specs.declared.element.Element.{Element}
use Rattle.osm_elements.specs.declared.element.Element.TheVariants.{Node, Way, Relation}
use Rattle.edit_topology.specs.Split.{split_members}

-- how many members name w
abbrev pub count_named : Name → List (Name × List ℕ) → ℕ
count_named w members = count_by (λ e. is_same w e.0) members

-- how many members there are after each member w has become two
abbrev pub split_length : Name → List (Name × List ℕ) → ℕ
split_length w members = length members + count_named w members

-- a member w becomes two members, w and v, in the same role
abbrev pub split_member : Name → Name → Name × List ℕ → List (Name × List ℕ)
split_member w v e = if is_same w e.0 then e ∷ (v, e.1) ∷ [] else e ∷ []

module _ {A : Type 0} where
  -- the relation r would have more than 32,000 members
  abbrev pub is_overfull : Rows A → Name → Name → Bool
  is_overfull m w r = nat_lt most_members (split_length w (members_of (row_at m r)))

  abbrev pub is_way_row : Option (Element A) → Bool
  is_way_row None = false
  is_way_row (Some (Node lat lon tags)) = false
  is_way_row (Some (Way nodes tags)) = true
  is_way_row (Some (Relation members tags)) = false

  -- an element after the split: a way has the nodes from 0 to i, and in a relation each member w becomes w and v
  abbrev pub split_element : Name → ℕ → Name → Element A → Element A
  split_element w i v u = with_members (split_members w v) (with_nodes (take (i + 1)) u)

  -- the new way, from the row of the way that is split
  abbrev pub new_way : ℕ → Option (Element A) → Element A
  new_way i way = Way (drop i (nodes_of way)) (row_tags way)

  -- a row after the split; if there was no row, it is the new way's
  abbrev pub row_split : Rows A → Name → ℕ → Name → Option (Element A) → Element A
  row_split m w i v None = new_way i (row_at m w)
  row_split m w i v (Some u) = split_element w i v u

  -- the row of y after the split
  abbrev pub row_of_split : Rows A → Name → ℕ → Name → Name → Option (Element A)
  row_of_split m w i v y = Some (row_split m w i v (row_at m y))
