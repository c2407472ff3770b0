-- Merges one node into another. (Editors' practice. Which repetitions are dropped, and the greatest number of tags, are
-- this project's.)
use Rattle.std.specs.Prelude.{◌&&◌, not, List, [], ◌∷◌, Option, Some, length, map, nat_lt, if◌then◌else◌, filter, option_map}
use Rattle.edit_simple.specs.Prelude.{then_some, dedup, is_node, Rows, is_same, is_among, is_absent, names_of, rows_but, row_at, the_least, nodes_of, row_tags, with_nodes, with_tags, with_members, each_row, at_name, most_tags}
use Rattle.osm_elements.specs.declared.name.Name.{Name}
use Rattle.osm_elements.specs.declared.element.Element.{Element}
use Rattle.room_interface.specs.declared.refusal.Refusal.{Refusal}
use Rattle.room_interface.specs.declared.refusal.Refusal.TheVariants.{Absent, WrongKind, Same, TagConflict, TooFew, TooMany}
use Rattle.edit_topology.specs.BothTags.{both_tags, conflict}
use Rattle.edit_topology.specs.Renaming.{renamed, renamed_members}

-- each run of k becomes one k
abbrev pub without_doubled : Name → List Name → List Name
without_doubled k nodes = dedup (λ n before. is_same k n && is_same k before) nodes

-- if the list names g, then k replaces g, and each run of k becomes one k; otherwise the list is unchanged
abbrev pub merged_nodes : Name → Name → List Name → List Name
merged_nodes k g nodes = if is_among nodes g then without_doubled k (map (renamed g k) nodes) else nodes

module _ {A : Type 0} where
  -- the ways that name g and would have fewer than 2 nodes
  abbrev pub shrunk : Rows A → Name → Name → List Name
  shrunk m k g =
      names_of (filter
      (λ r. is_among (nodes_of (Some r.1)) g && nat_lt (length (merged_nodes k g (nodes_of (Some r.1)))) 2) m)

  -- both names are nodes' and differ, both nodes are present, no way gets too short, no key has two values, and the
  -- united tags are not too many
  abbrev pub merge_checks : Rows A → Name → Name → List (Option (Refusal A))
  merge_checks m k g =
      then_some (not (is_node k.kind)) (WrongKind k)
      ∷ then_some (not (is_node g.kind)) (WrongKind g)
      ∷ then_some (is_same k g) (Same k)
      ∷ then_some (is_absent m k) (Absent k)
      ∷ then_some (is_absent m g) (Absent g)
      ∷ the_least TooFew (shrunk m k g)
      ∷ option_map TagConflict (conflict (row_tags (row_at m k)) (row_tags (row_at m g)))
      ∷ then_some (nat_lt most_tags (length (both_tags (row_tags (row_at m k)) (row_tags (row_at m g))))) (TooMany k)
      ∷ []

  -- k at its own position, with the tags of both nodes
  abbrev pub united : Rows A → Name → Element A → Element A
  united m g u = with_tags (λ tags. both_tags tags (row_tags (row_at m g))) u

  -- a row after the merge: k has the tags of both nodes, and k replaces g in every list
  abbrev pub merge_row : Rows A → Name → Name → Name → Element A → Element A
  merge_row m k g y u = with_nodes (merged_nodes k g) (with_members (renamed_members g k) (at_name k (united m g) y u))

  -- the map after the merge: g is absent, and every other row is the row after the merge
  abbrev pub after_merge : Rows A → Name → Name → Rows A
  after_merge m k g = each_row (merge_row m k g) (rows_but g m)
