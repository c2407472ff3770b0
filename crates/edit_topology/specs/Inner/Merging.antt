-- A merge, check by check and row by row.
use Rattle.std.specs.Prelude.{◌||◌, Bool, false, List, [], ◌∷◌, Option, Some, None, length, map, nat_lt, if◌then◌else◌, option_map}
use Rattle.edit_simple.specs.Prelude.{then_some, list_all, Rows, is_same, row_at, Pairs, most_tags}
use Rattle.osm_elements.specs.declared.name.Name.{Name}
use Rattle.osm_elements.specs.declared.element.Element.{Element}
use Rattle.osm_elements.specs.declared.element.Element.TheVariants.{Node, Way, Relation}
use Rattle.room_interface.specs.declared.refusal.Refusal.{Refusal}
use Rattle.room_interface.specs.declared.refusal.Refusal.TheVariants.{TagConflict, TooMany}
use Rattle.edit_topology.specs.BothTags.{both_tags, conflict}
use Rattle.edit_topology.specs.Merge.{without_doubled}
use Rattle.edit_topology.specs.Renaming.{renamed, renamed_members}

abbrev pub is_either : Name → Name → Name → Bool
is_either k g n = is_same k n || is_same g n

-- the list with k in place of g, in which each run of k becomes one k
abbrev pub replaced : Name → Name → List Name → List Name
replaced k g nodes = without_doubled k (map (renamed g k) nodes)

-- the subjects whose rows change: g, and k if it gains a tag
abbrev pub subjects : Name → Name → Bool → List Name
subjects k g gains = if gains then k ∷ g ∷ [] else g ∷ []

module _ {A : Type 0} where
  -- the checks that need only the tags
  abbrev pub tag_checks : Name → Pairs → Pairs → List (Option (Refusal A))
  tag_checks k tags others =
      option_map TagConflict (conflict tags others)
      ∷ then_some (nat_lt most_tags (length (both_tags tags others))) (TooMany k)
      ∷ []

  -- the row is a way's that has no nodes except k and g
  abbrev pub is_cut_short : Name → Name → Option (Element A) → Bool
  is_cut_short k g None = false
  is_cut_short k g (Some (Node lat lon tags)) = false
  is_cut_short k g (Some (Way nodes tags)) = list_all (is_either k g) nodes
  is_cut_short k g (Some (Relation members tags)) = false

  -- an element after the merge, if it is k's or names g; of the nodes that stay, only k changes
  abbrev pub merged_element : Name → Name → Pairs → Element A → Element A
  merged_element k g both (Node lat lon tags) = Node lat lon both
  merged_element k g both (Way nodes tags) = Way (replaced k g nodes) tags
  merged_element k g both (Relation members tags) = Relation (renamed_members g k members) tags

  -- a row after the merge
  abbrev pub merged_row : Name → Name → Pairs → Name → Option (Element A) → Option (Element A)
  merged_row k g both y o = if is_same g y then None else option_map (merged_element k g both) o

  -- the row of y after the merge
  abbrev pub row_merged : Rows A → Name → Name → Pairs → Name → Option (Element A)
  row_merged m k g both y = merged_row k g both y (row_at m y)
