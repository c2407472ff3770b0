-- Joins two ways, if one begins where the other ends. (Editors' practice. The changes of members and the greatest
-- lengths are this project's.)
use Rattle.std.specs.Prelude.{◌++◌, ◌&&◌, ℕ, Bool, false, not, List, [], ◌∷◌, Option, Some, None, length, drop, map, nat_lt, filter, zip, slice_get, option_map}
use Rattle.edit_simple.specs.Prelude.{then_some, last_or, option_eq, Rows, is_same, is_absent, rows_but, row_at, is_same_text, most_nodes, is_way, nodes_of, row_tags, with_nodes, with_tags, with_members, each_row, at_name, most_tags}
use Rattle.osm_elements.specs.declared.name.Name.{Name}
use Rattle.osm_elements.specs.declared.element.Element.{Element}
use Rattle.room_interface.specs.declared.refusal.Refusal.{Refusal}
use Rattle.room_interface.specs.declared.refusal.Refusal.TheVariants.{Absent, WrongKind, Same, NotEndToEnd, TagConflict, TooMany}
use Rattle.edit_topology.specs.BothTags.{both_tags, conflict}
use Rattle.edit_topology.specs.Renaming.{renamed_members}

-- the last node of one list is the first node of the other
abbrev pub meet_end_to_end : List Name → List Name → Bool
meet_end_to_end one other = option_eq is_same (last_or None one) (slice_get other 0)

-- one list, followed by the other without its first node
abbrev pub end_to_end : List Name → List Name → List Name
end_to_end one other = one ++ drop 1 other

-- the member e names v, and the member in front of it names w in the same role
abbrev pub goes_on : Name → Name → Option (Name × List ℕ) → Name × List ℕ → Bool
goes_on w v None e = false
goes_on w v (Some before) e = is_same v e.0 && (is_same w before.0 && is_same_text before.1 e.1)

-- the members except each v right after w in the same role; `before` is the member in front of the first
abbrev pub kept_members : Name → Name → Option (Name × List ℕ) → List (Name × List ℕ) → List (Name × List ℕ)
kept_members w v before members =
    map (λ p. p.1) (filter (λ p. not (goes_on w v p.0 p.1)) (zip (before ∷ map Some members) members))

-- v right after w in the same role is dropped, and every other v becomes w
abbrev pub joined_members : Name → Name → List (Name × List ℕ) → List (Name × List ℕ)
joined_members w v members = renamed_members v w (kept_members w v None members)

module _ {A : Type 0} where
  -- both names are ways' and differ, both ways are present, w ends where v begins, the joined list is not too long, no
  -- key has two values, and the united tags are not too many
  abbrev pub join_checks : Rows A → Name → Name → List (Option (Refusal A))
  join_checks m w v =
      then_some (not (is_way w.kind)) (WrongKind w)
      ∷ then_some (not (is_way v.kind)) (WrongKind v)
      ∷ then_some (is_same w v) (Same w)
      ∷ then_some (is_absent m w) (Absent w)
      ∷ then_some (is_absent m v) (Absent v)
      ∷ then_some (not (meet_end_to_end (nodes_of (row_at m w)) (nodes_of (row_at m v)))) NotEndToEnd
      ∷ then_some (nat_lt most_nodes (length (end_to_end (nodes_of (row_at m w)) (nodes_of (row_at m v))))) (TooMany w)
      ∷ option_map TagConflict (conflict (row_tags (row_at m w)) (row_tags (row_at m v)))
      ∷ then_some (nat_lt most_tags (length (both_tags (row_tags (row_at m w)) (row_tags (row_at m v))))) (TooMany w)
      ∷ []

  -- w with its own nodes, followed by v's without the first, and with the tags of both ways
  abbrev pub lengthened : Rows A → Name → Element A → Element A
  lengthened m v u =
      with_nodes (λ list. end_to_end list (nodes_of (row_at m v)))
      (with_tags (λ tags. both_tags tags (row_tags (row_at m v))) u)

  -- a row after the join: w gets longer, and members w replace members v
  abbrev pub join_row : Rows A → Name → Name → Name → Element A → Element A
  join_row m w v y u = with_members (joined_members w v) (at_name w (lengthened m v) y u)

  -- the map after the join: v is absent, and every other row is the row after the join
  abbrev pub after_join : Rows A → Name → Name → Rows A
  after_join m w v = each_row (join_row m w v) (rows_but v m)
