-- Purges, name by name.
use Rattle.std.specs.Prelude.{not, List, [], ◌∷◌, Option, None, if◌then◌else◌, filter, flat_map, option_map}
use Rattle.osm_drafts.specs.Prelude.{Rows, is_among, row_at, Table, users_in}
use Rattle.osm_elements.specs.declared.name.Name.{Name}
use Rattle.osm_elements.specs.declared.element.Element.{Element}
use Rattle.edit_simple.specs.Contents.{nodes_of, with_nodes, with_members}
use Rattle.edit_simple.specs.Purge.{without, falls_short}

-- a user of the purged name, and the users of this user if it is removed
abbrev pub reached_with : Table → List Name → Name → List Name
reached_with users gone u = u ∷ (if is_among gone u then users_in users u else [])

-- the purged name, its users, and the users of removed names
abbrev pub all_reached : Table → List Name → Name → List Name
all_reached users gone x = x ∷ flat_map (reached_with users gone) (users_in users x)

module _ {A : Type 0} where
  -- the purged name, and those of its users that would be too short without it
  abbrev pub all_gone : Rows A → List Name → Name → List Name
  all_gone m users x = x ∷ filter (λ u. falls_short x (nodes_of (row_at m u))) users

  -- an element that stays, without its removed references
  abbrev pub left_of : List Name → Name → Element A → Element A
  left_of gone x v = with_nodes (without x) (with_members (filter (λ r. not (is_among gone r.0))) v)

  -- a row after the purge
  abbrev pub row_left : List Name → Name → Name → Option (Element A) → Option (Element A)
  row_left gone x y o = if is_among gone y then None else option_map (left_of gone x) o

  -- the row of a name after the purge
  abbrev pub purged_row : Rows A → List Name → Name → Name → Option (Element A)
  purged_row m gone x y = row_left gone x y (row_at m y)
