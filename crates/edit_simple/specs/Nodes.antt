-- The action that gives a way new nodes. (OpenStreetMap API v0.6: nothing absent is named. The greatest length is this
-- project's.)
use Rattle.std.specs.Prelude.{not, List, [], ◌∷◌, Option, length, nat_lt, filter}
use Rattle.osm_drafts.specs.Prelude.{then_some, Rows, is_absent, row_at, are_same_names, most_nodes}
use Rattle.osm_elements.specs.declared.name.Name.{Name}
use Rattle.room_interface.specs.declared.refusal.Refusal.{Refusal}
use Rattle.room_interface.specs.declared.refusal.Refusal.TheVariants.{Absent, WrongKind, TooFew, TooMany, Nothing}
use Rattle.edit_simple.specs.Checks.{the_least}
use Rattle.edit_simple.specs.Kinds.{is_way}
use Rattle.edit_simple.specs.Contents.{nodes_of, with_nodes, each_row, at_name}

module _ {A : Type 0} where
  -- the name is not a way's, or is absent, or the list has under 2 or over 2,000 nodes, or an absent node, or is
  -- unchanged
  abbrev pub nodes_checks : Rows A → Name → List Name → List (Option (Refusal A))
  nodes_checks m w list =
      then_some (not (is_way w.kind)) (WrongKind w)
      ∷ then_some (is_absent m w) (Absent w)
      ∷ then_some (nat_lt (length list) 2) (TooFew w)
      ∷ then_some (nat_lt most_nodes (length list)) (TooMany w)
      ∷ the_least Absent (filter (is_absent m) list)
      ∷ then_some (are_same_names (nodes_of (row_at m w)) list) Nothing
      ∷ []

  -- the map in which w has these nodes
  abbrev pub after_nodes : Rows A → Name → List Name → Rows A
  after_nodes m w list = each_row (at_name w (with_nodes (λ _. list))) m
