-- The action that gives a relation new members. (OpenStreetMap API v0.6: nothing absent is named. The greatest length
-- is this project's.)
use Rattle.std.specs.Prelude.{ℕ, not, List, [], ◌∷◌, Option, length, map, nat_lt, filter}
use Rattle.osm_drafts.specs.Prelude.{then_some, Rows, is_absent, row_at, are_same_members, most_members}
use Rattle.osm_elements.specs.declared.name.Name.{Name}
use Rattle.room_interface.specs.declared.refusal.Refusal.{Refusal}
use Rattle.room_interface.specs.declared.refusal.Refusal.TheVariants.{Absent, WrongKind, TooMany, Nothing}
use Rattle.edit_simple.specs.Checks.{the_least}
use Rattle.edit_simple.specs.Kinds.{is_relation}
use Rattle.edit_simple.specs.Contents.{members_of, with_members, each_row, at_name}

module _ {A : Type 0} where
  -- the name is not a relation's, or is absent, or the list has over 32,000 members, or an absent member, or is
  -- unchanged
  abbrev pub members_checks : Rows A → Name → List (Name × List ℕ) → List (Option (Refusal A))
  members_checks m r list =
      then_some (not (is_relation r.kind)) (WrongKind r)
      ∷ then_some (is_absent m r) (Absent r)
      ∷ then_some (nat_lt most_members (length list)) (TooMany r)
      ∷ the_least Absent (filter (is_absent m) (map (λ e. e.0) list))
      ∷ then_some (are_same_members (members_of (row_at m r)) list) Nothing
      ∷ []

  -- the map in which r has these members
  abbrev pub after_members : Rows A → Name → List (Name × List ℕ) → Rows A
  after_members m r list = each_row (at_name r (with_members (λ _. list))) m
