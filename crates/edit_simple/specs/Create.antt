-- The action that creates an element. (OpenStreetMap API v0.6: nothing absent is named. The greatest lengths are this
-- project's.)
use Rattle.std.specs.Prelude.{◌&&◌, Bool, false, not, List, [], ◌∷◌, Option, length, nat_lt, filter}
use Rattle.osm_drafts.specs.Prelude.{then_some, kind_of, Rows, is_same, is_kind, is_present, is_absent, put_row, references, most_nodes, most_members}
use Rattle.osm_elements.specs.declared.name.Name.{Name}
use Rattle.osm_elements.specs.declared.element.Element.{Element}
use Rattle.osm_elements.specs.declared.element.Element.TheVariants.{Node, Way, Relation}
use Rattle.room_interface.specs.declared.refusal.Refusal.{Refusal}
use Rattle.room_interface.specs.declared.refusal.Refusal.TheVariants.{Absent, Present, WrongKind, TooFew, TooMany}
use Rattle.edit_simple.specs.Checks.{the_least}

module _ {A : Type 0} where
  -- the element is a way of fewer than 2 nodes
  abbrev pub is_too_short : Element A → Bool
  is_too_short (Node lat lon tags) = false
  is_too_short (Way nodes tags) = nat_lt (length nodes) 2
  is_too_short (Relation members tags) = false

  -- the element is a way of more than 2,000 nodes, or a relation of more than 32,000 members
  abbrev pub is_too_long : Element A → Bool
  is_too_long (Node lat lon tags) = false
  is_too_long (Way nodes tags) = nat_lt most_nodes (length nodes)
  is_too_long (Relation members tags) = nat_lt most_members (length members)

  -- the map does not have the name e, and e is not the new name
  abbrev pub is_missing : Rows A → Name → Name → Bool
  is_missing m x e = not (is_same x e) && is_absent m e

  -- the list is too short, or too long, or refers to a missing name
  abbrev pub list_checks : Rows A → Name → Element A → List (Option (Refusal A))
  list_checks m x v =
      then_some (is_too_short v) (TooFew x)
      ∷ then_some (is_too_long v) (TooMany x)
      ∷ the_least Absent (filter (is_missing m x) (references v))
      ∷ []

  -- the element is not of the name's kind, or the map has the name, or the list has a fault
  abbrev pub create_checks : Rows A → Name → Element A → List (Option (Refusal A))
  create_checks m x v =
      then_some (not (is_kind (kind_of v) x.kind)) (WrongKind x)
      ∷ then_some (is_present m x) (Present x)
      ∷ list_checks m x v

  -- the map in which x has the element v
  abbrev pub after_create : Rows A → Name → Element A → Rows A
  after_create m x v = put_row m x v
