-- The action that removes an element and every reference to it. (OpenStreetMap API v0.6: nothing absent is named. Which
-- other elements are removed is this project's rule.)
use Rattle.std.specs.Prelude.{◌&&◌, ◌||◌, Bool, not, List, [], ◌∷◌, Option, length, nat_lt, filter}
use Rattle.room_interface.specs.Prelude.{then_some, Rows, is_same, is_among, is_absent, row_at}
use Rattle.osm_elements.specs.declared.name.Name.{Name}
use Rattle.osm_elements.specs.declared.element.Element.{Element}
use Rattle.room_interface.specs.declared.refusal.Refusal.{Refusal}
use Rattle.room_interface.specs.declared.refusal.Refusal.TheVariants.{Absent}
use Rattle.edit_simple.specs.Contents.{nodes_of, with_nodes, with_members, each_row}

-- a list without x
abbrev pub without : Name → List Name → List Name
without x names = filter (λ n. not (is_same x n)) names

-- the list contains x, and has fewer than 2 nodes without it
abbrev pub falls_short : Name → List Name → Bool
falls_short x nodes = is_among nodes x && nat_lt (length (without x nodes)) 2

module _ {A : Type 0} where
  -- y is removed: it is x itself, or a way that contains x and has fewer than 2 nodes without it
  abbrev pub goes : Rows A → Name → Name → Bool
  goes m x y = is_same x y || falls_short x (nodes_of (row_at m y))

  -- an element that stays: a way without x, or a relation without the removed members
  abbrev pub what_is_left : Rows A → Name → Element A → Element A
  what_is_left m x v = with_nodes (without x) (with_members (filter (λ r. not (goes m x r.0))) v)

  -- the map does not have the element
  abbrev pub purge_checks : Rows A → Name → List (Option (Refusal A))
  purge_checks m x = then_some (is_absent m x) (Absent x) ∷ []

  -- the map without the removed elements, and without references to them
  abbrev pub after_purge : Rows A → Name → Rows A
  after_purge m x = each_row (λ _ v. what_is_left m x v) (filter (λ r. not (goes m x r.0)) m)
