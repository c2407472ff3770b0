-- Examples of accepted and refused actions, worked out by hand from docs/PROTOCOL.md ("Actions", "Refusals"). `four`
-- has two nodes, a way from n-1 to n-2 and back, and a relation with this way.
use Rattle.std.specs.Prelude.{◌≡◌, ◌∷◌, [], Some, None, pos, negsuc}
use Rattle.edit_topology.specs.Prelude.{Rows, Any, n-1, n-2, n5, w1, w5, r1, node_at, way_of, relation_of, outer, x}
use Rattle.osm_elements.specs.declared.name.Name.{Name}
use Rattle.osm_elements.specs.declared.element.Element.{Element}
use Rattle.osm_elements.specs.declared.element.Element.TheVariants.{Node, Way}
use Rattle.room_interface.specs.declared.refusal.Refusal.TheVariants.{Absent, Present, BadPosition, OutOfRange}
use Rattle.room_interface.specs.declared.action.Action.TheVariants.{Create, Retag, Move, Split}
use Rattle.edit_actions.specs.After.{after}
use Rattle.edit_actions.specs.Refusals.{refusal}

abbrev pub second : Name × Element Any
second = (n-2, node_at 2)

abbrev pub first : Name × Element Any
first = (n-1, node_at 1)

abbrev pub way : Name × Element Any
way = (w1, way_of (n-1 ∷ n-2 ∷ n-1 ∷ []))

abbrev pub relation : Name × Element Any
relation = (r1, relation_of ((w1, outer) ∷ []))

abbrev pub four : Rows Any
four = second ∷ first ∷ way ∷ relation ∷ []

-- a new node comes between the other nodes and the way; a name that is there is not created again
unfoldable pub created : Type 0
created =
    (refusal four (Create n5 (node_at 5)) ≡ None)
    × (after four (Create n5 (node_at 5)) ≡ second ∷ first ∷ (n5, node_at 5) ∷ way ∷ relation ∷ [])
    × (refusal four (Create w1 (way_of (n-1 ∷ n-2 ∷ []))) ≡ Some (Present w1))

-- the way gets a tag, and keeps its nodes; an element that is not there gets none
unfoldable pub retagged : Type 0
retagged =
    (refusal four (Retag w1 ((x, Some outer) ∷ [])) ≡ None)
    × (after four (Retag w1 ((x, Some outer) ∷ []))
    ≡ second ∷ first ∷ (w1, Way (n-1 ∷ n-2 ∷ n-1 ∷ []) ((x, outer) ∷ [])) ∷ relation ∷ [])
    × (refusal four (Retag n5 ((x, Some outer) ∷ [])) ≡ Some (Absent n5))

-- both nodes of the way move once, 10 to the north and 5 to the west; no node moves past the pole
unfoldable pub moved : Type 0
moved =
    (refusal four (Move (w1 ∷ []) (pos 10) (negsuc 4)) ≡ None)
    × (after four (Move (w1 ∷ []) (pos 10) (negsuc 4))
    ≡ (n-2, Node (pos 20000010) (pos 19999995) []) ∷ (n-1, Node (pos 10000010) (pos 9999995) []) ∷ way ∷ relation ∷ [])
    × (refusal four (Move (n-2 ∷ []) (pos 880000001) (pos 0)) ≡ Some (OutOfRange n-2))

-- the node at the position ends the way and begins the new way, which becomes a member after it; no way is split at its
-- last node
unfoldable pub split : Type 0
split =
    (refusal four (Split w1 1 w5) ≡ None)
    × (after four (Split w1 1 w5)
    ≡ second ∷ first ∷ (w1, way_of (n-1 ∷ n-2 ∷ [])) ∷ (w5, way_of (n-2 ∷ n-1 ∷ []))
    ∷ (r1, relation_of ((w1, outer) ∷ (w5, outer) ∷ [])) ∷ [])
    × (refusal four (Split w1 2 w5) ≡ Some BadPosition)
