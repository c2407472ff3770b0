-- Examples of the definitions, worked out by hand.
use Rattle.std.specs.Prelude.{◌≡◌, List, [], ◌∷◌, Some, None, pos}
use Rattle.osm_refs.specs.Prelude.{Rows, Any, n-2, n-1, w5, path, two_tags, Pairs}
use Rattle.osm_elements.specs.declared.element.Element.{Element}
use Rattle.osm_elements.specs.declared.element.Element.TheVariants.{Node, Way}
use Rattle.osm_changes.specs.declared.change.Change.{Change}
use Rattle.osm_changes.specs.declared.half.Half.TheVariants.{Tags, Place, Nodes}
use Rattle.osm_changes.specs.Changes.{differences, changed, changed_names, changed_rows, changes_of, inverse}
use Rattle.osm_changes.specs.declared.part.Part.TheVariants as parts

abbrev node : Pairs → Element Any
node tags = Node (pos 1) (pos 2) tags

abbrev way : Pairs → Element Any
way tags = Way (n-2 ∷ n-1 ∷ []) tags

-- two nodes and the way between them
abbrev pub start : Rows Any
start = (n-2, node []) ∷ (n-1, node two_tags) ∷ (w5, way []) ∷ []

-- new tags change one cell
abbrev pub retag : List (Change Any)
retag = record { name = w5; part = parts.Tags; before = Some (Tags []); after = Some (Tags (path ∷ [])) } ∷ []

unfoldable pub retagged : Type 0
retagged =
    (differences start ((n-2, node []) ∷ (n-1, node two_tags) ∷ (w5, way (path ∷ [])) ∷ []) ≡ retag)
    × (changed_names retag ≡ w5 ∷ [])
    × (changed_rows start retag ≡ record { name = w5; before = Some (way []); after = Some (way (path ∷ [])) } ∷ [])
    × (changes_of (changed_rows start retag) ≡ retag)

-- an element that is removed or added changes both of its cells
abbrev pub go : List (Change Any)
go = record { name = w5; part = parts.Tags; before = Some (Tags []); after = None }
    ∷ record { name = w5; part = parts.Rest; before = Some (Nodes (n-2 ∷ n-1 ∷ [])); after = None } ∷ []

unfoldable pub come_and_gone : Type 0
come_and_gone =
    (differences start ((n-2, node []) ∷ (n-1, node two_tags) ∷ []) ≡ go)
    × (differences ((n-2, node []) ∷ (n-1, node two_tags) ∷ []) start ≡ inverse go)
    × (changed_names go ≡ w5 ∷ [])
    × (changed_rows start go ≡ record { name = w5; before = Some (way []); after = None } ∷ [])
    × (changes_of (changed_rows start go) ≡ go)

-- a new position changes one cell, and the tags stay
abbrev pub move : List (Change Any)
move = record {
  name = n-1;
  part = parts.Rest;
  before = Some (Place (pos 1) (pos 2));
  after = Some
      (Place (pos 3) (pos 2));
} ∷ []

unfoldable pub moved : Type 0
moved =
    (differences start ((n-2, node []) ∷ (n-1, Node (pos 3) (pos 2) two_tags) ∷ (w5, way []) ∷ []) ≡ move)
    × (changed start move ≡ (n-2, node []) ∷ (n-1, Node (pos 3) (pos 2) two_tags) ∷ (w5, way []) ∷ [])

-- a move and then new tags of the same node: each can be taken back first, and leaves the half of the other
abbrev pub later_tags : List (Change Any)
later_tags = record { name = n-1; part = parts.Tags; before = Some (Tags two_tags); after = Some (Tags []) } ∷ []

unfoldable pub both_parts : Type 0
both_parts =
    (changed (changed start move) later_tags ≡ (n-2, node []) ∷ (n-1, Node (pos 3) (pos 2) []) ∷ (w5, way []) ∷ [])
    × (changed (changed (changed start move) later_tags) (inverse move)
    ≡ (n-2, node []) ∷ (n-1, node []) ∷ (w5, way []) ∷ [])
    × (changed (changed (changed start move) later_tags) (inverse later_tags) ≡ changed start move)
    × (changed (changed (changed (changed start move) later_tags) (inverse move)) (inverse later_tags) ≡ start)
