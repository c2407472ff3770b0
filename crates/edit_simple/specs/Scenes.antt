-- Names, elements and the first map of the examples.
use Rattle.std.specs.Prelude.{◌*◌, ℕ, ⊤, List, [], ◌∷◌, Option, pos, negsuc}
use Rattle.room_interface.specs.Prelude.{Rows, named}
use Rattle.osm_elements.specs.declared.name.Name.{Name}
use Rattle.osm_elements.specs.declared.element.Element.{Element}
use Rattle.osm_elements.specs.declared.element.Element.TheVariants.{Node, Way, Relation}
use Rattle.edit_simple.specs.Checks.{first_that_holds}
use Rattle.room_interface.specs.declared.refusal.Refusal.{Refusal}
use Rattle.osm_elements.specs.declared.name.Kind.TheVariants as kinds

-- the allocator, which no definition looks at
abbrev pub Any : Type 0
Any = ⊤

abbrev pub n-1 : Name
n-1 = named kinds.Node (negsuc 0) tt

abbrev pub n-2 : Name
n-2 = named kinds.Node (negsuc 1) tt

abbrev pub n-3 : Name
n-3 = named kinds.Node (negsuc 2) tt

abbrev pub n-7 : Name
n-7 = named kinds.Node (negsuc 6) tt

abbrev pub n-8 : Name
n-8 = named kinds.Node (negsuc 7) tt

abbrev pub n5 : Name
n5 = named kinds.Node (pos 5) tt

abbrev pub w1 : Name
w1 = named kinds.Way (pos 1) tt

abbrev pub w2 : Name
w2 = named kinds.Way (pos 2) tt

abbrev pub w3 : Name
w3 = named kinds.Way (pos 3) tt

abbrev pub w5 : Name
w5 = named kinds.Way (pos 5) tt

abbrev pub r1 : Name
r1 = named kinds.Relation (pos 1) tt

abbrev pub r9 : Name
r9 = named kinds.Relation (pos 9) tt

-- a node without tags, whose latitude and longitude are both this number of degrees
abbrev pub node_at : ℕ → Element Any
node_at degrees = Node (pos (degrees * 10000000)) (pos (degrees * 10000000)) []

abbrev pub way_of : List Name → Element Any
way_of nodes = Way nodes []

abbrev pub relation_of : List (Name × List ℕ) → Element Any
relation_of members = Relation members []

-- the texts "outer" and "x"
abbrev pub outer : List ℕ
outer = 111 ∷ 117 ∷ 116 ∷ 101 ∷ 114 ∷ []

abbrev pub x : List ℕ
x = 120 ∷ []

-- three nodes, two ways and a relation, in name order: w1 and w2 are the given elements, and r1 has the given members
abbrev pub start_with : Element Any → Element Any → List (Name × List ℕ) → Rows Any
start_with first second members = (n-3, node_at 3) ∷ (n-2, node_at 2) ∷ (n-1, node_at 1) ∷ (w1, first) ∷ (w2, second) ∷ (r1, relation_of members) ∷ []

-- the first map
abbrev pub start : Rows Any
start = start_with (way_of (n-1 ∷ n-2 ∷ [])) (way_of (n-1 ∷ n-3 ∷ n-2 ∷ [])) ((n-1, []) ∷ (w2, outer) ∷ (w1, outer) ∷ (w2, outer) ∷ [])

-- the first check that holds
abbrev pub refused : List (Option (Refusal Any)) → Option (Refusal Any)
refused checks = first_that_holds checks
