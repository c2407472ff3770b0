-- Examples of references, worked out by hand from the OpenStreetMap wiki ("Elements": a way lists nodes, a relation has
-- members). `three` has a node n5, a way w5 with a node twice, and a relation r5 that is its own member.
use Rattle.std.specs.Prelude.{◌≡◌, List, [], ◌∷◌, None, true, false, pos}
use Rattle.osm_elements.specs.Prelude.{Rows, name_set, Any, n-1, n-2, n5, w-7, w5, r5}
use Rattle.osm_elements.specs.declared.name.Name.{Name}
use Rattle.osm_elements.specs.declared.element.Element.{Element}
use Rattle.osm_elements.specs.declared.element.Element.TheVariants.{Node, Way, Relation}
use Rattle.osm_refs.specs.declared.change.ReferenceChange.{ReferenceChange}
use Rattle.osm_refs.specs.Changes.{reference_change}
use Rattle.osm_refs.specs.References.{references, row_references, refers_to, users}
use Rattle.osm_refs.specs.Rising.{names_but}
use Rattle.osm_refs.specs.Tables.{Table, table_of, references_at, users_in, referring}

abbrev pub node : Element Any
node = Node (pos 0) (pos 0) []

abbrev pub closed : Element Any
closed = Way (n5 ∷ n-2 ∷ n5 ∷ []) []

abbrev pub own_member : Element Any
own_member = Relation ((r5, []) ∷ (w5, []) ∷ (n5, []) ∷ (w5, []) ∷ []) []

abbrev pub three : Rows Any
three = (n5, node) ∷ (w5, closed) ∷ (r5, own_member) ∷ []

-- what an element refers to, in its own order and as a set; a node and an absent row refer to nothing
unfoldable pub references_found : Type 0
references_found =
    (references node ≡ [])
    × (row_references {A = Any} None ≡ [])
    × (references closed ≡ n5 ∷ n-2 ∷ n5 ∷ [])
    × (name_set (references closed) ≡ n-2 ∷ n5 ∷ [])
    × (references own_member ≡ r5 ∷ w5 ∷ n5 ∷ w5 ∷ [])
    × (name_set (references own_member) ≡ n5 ∷ w5 ∷ r5 ∷ [])
    × (refers_to own_member r5 ≡ true)
    × (refers_to closed n-1 ≡ false)

-- who refers to a name, each once, also to a name without a row
unfoldable pub users_found : Type 0
users_found =
    (users three n5 ≡ w5 ∷ r5 ∷ [])
    × (users three n-2 ≡ w5 ∷ [])
    × (users three w5 ≡ r5 ∷ [])
    × (users three r5 ≡ r5 ∷ [])
    × (users three n-1 ≡ [])

abbrev pub of_three : Table
of_three = (w5, n-2 ∷ n5 ∷ []) ∷ (r5, n5 ∷ w5 ∷ r5 ∷ []) ∷ []

-- the table has no row for a name that refers to nothing
unfoldable pub tables_made : Type 0
tables_made =
    (table_of three ≡ of_three)
    × (references_at of_three w5 ≡ n-2 ∷ n5 ∷ [])
    × (references_at of_three n5 ≡ [])
    × (users_in of_three n5 ≡ w5 ∷ r5 ∷ [])
    × (users_in of_three w-7 ≡ [])
    × (referring of_three w5 [] ≡ (r5, n5 ∷ w5 ∷ r5 ∷ []) ∷ [])
    × (referring of_three w-7 (n-1 ∷ []) ≡ (w-7, n-1 ∷ []) ∷ of_three)

-- the change of the references of w5 if it gets these nodes
abbrev pub with_nodes : List Name → ReferenceChange Any
with_nodes nodes = reference_change w5 (name_set (references closed)) (name_set nodes)

-- if w5 gets the nodes n5 and n-1, only n-1 begins, and only n-2 ceases; if its nodes change places, nothing does
unfoldable pub references_changed : Type 0
references_changed =
    (with_nodes (n5 ∷ n-1 ∷ []) ≡ record { name = w5; begun = n-1 ∷ []; ceased = n-2 ∷ [] })
    × (with_nodes (n-2 ∷ n5 ∷ []) ≡ record { name = w5; begun = []; ceased = [] })
    × (names_but (n-2 ∷ n-1 ∷ n5 ∷ []) (n-1 ∷ w5 ∷ []) ≡ n-2 ∷ n5 ∷ [])
