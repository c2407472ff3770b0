-- References as a table. (OpenStreetMap wiki, "Elements": a way lists nodes, a relation has members.)
use Rattle.std.specs.Prelude.{Bool, true, false, not, List, [], ◌∷◌, map, unwrap_or, filter, fold}
use Rattle.osm_elements.specs.Prelude.{put, find, name_cmp, Rows, is_same, is_among, name_set}
use Rattle.osm_elements.specs.declared.name.Name.{Name}
use Rattle.osm_refs.specs.References.{references}

-- each name that refers to something, in name order, with its references, rising, each once
abbrev pub Table : Type 0
Table = List (Name × List Name)

-- the references of a name; a name without a row has none
abbrev pub references_at : Table → Name → List Name
references_at t x = unwrap_or (find name_cmp x t) []

-- the names, in name order, that refer to e, found by searching every row
abbrev pub users_in : Table → Name → List Name
users_in t e = map (λ r. r.0) (filter (λ r. is_among r.1 e) t)

-- the table with new references of a name; a name without references has no row
abbrev pub referring : Table → Name → List Name → Table
referring t x [] = filter (λ r. not (is_same x r.0)) t
referring t x (y ∷ ys) = put name_cmp x (y ∷ ys) t

-- a name with its new references
abbrev pub Note : Type 0
Note = Name × List Name

-- the table after all notes are entered in order
abbrev pub noted : Table → List Note → Table
noted t notes = fold (λ u n. referring u n.0 n.1) t notes

-- the list is not empty
abbrev pub has_names : List Name → Bool
has_names [] = false
has_names (y ∷ ys) = true

-- the table of a map: the rows that refer to something, each with the set of its references
abbrev pub table_of : {A : Type 0} → Rows A → Table
table_of m = filter (λ r. has_names r.1) (map (λ r. (r.0, name_set (references r.1))) m)
