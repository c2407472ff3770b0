-- A map with rows written over it. (Drafts are this project's.)
use Rattle.std.specs.Prelude.{◌≡◌, true, not, List, [], ◌∷◌, if◌then◌else◌, filter, fold}
use Rattle.osm_changes.specs.Prelude.{Rows, is_among, is_present, put_row, AreInOrder, Table, table_of}
use Rattle.osm_elements.specs.declared.name.Name.{Name}
use Rattle.osm_elements.specs.declared.element.Element.{Element}

-- the name if it was not written, otherwise nothing
abbrev pub unwritten : List Name → Name → List Name
unwritten written u = if is_among written u then [] else u ∷ []

module _ {A : Type 0} where
  -- the map's rows of the names that were not written, and the written rows
  abbrev pub drafted : Rows A → List Name → Rows A → Rows A
  drafted m written here = fold (λ n (r : Name × Element A). put_row n r.0 r.1) (filter (λ r. not (is_among written r.0)) m) here

  -- the names rise, each row that is there was written, and the users are those of these rows
  pub record IsDraft (written : List Name) (here : Rows A) (users : Table) : Type 0 where
    pub order : AreInOrder here
    pub inside : (x : Name) → is_present here x ≡ true → is_among written x ≡ true
    pub users_are : users ≡ table_of here
