-- Changes from a map to a map: the cells at which they differ, rising, each with both halves. (Changes are this
-- project's.)
use Rattle.std.specs.Prelude.{◌≡◌, ◌≢◌, ◌++◌, Bool, not, List, [], ◌∷◌, Option, Some, None, All, map, if◌then◌else◌, filter, flat_map, fold}
use Rattle.osm_refs.specs.Prelude.{row_at, put_row, Rows, name_set, names_of, rows_but}
use Rattle.osm_elements.specs.declared.name.Name.{Name}
use Rattle.osm_elements.specs.declared.element.Element.{Element}
use Rattle.osm_changes.specs.declared.cell.Cell.{Cell}
use Rattle.osm_changes.specs.declared.change.Change.{Change}
use Rattle.osm_changes.specs.declared.half.Half.{Half}
use Rattle.osm_changes.specs.declared.part.Part.{Part}
use Rattle.osm_changes.specs.declared.part.Part.TheVariants.{Tags, Rest}
use Rattle.osm_changes.specs.declared.changed_row.ChangedRow.{ChangedRow}
use Rattle.osm_changes.specs.Cells.{tags_at, rest_at, cells_of, is_same_cell, IsRising, half_at}
use Rattle.osm_changes.specs.Halves.{half, row_of, are_same_halves}

module _ {A : Type 0} where
  -- the cells at which two maps differ, rising
  abbrev pub differing : Rows A → Rows A → List Cell
  differing m n = filter (λ c. not (are_same_halves (half_at m c) (half_at n c)))
      (cells_of (name_set (names_of m ++ names_of n)))

  -- the change of a cell from one map to another
  abbrev pub change_at : Rows A → Rows A → Cell → Change A
  change_at m n c = record { name = c.name; part = c.part; before = half_at m c; after = half_at n c }

  abbrev pub differences : Rows A → Rows A → List (Change A)
  differences m n = map (change_at m n) (differing m n)

  -- the change of one half of a name's row if the row changes
  abbrev pub half_change : Name → Option (Element A) → Option (Element A) → Part → Change A
  half_change x before after p = record { name = x; part = p; before = half p before; after = half p after }

  -- the halves of a change differ
  abbrev pub differs : Change A → Bool
  differs c = not (are_same_halves c.before c.after)

  -- the changes of a name whose row changes: those of the halves that differ
  abbrev pub row_changes : Name → Option (Element A) → Option (Element A) → List (Change A)
  row_changes x before after = filter differs (half_change x before after Tags ∷ half_change x before after Rest ∷ [])

  -- the changes of the given names, each from its row in the map to its row after
  abbrev pub rows_changes : Rows A → (Name → Option (Element A)) → List Name → List (Change A)
  rows_changes m after names = flat_map (λ x. row_changes x (row_at m x) (after x)) names

  abbrev pub cell_of : Change A → Cell
  cell_of c = record { name = c.name; part = c.part }

  abbrev pub changed_cells : List (Change A) → List Cell
  changed_cells cs = map cell_of cs

  -- the names that change, rising, each once
  abbrev pub changed_names : List (Change A) → List Name
  changed_names cs = name_set (map (λ (c : Change A). c.name) cs)

  -- the change that takes a change back
  abbrev pub taken_back : Change A → Change A
  taken_back c = record { name = c.name; part = c.part; before = c.after; after = c.before }

  abbrev pub inverse : List (Change A) → List (Change A)
  inverse cs = map taken_back cs

  -- the half of a cell after changes: that of the cell's own change, otherwise the half before
  abbrev pub half_after : List (Change A) → Cell → Option (Half A) → Option (Half A)
  half_after [] c h = h
  half_after (d ∷ ds) c h = if is_same_cell c (cell_of d) then d.after else half_after ds c h

  -- the row of a name after changes
  abbrev pub row_after : List (Change A) → Name → Option (Element A) → Option (Element A)
  row_after cs x o = row_of (half_after cs (tags_at x) (half Tags o)) (half_after cs (rest_at x) (half Rest o))

  -- the map in which a name has this row, or no row
  abbrev pub with_row : Rows A → Name → Option (Element A) → Rows A
  with_row m x None = rows_but x m
  with_row m x (Some v) = put_row m x v

  -- the map after changes
  abbrev pub changed : Rows A → List (Change A) → Rows A
  changed m cs = fold (λ n x. with_row n x (row_after cs x (row_at m x))) m (changed_names cs)

  -- a name with its rows in two maps, if any
  abbrev pub changed_row : Rows A → Rows A → Name → ChangedRow A
  changed_row m n x = record { name = x; before = row_at m x; after = row_at n x }

  -- the changed names, each with its row in the map before and after the changes
  abbrev pub changed_rows : Rows A → List (Change A) → List (ChangedRow A)
  changed_rows m cs = map (changed_row m (changed m cs)) (changed_names cs)

  -- the changes of the halves of changed rows
  abbrev pub changes_of : List (ChangedRow A) → List (Change A)
  changes_of rows = flat_map (λ (r : ChangedRow A). row_changes r.name r.before r.after) rows

  -- the cells rise, and the halves of each change differ
  pub record AreChanges (cs : List (Change A)) : Type 0 where
    pub rising : IsRising (changed_cells cs)
    pub differ : All (λ (c : Change A). c.after ≢ c.before) cs

  -- each half before is the map's, and each name afterwards has both halves or none (`whole`: the row that the halves
  -- after make has just these halves)
  pub record AreFrom (m : Rows A) (cs : List (Change A)) : Type 0 where
    pub before : All (λ (c : Change A). c.before ≡ half_at m (cell_of c)) cs
    pub whole : (c : Cell) → half c.part (row_after cs c.name (row_at m c.name)) ≡ half_after cs c (half_at m c)
