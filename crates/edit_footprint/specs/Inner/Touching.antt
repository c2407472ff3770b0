-- The touches of changes, collected change by change.
use Rattle.std.specs.Prelude.{◌++◌, List, not, filter, flat_map}
use Rattle.edit_actions.specs.Prelude.{name_set, names_but, changed_cells}
use Rattle.osm_changes.specs.Cells.{has, IsRising}
use Rattle.osm_changes.specs.declared.cell.Cell.{Cell}
use Rattle.osm_elements.specs.declared.name.Name.{Name}
use Rattle.osm_changes.specs.declared.change.Change.{Change}
use Rattle.edit_footprint.specs.Footprints.{half_references}

module _ {A : Type 0} where
  -- the names that a half begins or ceases to refer to, from the sets of its references before and after
  abbrev pub begun_or_ceased_once : Change A → List Name
  begun_or_ceased_once c =
      names_but (name_set (half_references c.before)) (name_set (half_references c.after))
      ++ names_but (name_set (half_references c.after)) (name_set (half_references c.before))

  -- the names that the halves of all changes begin or cease to refer to
  abbrev pub all_begun_or_ceased : List (Change A) → List Name
  all_begun_or_ceased cs = flat_map begun_or_ceased_once cs

  -- the cells of the changes rise
  abbrev pub IsInOrder : List (Change A) → Type 0
  IsInOrder cs = IsRising (changed_cells cs)

  -- the cells without a change
  abbrev pub unchanged : List (Change A) → List Cell → List Cell
  unchanged cs cells = filter (λ c. not (has (changed_cells cs) c)) cells
