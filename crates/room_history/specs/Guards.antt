-- What others changed after the entries that an author had seen. (Guards are this project's.)
use Rattle.std.specs.Prelude.{◌&&◌, ◌+◌, ℕ, not, List, ◌∷◌, Option, None, Some, nat_lt, cond, find, option_map}
use Rattle.edit_groups.specs.Prelude.{option_or, is_same_author, changed_cells}
use Rattle.osm_changes.specs.Cells.{has}
use Rattle.osm_elements.specs.declared.name.Name.{Name}
use Rattle.osm_changes.specs.declared.cell.Cell.{Cell}
use Rattle.room_interface.specs.declared.author.Author.{Author}
use Rattle.room_history.specs.declared.entry.Entry.{Entry}
use Rattle.room_history.specs.Replays.{Recorded}

-- the least name of a cell that both rising lists have
abbrev pub first_shared : List Cell → List Cell → Option Name
first_shared one other = option_map (λ (c : Cell). c.name) (find (has other) one)

module _ {A : Type 0} where
  -- the last of the entries, numbered from k, that comes after the first n, is not the author's, and changed one of the
  -- cells; with it, the least name of such a cell
  abbrev pub overwritten : Author → ℕ → List Cell → ℕ → List (Entry A) → List (Recorded A) → Option (ℕ × Name)
  overwritten author n cells k (e ∷ es) (r ∷ rs) =
      option_or (overwritten author n cells (k + 1) es rs)
      (cond (nat_lt n k && not (is_same_author author e.author))
      (option_map (λ x. (k, x)) (first_shared cells (changed_cells r.changes))) None)
  overwritten author n cells k es rs = None

  -- the same after the entries that the author had seen; nothing, if it does not say how many these are
  abbrev pub overwritten_since : Author → Option ℕ → List Cell → List (Entry A) → List (Recorded A) → Option (ℕ × Name)
  overwritten_since author None cells j rs = None
  overwritten_since author (Some n) cells j rs = overwritten author n cells 1 j rs
