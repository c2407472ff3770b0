-- Stores, which contracts model as a map and a count. (The count is this project's.)
use Rattle.std.specs.Prelude.{◌+◌, ◌^◌, ◌-◌, ℕ, List, length, min}
use Rattle.osm_elements.specs.Maps.{Rows}
use Rattle.osm_changes.specs.declared.change.Change.{Change}
use Rattle.osm_changes.specs.Changes.{changed}

-- the rows of a sound map, and the number of changes that were applied to it
pub record StoreState (A : Type 0) : Type 0 where
  pub rows : Rows A
  pub applied : ℕ

module _ {A : Type 0} where
  -- the count of changes, which stops at 2^128 - 1
  abbrev pub counted : ℕ → List (Change A) → ℕ
  counted applied cs = min (applied + length cs) (2 ^ 128 - 1)

  -- the store after changes
  abbrev pub applied_to : StoreState A → List (Change A) → StoreState A
  applied_to s cs = record { rows = changed s.rows cs; applied = counted s.applied cs }
