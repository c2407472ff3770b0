-- Agreement of two maps at a footprint. (Footprints are this project's.)
use Rattle.std.specs.Prelude.{◌≡◌, true, List}
use Rattle.osm_changes.specs.Prelude.{Rows, is_present, users, half_at}
use Rattle.osm_elements.specs.declared.name.Name.{Name}
use Rattle.osm_changes.specs.declared.cell.Cell.{Cell}
use Rattle.edit_footprint.specs.Touches.{Touch}
use Rattle.edit_footprint.specs.Footprints.{reaches, writes_presence, reaches_presence}

-- both maps have the same half, or none, at each cell that the footprint reads or writes; both have each element, or
-- lack it, whose presence it reads or writes; and each name whose presence it writes has the same users in both
pub record Agree {A : Type 0} (m n : Rows A) (touches : List Touch) : Type 0 where
  pub same_half : (c : Cell) → reaches touches c ≡ true → half_at m c ≡ half_at n c
  pub same_presence : (x : Name) → reaches_presence touches x ≡ true → is_present m x ≡ is_present n x
  pub same_users : (x : Name) → writes_presence touches x ≡ true → users m x ≡ users n x
