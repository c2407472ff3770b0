-- The effects that a room keeps.
use Rattle.std.specs.Prelude.{List, [], ◌∷◌, Option, Some, None}
use Rattle.osm_changes.specs.Changes.{changes_of}
use Rattle.edit_footprint.specs.Touches.{Touch}
use Rattle.osm_changes.specs.declared.changed_row.ChangedRow.{ChangedRow}
use Rattle.room_history.specs.declared.kept.Effect.{Effect}
use Rattle.room_history.specs.declared.kept.Form.{Form}
use Rattle.room_history.specs.declared.kept.Form.TheVariants.{Row, Rows, Group}

module _ {A : Type 0} where
  -- the effect of changed rows
  abbrev pub effect_of_rows : List (ChangedRow A) → Option (List Touch) → Effect A
  effect_of_rows rows group = record { changes = changes_of rows; rows = rows; group = group }

  abbrev pub kept_effect : Form A → Effect A
  kept_effect (Row row) = effect_of_rows (row ∷ []) None
  kept_effect (Rows rows) = effect_of_rows rows None
  kept_effect (Group rows footprint) = effect_of_rows rows (Some footprint)
