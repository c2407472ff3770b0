-- The result of planning an edit. (Groups are this project's.)
use Rattle.std.specs.Prelude.{◌≡◌, ◌⊎◌, List, Some, None, Result, Ok, Err}
use Rattle.edit_actions.specs.Prelude.{Rows, alone}
use Rattle.edit_footprint.specs.Touches.{Touch}
use Rattle.osm_changes.specs.declared.change.Change.{Change}
use Rattle.room_interface.specs.declared.refusal.Refusal.TheVariants.{Memory}
use Rattle.room_interface.specs.declared.edit.Edit.{Edit}
use Rattle.room_interface.specs.declared.edit_refusal.EditRefusal.{EditRefusal}
use Rattle.edit_groups.specs.Edits.{changes, refusal, footprint}

module _ {A : Type 0} where
  -- the changes and the footprint of an accepted edit, or its refusal; `Memory` may replace either
  abbrev pub IsEditPlan : Rows A → Edit A → Result (List (Change A) × List Touch) (EditRefusal A) → Type 0
  IsEditPlan m e (Ok p) = (refusal m e ≡ None) × (p.0 ≡ changes m e) × (p.1 ≡ footprint m e)
  IsEditPlan m e (Err r) = (refusal m e ≡ Some r) ⊎ (r ≡ alone Memory)
