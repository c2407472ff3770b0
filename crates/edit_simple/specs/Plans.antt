-- The result of a plan. (The rules of the actions are this project's.)
use Rattle.std.specs.Prelude.{◌≡◌, ◌⊎◌, List, Option, Some, None, Result, Ok, Err}
use Rattle.osm_drafts.specs.Prelude.{Rows, differences}
use Rattle.osm_changes.specs.declared.change.Change.{Change}
use Rattle.room_interface.specs.declared.refusal.Refusal.{Refusal}
use Rattle.room_interface.specs.declared.refusal.Refusal.TheVariants.{Memory}
use Rattle.edit_simple.specs.Checks.{first_that_holds}

-- the changes to the map after if no check holds, otherwise the first check that holds; `Memory` can replace either
abbrev pub IsPlan : {A : Type 0} → Rows A → List (Option (Refusal A)) → Rows A → Result (List (Change A)) (Refusal A)
    → Type 0
IsPlan m checks after (Ok cs) = (first_that_holds checks ≡ None) × (cs ≡ differences m after)
IsPlan m checks after (Err r) = (first_that_holds checks ≡ Some r) ⊎ (r ≡ Memory)

-- if a check holds, the result is the first that does: `Memory` does not replace it
abbrev pub IsNamed : {A X : Type 0} → List (Option (Refusal A)) → Result X (Refusal A) → Type 0
IsNamed {A = A} checks result = (r : Refusal A) → first_that_holds checks ≡ Some r → result ≡ Err r
