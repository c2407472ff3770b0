-- Lists of checks. Each check is the refusal that it leads to if it holds.
use Rattle.std.specs.Prelude.{List, [], ◌∷◌, Option, Some, None, option_map}
use Rattle.osm_elements.specs.Maps.{least}
use Rattle.osm_elements.specs.declared.name.Name.{Name}
use Rattle.room_interface.specs.declared.refusal.Refusal.{Refusal}

-- the first check that holds
abbrev pub first_that_holds : {X : Type 0} → List (Option X) → Option X
first_that_holds [] = None
first_that_holds (None ∷ checks) = first_that_holds checks
first_that_holds (Some x ∷ checks) = Some x

-- the refusal with the least name, if there is a name
abbrev pub the_least : {A : Type 0} → (Name → Refusal A) → List Name → Option (Refusal A)
the_least why names = option_map why (least names)
