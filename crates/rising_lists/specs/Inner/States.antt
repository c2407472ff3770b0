-- The values of a list, by its representation.
use Rattle.std.specs.Prelude.{List, [], ◌∷◌}
use Rattle.rising_lists.specs.declared.list.State.{State}
use Rattle.rising_lists.specs.declared.list.State.TheVariants.{Many, Nothing, One}

abbrev pub values : {V A : Type 0} → State V A → List V
values Nothing = []
values (One value) = value ∷ []
values (Many many) = many.value.items
