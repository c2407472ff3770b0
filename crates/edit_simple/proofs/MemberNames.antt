-- The names of members.
use Rattle.std.proofs.Common.{◌≡◌, List, [], ◌∷◌, map, refl, ap}
use Rattle.edit_simple.specs.Prelude.{Member, member_pair}

pub names_of_pairs : {A : Type 0} (members : List (Member A)) → map (λ m. m.name) members ≡ map (λ m. m.0) (map member_pair members)
names_of_pairs [] = refl
names_of_pairs (m ∷ members) = ap (λ l. m.name ∷ l) (names_of_pairs members)
