-- The names of members.
use Rattle.std.proofs.Common.{◌≡◌, List, [], ◌∷◌, map, refl, ap}
use Rattle.edit_footprint.specs.Prelude.{Member, member_pair}

pub names_of_members : {A : Type 0} (members : List (Member A))
    → map (λ m. m.0) (map member_pair members) ≡ map (λ m. m.name) members
names_of_members [] = refl
names_of_members (m ∷ ms) = ap (λ names. m.name ∷ names) (names_of_members ms)
