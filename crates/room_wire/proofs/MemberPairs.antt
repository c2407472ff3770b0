-- A list is read as a member only if it has two items.
use Rattle.std.proofs.Common.{◌≡◌, ◌≢◌, List, [], ◌∷◌, None, length, refl}
use Rattle.json.specs.declared.value.Value.{Value}
use Rattle.room_wire.specs.Prelude.{Global, items_view, member_in}

pub not_two : (vs : List (Value Global)) → length vs ≢ 2 → member_in (items_view vs) ≡ None
not_two [] h = refl
not_two (v ∷ []) h = refl
not_two (v ∷ w ∷ []) h = absurd (h refl)
not_two (v ∷ w ∷ x ∷ vs) h = refl
