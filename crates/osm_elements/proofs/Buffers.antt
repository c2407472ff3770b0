-- A buffer after its first byte is written.
use Rattle.std.proofs.Common.{◌≡◌, ◌<◌, ◌+◌, ℕ, List, [], ◌∷◌, length, take, drop, slice_set, refl, arith, add-one}

pub take-slice_set_first : (xs : List ℕ) (v : ℕ) → 0 < length xs → take 1 (slice_set xs 0 v) ≡ v ∷ []
take-slice_set_first [] v h = absurd (omega arith)
take-slice_set_first (x ∷ xs) v h = refl

pub drop-slice_set_first : (xs : List ℕ) (v n : ℕ) → drop (n + 1) (slice_set xs 0 v) ≡ drop (n + 1) xs
drop-slice_set_first [] v n = refl
drop-slice_set_first (x ∷ xs) v n = rw add-one refl
