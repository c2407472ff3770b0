-- A place in a list that does not fall, between an item below and an item above.
use Rattle.std.proofs.Common.{◌≡◌, ◌<◌, ◌≤◌, ◌-◌, ℕ, List, length, refl, get_or, subst, arith, HoldsAt, Ordering, Less, Equal, Greater}
use Rattle.osm_changes.specs.Prelude.{IsNonDecreasingBy, IsPartitionPoint, ordering_index}

below_less : (o p : Ordering) → p ≡ Less → ordering_index o ≤ ordering_index p → o ≡ Less
below_less Less p is h = refl
below_less Equal p is h = absurd (let low = subst (λ q. ordering_index Equal ≤ ordering_index q) is h in omega (arith, low))
below_less Greater p is h = absurd (let low = subst (λ q. ordering_index Greater ≤ ordering_index q) is h in omega (arith, low))

above_greater : (o p : Ordering) → p ≡ Greater → ordering_index p ≤ ordering_index o → o ≡ Greater
above_greater Greater p is h = refl
above_greater Equal p is h = absurd (let high = subst (λ q. ordering_index q ≤ ordering_index Equal) is h in omega (arith, high))
above_greater Less p is h = absurd (let high = subst (λ q. ordering_index q ≤ ordering_index Less) is h in omega (arith, high))

pub parts_here : {X : Type 0} (ord : X → Ordering) (xs : List X) (i : ℕ) → i ≤ length xs
    → (0 < i → HoldsAt (λ y. ord y ≡ Less) xs (i - 1)) → (i < length xs → HoldsAt (λ y. ord y ≡ Greater) xs i)
    → IsNonDecreasingBy (λ y. ordering_index (ord y)) xs → IsPartitionPoint (λ y. ord y ≡ Less) (λ y. ord y ≡ Greater) xs i
parts_here ord xs i within below above up = (
  λ k d low high. below_less (ord (get_or xs k d)) (ord (get_or xs (i - 1) d)) (below (omega (arith, high)) d)
      (up k (i - 1) d (omega (arith, high)) (omega (arith, high, within))),
  λ k d low high. above_greater (ord (get_or xs k d)) (ord (get_or xs i d)) (above (omega (arith, low, high)) d)
      (up i k d low high),
)
