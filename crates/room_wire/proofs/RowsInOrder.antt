-- Rows whose names rise are in order.
use Rattle.std.proofs.Common.{◌≡◌, ◌&&◌, true, List, [], ◌∷◌, map, refl, sym, ap₂, ◌∙◌}
use Rattle.room_wire.specs.Prelude.{is_sorted, below_all, Name, Row, name_cmp, row_pair, AreInOrder, are_rising, so}

module _ {A : Type 0} where
  below_same : (x : Name) (rows : List (Row A)) → below_all name_cmp x (map (λ y. (y, tt {0})) (map (λ r. r.name) rows)) ≡ below_all name_cmp x (map row_pair rows)
  below_same x [] = refl
  below_same x (r ∷ rs) = rw (below_same x rs) refl

  sorted_same : (rows : List (Row A)) → are_rising (map (λ r. r.name) rows) ≡ is_sorted name_cmp (map row_pair rows)
  sorted_same [] = refl
  sorted_same (r ∷ rs) = ap₂ (λ a b. a && b) (below_same r.name rs) (sorted_same rs)

  pub rising_is_in_order : (rows : List (Row A)) → are_rising (map (λ r. r.name) rows) ≡ true → AreInOrder (map row_pair rows)
  rising_is_in_order rows h = so (is_sorted name_cmp (map row_pair rows)) (sym (sorted_same rows) ∙ h)
