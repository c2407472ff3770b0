-- Rows without those of a name.
use Rattle.std.proofs.Common.{sym, ap, ◌∙◌}
use Rattle.std.specs.Prelude.{◌≡◌, Bool, true, false, not, None, refl, cond}
use Rattle.std.specs.FinMap.Entries.{find-where_key, is_sorted-where_key}
use Rattle.osm_elements.specs.declared.name.Name.{Name}
use Rattle.osm_elements.specs.NameOrder.{name_cmp}
use Rattle.osm_elements.specs.Facts.Names.{name_cmp-IsAntisymmetric}
use Rattle.osm_elements.specs.Rows.{AreInOrder, row_at}
use Rattle.osm_elements.specs.Facts.Rows.{same_names, is_eq-name_cmp_itself, row_at_is_find}
use Rattle.osm_elements.specs.Maps.{Rows, is_same, rows_but}

pub same_either_way : (x y : Name) → is_same x y ≡ is_same y x
same_either_way x y = by (is_same x y) refl (is_same y x) refl
  where
    by : (a : Bool) → is_same x y ≡ a → (b : Bool) → is_same y x ≡ b → a ≡ b
    by true e true f = refl
    by true e false f = sym (is_eq-name_cmp_itself y) ∙ ap (λ z. is_same y z) (sym (same_names x y e)) ∙ f
    by false e true f = sym e ∙ ap (λ z. is_same x z) (same_names y x f) ∙ is_eq-name_cmp_itself x
    by false e false f = refl

module _ {A : Type 0} where
  -- the row at a name after the rows of a name are dropped
  pub row_at-rows_but : (m : Rows A) (y x : Name) → row_at (rows_but y m) x ≡ cond (is_same x y) None (row_at m x)
  row_at-rows_but m y x =
      row_at_is_find (rows_but y m) x
      ∙ find-where_key name_cmp (λ z. not (is_same y z)) x (λ z e. ap (λ w. not (is_same y w)) (sym (name_cmp-IsAntisymmetric x z e))) m
      ∙ ap (λ o. cond (not (is_same y x)) o None) (sym (row_at_is_find m x)) ∙ by (is_same y x) (same_either_way x y)
    where
      by : (b : Bool) → is_same x y ≡ b → cond (not b) (row_at m x) None ≡ cond (is_same x y) None (row_at m x)
      by true e = ap (λ b. cond b None (row_at m x)) (sym e)
      by false e = ap (λ b. cond b None (row_at m x)) (sym e)

  pub AreInOrder-rows_but : (m : Rows A) (y : Name) → AreInOrder m → AreInOrder (rows_but y m)
  AreInOrder-rows_but m y h = is_sorted-where_key name_cmp (λ z. not (is_same y z)) m h
