-- Changes that are the differences of two maps.
use Rattle.std.proofs.Common.{append-nil, sym, ap, ◌∙◌}
use Rattle.std.specs.Prelude.{◌≡◌, ◌≢◌, Bool, true, false, not, ◌||◌, [], ◌∷◌, Option, Some, None, refl, cond, option_map}
use Rattle.osm_drafts.specs.Prelude.{Rows, is_same, row_at, same_names, is_eq-name_cmp_itself, is_same_row, row_changes, rows_changes, differences, differing_are, differences-rows, same_row, equal_row}
use Rattle.osm_elements.specs.declared.name.Name.{Name}
use Rattle.osm_elements.specs.declared.element.Element.{Element}
use Rattle.osm_elements.specs.Facts.Dropped.{same_either_way}
use Rattle.edit_simple.specs.Contents.{each_row, at_name}
use Rattle.edit_simple.specs.Facts.EachRow.{row_at-each_row}

module _ {A : Type 0} where
  -- two maps that differ at only one name
  pub one_difference : (m n : Rows A) (x : Name) → is_same_row (row_at m x) (row_at n x) ≡ false → ((y : Name) → is_same y x ≡ false → row_at n y ≡ row_at m y)
      → row_changes x (row_at m x) (row_at n x) ≡ differences m n
  one_difference m n x other rest =
      sym (append-nil (row_changes x (row_at m x) (row_at n x))) ∙ ap (rows_changes m (row_at n)) (differing_are m n (x ∷ []) tt (λ y. by y (is_same y x) refl))
      ∙ sym (differences-rows m n)
    where
      by : (y : Name) (b : Bool) → is_same y x ≡ b → (b || false) ≡ not (is_same_row (row_at m y) (row_at n y))
      by y true e = sym (ap (λ z. not (is_same_row (row_at m z) (row_at n z))) (same_names y x e) ∙ ap not other)
      by y false e = sym (ap (λ o. not (is_same_row (row_at m y) o)) (rest y e) ∙ ap not (same_row (row_at m y)))

  -- different rows do not pass the test of equality
  pub apart_rows : (o p : Option (Element A)) → p ≢ o → is_same_row o p ≡ false
  apart_rows o p apart = by (is_same_row o p) refl
    where
      by : (b : Bool) → is_same_row o p ≡ b → b ≡ false
      by true e = absurd (apart (sym (equal_row o p e)))
      by false e = refl

  -- the change of one element
  pub one_rewritten : (m : Rows A) (x : Name) (f : Element A → Element A) (v : Element A) → row_at m x ≡ Some v → Some (f v) ≢ Some v
      → row_changes x (Some v) (Some (f v)) ≡ differences m (each_row (at_name x f) m)
  one_rewritten m x f v is apart =
      ap (λ o. row_changes x o (Some (f v))) (sym is) ∙ ap (row_changes x (row_at m x)) (sym now)
      ∙ one_difference m n x (apart_rows (row_at m x) (row_at n x) (λ e. apart (sym now ∙ e ∙ is))) rest
    where
      n : Rows A
      n = each_row (at_name x f) m

      now : row_at n x ≡ Some (f v)
      now = row_at-each_row (at_name x f) m x ∙ ap (option_map (at_name x f x)) is ∙ ap (λ b. Some (cond b (f v) v)) (is_eq-name_cmp_itself x)

      left : (y : Name) (o : Option (Element A)) → is_same x y ≡ false → option_map (at_name x f y) o ≡ o
      left y None e = refl
      left y (Some w) e = ap (λ b. Some (cond b (f w) w)) e

      rest : (y : Name) → is_same y x ≡ false → row_at n y ≡ row_at m y
      rest y e = row_at-each_row (at_name x f) m y ∙ left y (row_at m y) (same_either_way x y ∙ e)
