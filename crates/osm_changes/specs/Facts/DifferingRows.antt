-- The names at which two maps differ, and the changes between the maps, made name by name.
use Rattle.std.proofs.Common.{sym, ap, ◌∙◌}
use Rattle.std.specs.Prelude.{◌≡◌, ◌&&◌, ◌||◌, Bool, true, false, not, List, ◌++◌, Option, Some, None, is_some, refl}
use Rattle.osm_refs.specs.Prelude.{Rows, is_among, is_present, name_set, names_of, row_at, is_among-name_set, is_among-append, is_among-names_of, is_among-passing, same_rising, IsRising-filter, IsRising-name_set, IsRising}
use Rattle.osm_elements.specs.declared.name.Name.{Name}
use Rattle.osm_elements.specs.declared.element.Element.{Element}
use Rattle.osm_changes.specs.SameRows.{is_same_row}
use Rattle.osm_changes.specs.Changes.{rows_changes, differences}
use Rattle.osm_changes.specs.Facts.RowChanges.{differing_names, others_of, rows_changes-others, differences-rows, same-rows_changes}
use Rattle.osm_changes.specs.Facts.SameElements.{same_row}

module _ {A : Type 0} where
  is_among-differing_names : (m n : Rows A) (x : Name) → is_among (differing_names m n) x ≡ not (is_same_row (row_at m x) (row_at n x))
  is_among-differing_names m n x = is_among-passing (λ y. not (is_same_row (row_at m y) (row_at n y))) (name_set (names_of m ++ names_of n)) x ∙ by (is_same_row (row_at m x) (row_at n x)) refl
    where
      there : is_among (name_set (names_of m ++ names_of n)) x ≡ (is_present m x || is_present n x)
      there = is_among-name_set x (names_of m ++ names_of n) ∙ is_among-append x (names_of m) (names_of n)
          ∙ ap (λ b. b || is_among (names_of n) x) (is_among-names_of m x) ∙ ap (λ b. is_present m x || b) (is_among-names_of n x)

      one : (o p : Option (Element A)) → is_same_row o p ≡ false → (is_some o || is_some p) ≡ true
      one None None e = absurd (cc)
      one None (Some w) e = refl
      one (Some v) p e = refl

      by : (b : Bool) → is_same_row (row_at m x) (row_at n x) ≡ b → (not b && is_among (name_set (names_of m ++ names_of n)) x) ≡ not b
      by true e = refl
      by false e = there ∙ one (row_at m x) (row_at n x) e

  -- the names at which two maps differ, as a rising list
  pub differing_are : (m n : Rows A) (names : List Name) → IsRising names → ((y : Name) → is_among names y ≡ not (is_same_row (row_at m y) (row_at n y))) → names ≡ differing_names m n
  differing_are m n names rising are =
      same_rising names (differing_names m n) rising (IsRising-filter (λ y. not (is_same_row (row_at m y) (row_at n y))) (name_set (names_of m ++ names_of n)) (IsRising-name_set (names_of m ++ names_of n)))
      (λ y. are y ∙ sym (is_among-differing_names m n y))

  -- changes of names that include all at which two maps differ are their differences
  pub covering : (m n : Rows A) (names : List Name) → IsRising names → ((y : Name) → is_among names y ≡ false → row_at n y ≡ row_at m y)
      → rows_changes m (row_at n) names ≡ differences m n
  covering m n names rising rest =
      rows_changes-others m n names
      ∙ ap (rows_changes m (row_at n)) (differing_are m n (others_of m n names) (IsRising-filter differs_at names rising) (λ y. is_among-passing differs_at names y ∙ by y (is_among names y) refl))
      ∙ sym (differences-rows m n)
    where
      differs_at : Name → Bool
      differs_at y = not (is_same_row (row_at m y) (row_at n y))

      and_true : (b : Bool) → (b && true) ≡ b
      and_true true = refl
      and_true false = refl

      by : (y : Name) (b : Bool) → is_among names y ≡ b → (differs_at y && b) ≡ differs_at y
      by y true e = and_true (differs_at y)
      by y false e =
          let same : differs_at y ≡ false = ap (λ o. not (is_same_row (row_at m y) o)) (rest y e) ∙ ap not (same_row (row_at m y)) in
          ap (λ b. b && false) same ∙ sym same

  -- the same, if the rows of these names become those of the second map
  pub rows_covering : (m n : Rows A) (after : Name → Option (Element A)) (names : List Name) → IsRising names
      → ((y : Name) → is_among names y ≡ false → row_at n y ≡ row_at m y)
      → ((y : Name) → is_among names y ≡ true → after y ≡ row_at n y) → rows_changes m after names ≡ differences m n
  rows_covering m n after names rising rest becomes =
      same-rows_changes m m after (row_at n) names (λ y i. (refl, becomes y i)) ∙ covering m n names rising rest
