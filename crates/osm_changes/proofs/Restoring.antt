-- Changes that are taken back restore the map that they are from.
use Rattle.std.proofs.Common.{All, ◌≡◌, suc, Bool, true, false, List, [], ◌∷◌, ◌++◌, refl, cond, get_or, sym, ap, subst, ◌∙◌, arith}
use Rattle.std.proofs.lemmas.List.Elements.{All-map}
use Rattle.osm_changes.specs.Prelude.{Name, same_rows, Rows, name_set, names_of, row_at, AreInOrder, IsRising-name_set, Change, tags_at, rest_at, is_same_cell, half_at, differing, change_at, differences, cell_of, taken_back, inverse, half_after, row_after, changed, AreChanges, AreFrom, half, row_of, same_cells, AreInOrder-changed, row_at-changed, half_after-differences, row_of-halves, AreChanges-rows_changes, differences-all_rows}
use Rattle.osm_changes.specs.declared.cell.Cell.{Cell}
use Rattle.osm_changes.proofs.HalvesAfter.{entered_at}

module _ {A : Type 0} where
  -- a half that is changed and changed back stays the same
  there_and_back : (m : Rows A) (cs : List (Change A)) → All (λ (c : Change A). c.before ≡ half_at m (cell_of c)) cs
      → (c : Cell) → half_after (inverse cs) c (half_after cs c (half_at m c)) ≡ half_at m c
  there_and_back m [] from c = refl
  there_and_back m (d ∷ ds) from c = by (is_same_cell c (cell_of d)) refl
      (there_and_back m ds (λ k e l. from (suc k) e (omega (arith, l))) c)
    where
      by : (b : Bool) → is_same_cell c (cell_of d) ≡ b
          → half_after (inverse ds) c (half_after ds c (half_at m c)) ≡ half_at m c
          → cond b d.before (half_after (inverse ds) c (cond b d.after (half_after ds c (half_at m c)))) ≡ half_at m c
      by true e i = from 0 d (omega arith) ∙ ap (half_at m) (sym (same_cells c (cell_of d) e))
      by false e i = i

  -- the halves of the map after changes are the halves after the changes
  half_at-changed : (m : Rows A) (cs : List (Change A)) → AreFrom m cs → (c : Cell)
      → half_at (changed m cs) c ≡ half_after cs c (half_at m c)
  half_at-changed m cs from c = ap (half c.part) (row_at-changed m cs c.name) ∙ from.whole c

  -- the inverse leads back to the halves before
  back : (m : Rows A) (cs : List (Change A)) → AreFrom m cs → (c : Cell)
      → half_after (inverse cs) c (half_at (changed m cs) c) ≡ half_at m c
  back m cs from c = ap (half_after (inverse cs) c) (half_at-changed m cs from c) ∙ there_and_back m cs from.before c

  row_back : (m : Rows A) (cs : List (Change A)) → AreFrom m cs → (x : Name)
      → row_after (inverse cs) x (row_at (changed m cs) x) ≡ row_at m x
  row_back m cs from x = (λ i. row_of (back m cs from (tags_at x) i) (back m cs from (rest_at x) i))
      ∙ row_of-halves (row_at m x)

  -- so the map after changes and their inverse is the map before
  pub restored : (m : Rows A) (cs : List (Change A)) → AreInOrder m → AreChanges cs → AreFrom m cs
      → changed (changed m cs) (inverse cs) ≡ m
  restored m cs order are from = same_rows (changed (changed m cs) (inverse cs)) m
      (AreInOrder-changed (changed m cs) (inverse cs) (AreInOrder-changed m cs order)) order
      (λ x. row_at-changed (changed m cs) (inverse cs) x ∙ row_back m cs from x)

  pub AreFrom-inverse : (m : Rows A) (cs : List (Change A)) → AreInOrder m → AreChanges cs → AreFrom m cs
      → AreFrom (changed m cs) (inverse cs)
  AreFrom-inverse m cs order are from = record {
    before = All-map (λ (c : Change A). c.before ≡ half_at (changed m cs) (cell_of c)) taken_back cs
        (λ k d l. sym (half_at-changed m cs from (cell_of (get_or cs k d))
        ∙ entered_at cs are.rising k d (half_at m (cell_of (get_or cs k d))) l));
    whole = λ c. ap (half c.part) (row_back m cs from c.name) ∙ sym (back m cs from c);
  }

  -- the row of the halves that changes between two maps make
  row_between : (m n : Rows A) (x : Name) → row_after (differences m n) x (row_at m x) ≡ row_at n x
  row_between m n x = (λ i. row_of (half_after-differences m n (tags_at x) i)
      (half_after-differences m n (rest_at x) i)) ∙ row_of-halves (row_at n x)

  pub differences_from : (m n : Rows A) → AreFrom m (differences m n)
  differences_from m n = record {
    before = All-map (λ (c : Change A). c.before ≡ half_at m (cell_of c)) (change_at m n) (differing m n)
        (λ k d l. refl);
    whole = λ c. ap (half c.part) (row_between m n c.name) ∙ sym (half_after-differences m n c);
  }

  pub differences_changes : (m n : Rows A) → AreChanges (differences m n)
  differences_changes m n = subst AreChanges (sym (differences-all_rows m n))
      (AreChanges-rows_changes m (row_at n) (name_set (names_of m ++ names_of n))
      (IsRising-name_set (names_of m ++ names_of n)))
