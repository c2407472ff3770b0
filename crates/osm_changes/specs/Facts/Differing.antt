-- A create and a delete change one name.
use Rattle.std.proofs.Common.{ap, ◌∙◌}
use Rattle.std.specs.Prelude.{◌≡◌, ◌&&◌, ◌||◌, Bool, true, false, not, List, [], ◌∷◌, ◌++◌, Some, None, is_some, refl, cond, filter}
use Rattle.std.proofs.lemmas.List.{append-nil}
use Rattle.osm_refs.specs.Prelude.{row_at, put_row, is_among-name_set, is_among-append, is_among-names_of, row_at-rows_but, same_names, is_eq-name_cmp_itself, row_at-put_row, Rows, is_same, is_among, name_set, names_of, is_present, rows_but, IsRising-filter, IsRising-name_set, is_among-passing, same_rising}
use Rattle.osm_elements.specs.declared.name.Name.{Name}
use Rattle.osm_elements.specs.declared.element.Element.{Element}
use Rattle.osm_changes.specs.SameRows.{is_same_row}
use Rattle.osm_changes.specs.Changes.{row_changes, rows_changes, differences}
use Rattle.osm_changes.specs.Facts.RowChanges.{differences-rows}
use Rattle.osm_changes.specs.Facts.SameElements.{same_row}

-- a test that only one name passes keeps just this name
only_name : (p : Name → Bool) (x : Name) (names : List Name) → ((q : Name) → p q ≡ is_same q x)
    → is_among (name_set names) x ≡ true → filter p (name_set names) ≡ x ∷ []
only_name p x names shows among =
    same_rising (filter p (name_set names)) (x ∷ []) (IsRising-filter p (name_set names) (IsRising-name_set names)) tt
    (λ q. is_among-passing p (name_set names) q ∙ ap (λ b. b && is_among (name_set names) q) (shows q)
    ∙ at q (is_same q x) refl)
  where
    at : (q : Name) (b : Bool) → is_same q x ≡ b → (b && is_among (name_set names) q) ≡ (b || false)
    at q true e = ap (is_among (name_set names)) (same_names q x e) ∙ among
    at q false e = refl

module _ {A : Type 0} where
  -- two maps that differ at only one name
  one_change : (m n : Rows A) (x : Name) → ((q : Name) → not (is_same_row (row_at m q) (row_at n q)) ≡ is_same q x)
      → (is_present m x || is_present n x) ≡ true → differences m n ≡ row_changes x (row_at m x) (row_at n x)
  one_change m n x shows is =
      differences-rows m n ∙ ap (rows_changes m (row_at n))
      (only_name (λ q. not (is_same_row (row_at m q) (row_at n q))) x (names_of m ++ names_of n) shows
      (is_among-name_set x (names_of m ++ names_of n) ∙ is_among-append x (names_of m) (names_of n)
      ∙ ap (λ b. b || is_among (names_of n) x) (is_among-names_of m x)
      ∙ ap (λ b. is_present m x || b) (is_among-names_of n x) ∙ is))
      ∙ append-nil (row_changes x (row_at m x) (row_at n x))

  -- a create adds the row of its name
  pub created : (m : Rows A) (x : Name) (v : Element A) → row_at m x ≡ None
      → differences m (put_row m x v) ≡ row_changes x None (Some v)
  created m x v absent =
      one_change m (put_row m x v) x shows
      (ap (λ o. is_present m x || is_some o) now ∙ ap (λ o. is_some o || true) absent)
      ∙ ap (λ o. row_changes x o (row_at (put_row m x v) x)) absent ∙ ap (row_changes x None) now
    where
      now : row_at (put_row m x v) x ≡ Some v
      now = row_at-put_row m x v x ∙ ap (λ b. cond b (Some v) (row_at m x)) (is_eq-name_cmp_itself x)

      by : (q : Name) (b : Bool) → is_same q x ≡ b → not (is_same_row (row_at m q) (cond b (Some v) (row_at m q))) ≡ b
      by q true e = ap (λ o. not (is_same_row o (Some v))) (ap (row_at m) (same_names q x e) ∙ absent)
      by q false e = ap not (same_row (row_at m q))

      shows : (q : Name) → not (is_same_row (row_at m q) (row_at (put_row m x v) q)) ≡ is_same q x
      shows q = ap (λ o. not (is_same_row (row_at m q) o)) (row_at-put_row m x v q) ∙ by q (is_same q x) refl

  -- a delete removes the row of its name
  pub deleted : (m : Rows A) (x : Name) (v : Element A) → row_at m x ≡ Some v
      → differences m (rows_but x m) ≡ row_changes x (Some v) None
  deleted m x v is =
      one_change m (rows_but x m) x shows (ap (λ o. is_some o || is_present (rows_but x m) x) is)
      ∙ ap (λ o. row_changes x o (row_at (rows_but x m) x)) is ∙ ap (row_changes x (Some v)) now
    where
      now : row_at (rows_but x m) x ≡ None
      now = row_at-rows_but m x x ∙ ap (λ b. cond b None (row_at m x)) (is_eq-name_cmp_itself x)

      by : (q : Name) (b : Bool) → is_same q x ≡ b → not (is_same_row (row_at m q) (cond b None (row_at m q))) ≡ b
      by q true e = ap (λ o. not (is_same_row o None)) (ap (row_at m) (same_names q x e) ∙ is)
      by q false e = ap not (same_row (row_at m q))

      shows : (q : Name) → not (is_same_row (row_at m q) (row_at (rows_but x m) q)) ≡ is_same q x
      shows q = ap (λ o. not (is_same_row (row_at m q) o)) (row_at-rows_but m x q) ∙ by q (is_same q x) refl
