-- The rows of a map after a put and after a name is taken out.
use Rattle.std.specs.Prelude.{◌≡◌, ◌≢◌, Bool, true, false, not, cond, T, List, Some, None}
use mathlib.Core.Path.{refl, sym, ap, subst, ◌∙◌}
use Rattle.std.specs.Ordering.{is_eq}
use Rattle.std.specs.Cmp.{tied_itself}
use Rattle.std.specs.FinMap.Entries.{put, find, find-put, is_sorted-put, find-where_key, is_sorted-where_key, same_entries}
use Rattle.std.specs.declared.cmp.Ordering.{Ordering}
use Rattle.std.specs.declared.cmp.Ordering.TheVariants.{Less, Equal, Greater}
use Rattle.osm_elements.specs.declared.name.Name.{Name}
use Rattle.osm_elements.specs.declared.element.Element.{Element}
use Rattle.osm_elements.specs.Facts.Entries.{lookup_is_find, insert_is_put, without, remove_is_without}
use Rattle.osm_elements.specs.NameOrder.{name_cmp}
use Rattle.osm_elements.specs.Facts.Names.{name_cmp_total, name_cmp-IsAntisymmetric}
use Rattle.osm_elements.specs.Rows.{row_at, put_row, without_row, AreInOrder}

-- the test for `Equal` is exact
pub same : (o : Ordering) → is_eq o ≡ true → o ≡ Equal
same Less e = absurd (subst (λ b. T (not b)) e tt)
same Equal e = refl
same Greater e = absurd (subst (λ b. T (not b)) e tt)

pub same_names : (x y : Name) → is_eq (name_cmp x y) ≡ true → x ≡ y
same_names x y e = name_cmp-IsAntisymmetric x y (same (name_cmp x y) e)

pub is_eq-name_cmp_itself : (x : Name) → is_eq (name_cmp x x) ≡ true
is_eq-name_cmp_itself x = ap is_eq (tied_itself name_cmp_total x)

-- different names do not compare as equal
pub is_eq-name_cmp_other : (x y : Name) → x ≢ y → is_eq (name_cmp x y) ≡ false
is_eq-name_cmp_other x y apart = by (is_eq (name_cmp x y)) refl
  where
    by : (b : Bool) → is_eq (name_cmp x y) ≡ b → b ≡ false
    by true e = absurd (apart (same_names x y e))
    by false e = refl

-- names that do not compare as equal differ
pub not_same : (x y : Name) → is_eq (name_cmp x y) ≡ false → x ≢ y
not_same x y e p = subst T (sym (is_eq-name_cmp_itself x) ∙ ap (λ z. is_eq (name_cmp x z)) p ∙ e) tt

module _ {A : Type 0} where
  -- the operations on rows are those of `FinMap.Entries`
  pub row_at_is_find : (m : List (Name × Element A)) (x : Name) → row_at m x ≡ find name_cmp x m
  row_at_is_find m x = lookup_is_find name_cmp x m

  pub put_row_is_put : (m : List (Name × Element A)) (x : Name) (v : Element A) → put_row m x v ≡ put name_cmp x v m
  put_row_is_put m x v = insert_is_put name_cmp x v m

  pub without_row_is_filter : (m : List (Name × Element A)) (x : Name) → AreInOrder m → without_row m x ≡ without name_cmp x m
  without_row_is_filter m x h = remove_is_without name_cmp name_cmp_total x m h

  -- the row at any name after a put
  pub row_at-put_row : (m : List (Name × Element A)) (x : Name) (v : Element A) (q : Name) → row_at (put_row m x v) q ≡ cond (is_eq (name_cmp q x)) (Some v) (row_at m q)
  row_at-put_row m x v q =
      row_at_is_find (put_row m x v) q
      ∙ ap (find name_cmp q) (put_row_is_put m x v)
      ∙ find-put name_cmp name_cmp_total q x v m
      ∙ ap (cond (is_eq (name_cmp q x)) (Some v)) (sym (row_at_is_find m q))

  pub row_at-put_row_same : (m : List (Name × Element A)) (x : Name) (v : Element A) → row_at (put_row m x v) x ≡ Some v
  row_at-put_row_same m x v = row_at-put_row m x v x ∙ ap (λ b. cond b (Some v) (row_at m x)) (is_eq-name_cmp_itself x)

  pub row_at-put_row_other : (m : List (Name × Element A)) (x : Name) (v : Element A) (q : Name) → q ≢ x → row_at (put_row m x v) q ≡ row_at m q
  row_at-put_row_other m x v q apart = row_at-put_row m x v q ∙ ap (λ b. cond b (Some v) (row_at m q)) (is_eq-name_cmp_other q x apart)

  -- the row at any name after a name is taken out
  pub row_at-without_row : (m : List (Name × Element A)) (x : Name) (q : Name) → AreInOrder m → row_at (without_row m x) q ≡ cond (not (is_eq (name_cmp x q))) (row_at m q) None
  row_at-without_row m x q h =
      row_at_is_find (without_row m x) q
      ∙ ap (find name_cmp q) (without_row_is_filter m x h)
      ∙ find-where_key name_cmp (λ y. not (is_eq (name_cmp x y))) q (λ y t. ap (λ z. not (is_eq (name_cmp x z))) (sym (name_cmp-IsAntisymmetric q y t))) m
      ∙ ap (λ o. cond (not (is_eq (name_cmp x q))) o None) (sym (row_at_is_find m q))

  pub row_at-without_row_same : (m : List (Name × Element A)) (x : Name) → AreInOrder m → row_at (without_row m x) x ≡ None
  row_at-without_row_same m x h = row_at-without_row m x x h ∙ ap (λ b. cond (not b) (row_at m x) None) (is_eq-name_cmp_itself x)

  pub row_at-without_row_other : (m : List (Name × Element A)) (x : Name) (q : Name) → q ≢ x → AreInOrder m → row_at (without_row m x) q ≡ row_at m q
  row_at-without_row_other m x q apart h = row_at-without_row m x q h ∙ ap (λ b. cond (not b) (row_at m q) None) (is_eq-name_cmp_other x q (λ e. apart (sym e)))

  -- puts and removals keep the order
  pub AreInOrder-put_row : (m : List (Name × Element A)) (x : Name) (v : Element A) → AreInOrder m → AreInOrder (put_row m x v)
  AreInOrder-put_row m x v h = subst (λ n. AreInOrder n) (sym (put_row_is_put m x v)) (is_sorted-put name_cmp name_cmp_total x v m h)

  pub AreInOrder-without_row : (m : List (Name × Element A)) (x : Name) → AreInOrder m → AreInOrder (without_row m x)
  AreInOrder-without_row m x h = subst (λ n. AreInOrder n) (sym (without_row_is_filter m x h)) (is_sorted-where_key name_cmp (λ y. not (is_eq (name_cmp x y))) m h)

  -- two maps with the same row at every name are equal
  pub same_rows : (m n : List (Name × Element A)) → AreInOrder m → AreInOrder n → ((q : Name) → row_at m q ≡ row_at n q) → m ≡ n
  same_rows m n g h is = same_entries name_cmp name_cmp_total name_cmp-IsAntisymmetric m n g h (λ q. sym (row_at_is_find m q) ∙ is q ∙ row_at_is_find n q)

  -- a put row that is taken out again, and a removed row that is put back, lead back to the map
  pub without_row-put_row : (m : List (Name × Element A)) (x : Name) (v : Element A) → AreInOrder m → row_at m x ≡ None → without_row (put_row m x v) x ≡ m
  without_row-put_row m x v h none =
      let sorted = AreInOrder-put_row m x v h in
      same_rows (without_row (put_row m x v) x) m (AreInOrder-without_row (put_row m x v) x sorted) h
      (λ q. row_at-without_row (put_row m x v) x q sorted ∙ at q (is_eq (name_cmp x q)) refl)
    where
      at : (q : Name) (b : Bool) → is_eq (name_cmp x q) ≡ b → cond (not b) (row_at (put_row m x v) q) None ≡ row_at m q
      at q true e = sym none ∙ ap (row_at m) (same_names x q e)
      at q false e = row_at-put_row_other m x v q (λ p. not_same x q e (sym p))

  pub put_row-without_row : (m : List (Name × Element A)) (x : Name) (v : Element A) → AreInOrder m → row_at m x ≡ Some v → put_row (without_row m x) x v ≡ m
  put_row-without_row m x v h some =
      same_rows (put_row (without_row m x) x v) m (AreInOrder-put_row (without_row m x) x v (AreInOrder-without_row m x h)) h
      (λ q. row_at-put_row (without_row m x) x v q ∙ at q (is_eq (name_cmp q x)) refl)
    where
      at : (q : Name) (b : Bool) → is_eq (name_cmp q x) ≡ b → cond b (Some v) (row_at (without_row m x) q) ≡ row_at m q
      at q true e = sym some ∙ ap (row_at m) (sym (same_names q x e))
      at q false e = row_at-without_row_other m x q (not_same q x e) h
