-- The table of a map agrees with the map's rows.
use Rattle.std.proofs.Common.{sym, ap, ◌∙◌}
use Rattle.std.specs.Prelude.{◌≡◌, Bool, true, false, cond, T, List, [], ◌∷◌, map, Some, None, unwrap_or, refl, filter}
use Rattle.osm_elements.specs.Prelude.{below_all, find, name_cmp, AreInOrder, row_at, put_row, is_among-name_set, both, first, second, find_below, same_names, row_at_is_find, row_at-put_row, AreInOrder-put_row, row_at-rows_but, AreInOrder-rows_but, Rows, is_same, is_among, name_set, rows_but}
use Rattle.osm_elements.specs.declared.name.Name.{Name}
use Rattle.osm_elements.specs.declared.element.Element.{Element}
use Rattle.osm_refs.specs.References.{references, row_references, refers_to, users}
use Rattle.osm_refs.specs.Tables.{references_at, referring, has_names, table_of, users_in}
use Rattle.osm_refs.specs.Facts.Tables.{IsTable, same_tables, references_at-referring, IsTable-referring}

module _ {A : Type 0} where
  pub users_in-table_of : (m : Rows A) (e : Name) → users_in (table_of m) e ≡ users m e
  users_in-table_of [] e = refl
  users_in-table_of (r ∷ m) e = by (name_set (references r.1)) (is_among (references r.1) e) (is_among-name_set e (references r.1)) (users_in-table_of m e)
    where
      by : (set : List Name) (b : Bool) → is_among set e ≡ b → users_in (table_of m) e ≡ users m e
          → users_in (cond (has_names set) ((r.0, set) ∷ table_of m) (table_of m)) e ≡ map (λ s. s.0) (cond b (r ∷ filter (λ s. refers_to s.1 e) m) (filter (λ s. refers_to s.1 e) m))
      by [] true h i = absurd (cc)
      by [] false h i = i
      by (y ∷ ys) true h i = ap (λ b. map (λ s. s.0) (cond b ((r.0, y ∷ ys) ∷ filter (λ s. is_among s.1 e) (table_of m)) (filter (λ s. is_among s.1 e) (table_of m)))) h ∙ ap (λ names. r.0 ∷ names) i
      by (y ∷ ys) false h i = ap (λ b. map (λ s. s.0) (cond b ((r.0, y ∷ ys) ∷ filter (λ s. is_among s.1 e) (table_of m)) (filter (λ s. is_among s.1 e) (table_of m)))) h ∙ i

  pub references_at-table_of : (m : Rows A) (x : Name) → AreInOrder m → references_at (table_of m) x ≡ name_set (row_references (row_at m x))
  references_at-table_of [] x h = refl
  references_at-table_of (r ∷ m) x h = by (is_same x r.0) refl (name_set (references r.1)) refl (references_at-table_of m x (second _ _ h))
    where
      none : is_same x r.0 ≡ true → row_at m x ≡ None
      none e = ap (row_at m) (same_names x r.0 e) ∙ row_at_is_find m r.0 ∙ find_below name_cmp r.0 m (first _ _ h)

      by : (b : Bool) → is_same x r.0 ≡ b → (set : List Name) → name_set (references r.1) ≡ set → references_at (table_of m) x ≡ name_set (row_references (row_at m x))
          → references_at (cond (has_names set) ((r.0, set) ∷ table_of m) (table_of m)) x ≡ name_set (row_references (cond b (Some r.1) (row_at m x)))
      by true e [] f i = i ∙ ap (λ o. name_set (row_references o)) (none e) ∙ sym f
      by true e (y ∷ ys) f i = ap (λ b. unwrap_or (cond b (Some (y ∷ ys)) (find name_cmp x (table_of m))) []) e ∙ sym f
      by false e [] f i = i
      by false e (y ∷ ys) f i = ap (λ b. unwrap_or (cond b (Some (y ∷ ys)) (find name_cmp x (table_of m))) []) e ∙ i

  below_all-table_of : (x : Name) (m : Rows A) → T (below_all name_cmp x m) → T (below_all name_cmp x (table_of m))
  below_all-table_of x [] h = tt
  below_all-table_of x (r ∷ m) h = by (name_set (references r.1)) (below_all-table_of x m (second _ _ h))
    where
      by : (set : List Name) → T (below_all name_cmp x (table_of m)) → T (below_all name_cmp x (cond (has_names set) ((r.0, set) ∷ table_of m) (table_of m)))
      by [] i = i
      by (y ∷ ys) i = both _ _ (first _ _ h) i

  pub IsTable-table_of : (m : Rows A) → AreInOrder m → IsTable (table_of m)
  IsTable-table_of [] h = (tt, tt)
  IsTable-table_of (r ∷ m) h = by (name_set (references r.1)) (IsTable-table_of m (second _ _ h))
    where
      by : (set : List Name) → IsTable (table_of m) → IsTable (cond (has_names set) ((r.0, set) ∷ table_of m) (table_of m))
      by [] i = i
      by (y ∷ ys) i = (both _ _ (below_all-table_of r.0 m (first _ _ h)) i.0, i.1)

  pub table_of-put_row : (m : Rows A) (x : Name) (v : Element A) → AreInOrder m → table_of (put_row m x v) ≡ referring (table_of m) x (name_set (references v))
  table_of-put_row m x v h =
      same_tables (table_of (put_row m x v)) (referring (table_of m) x (name_set (references v)))
      (IsTable-table_of (put_row m x v) (AreInOrder-put_row m x v h)) (IsTable-referring (table_of m) x (name_set (references v)) (IsTable-table_of m h))
      (λ q. references_at-table_of (put_row m x v) q (AreInOrder-put_row m x v h) ∙ ap (λ o. name_set (row_references o)) (row_at-put_row m x v q) ∙ by q (is_same q x)
      ∙ sym (references_at-referring (table_of m) x (name_set (references v)) q))
    where
      by : (q : Name) (b : Bool) → name_set (row_references (cond b (Some v) (row_at m q))) ≡ cond b (name_set (references v)) (references_at (table_of m) q)
      by q true = refl
      by q false = sym (references_at-table_of m q h)

  pub table_of-rows_but : (m : Rows A) (x : Name) → AreInOrder m → table_of (rows_but x m) ≡ referring (table_of m) x []
  table_of-rows_but m x h =
      same_tables (table_of (rows_but x m)) (referring (table_of m) x [])
      (IsTable-table_of (rows_but x m) (AreInOrder-rows_but m x h)) (IsTable-referring (table_of m) x [] (IsTable-table_of m h))
      (λ q. references_at-table_of (rows_but x m) q (AreInOrder-rows_but m x h) ∙ ap (λ o. name_set (row_references o)) (row_at-rows_but m x q) ∙ by q (is_same q x)
      ∙ sym (references_at-referring (table_of m) x [] q))
    where
      by : (q : Name) (b : Bool) → name_set (row_references (cond b None (row_at m q))) ≡ cond b [] (references_at (table_of m) q)
      by q true = refl
      by q false = sym (references_at-table_of m q h)
