-- The rows of a map, noted row by row.
use Rattle.std.proofs.Common.{◌≡◌, List, [], ◌∷◌, ◌++◌, refl, sym, ap, ◌∙◌}
use Rattle.std.proofs.lemmas.List.Sums.{fold-append}
use Rattle.osm_changes.specs.Prelude.{Name, Element, Rows, name_set, AreInOrder, put_row, put_all, AreInOrder-put_all, not_yet_put, references, row_references, Table, references_at, referring, table_of, IsRising-name_set, same_as_name_set, names_but, table_of-put_row, references_at-table_of}

module _ {A : Type 0} where
  -- a name that comes after all names in order has no references yet
  pub refers_to_nothing : (done : Rows A) (x : Name) (v : Element A) (later : Rows A) → AreInOrder (done ++ (x, v) ∷ later) → references_at (table_of (put_all [] done)) x ≡ []
  refers_to_nothing done x v later h =
      references_at-table_of (put_all [] done) x (AreInOrder-put_all done [] tt) ∙ ap (λ o. name_set (row_references o)) (not_yet_put done [] x v later h)

  -- the table after one more row
  pub table_with_row : (done : Rows A) (x : Name) (v : Element A) (users users' : Table) → users ≡ table_of (put_all [] done) → users' ≡ referring users x (name_set (references v))
      → users' ≡ table_of (put_all [] (done ++ (x, v) ∷ []))
  table_with_row done x v users users' is step =
      step ∙ ap (λ u. referring u x (name_set (references v))) is
      ∙ sym (table_of-put_row (put_all [] done) x v (AreInOrder-put_all done [] tt))
      ∙ ap table_of (sym (fold-append (λ n (r : Name × Element A). put_row n r.0 r.1) [] done ((x, v) ∷ [])))

-- all names are new to an empty list
pub all_are_new : (names : List Name) → names_but names [] ≡ names
all_are_new [] = refl
all_are_new (x ∷ xs) = ap (λ rest. x ∷ rest) (all_are_new xs)

pub set_of_set : (names : List Name) → name_set (name_set names) ≡ name_set names
set_of_set names = sym (same_as_name_set (name_set names) (name_set names) (IsRising-name_set names) (λ q. refl))
