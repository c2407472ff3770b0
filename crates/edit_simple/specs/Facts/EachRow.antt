-- Maps with every element replaced.
use Rattle.std.proofs.Common.{sym, ap, subst, ◌∙◌}
use Rattle.std.specs.Prelude.{◌≡◌, Bool, true, false, ◌&&◌, T, [], ◌∷◌, Some, refl, cond, option_map}
use Rattle.room_interface.specs.Prelude.{is_eq, is_lt, is_sorted, below_all, find, name_cmp, Rows, AreInOrder, row_at, same_names, row_at_is_find}
use Rattle.osm_elements.specs.declared.name.Name.{Name}
use Rattle.osm_elements.specs.declared.element.Element.{Element}
use Rattle.edit_simple.specs.Contents.{each_row}

module _ {A : Type 0} where
  below_each_row : (f : Name → Element A → Element A) (x : Name) (m : Rows A) → below_all name_cmp x (each_row f m) ≡ below_all name_cmp x m
  below_each_row f x [] = refl
  below_each_row f x (e ∷ es) = ap (λ b. is_lt (name_cmp x e.0) && b) (below_each_row f x es)

  is_sorted-each_row : (f : Name → Element A → Element A) (m : Rows A) → is_sorted name_cmp (each_row f m) ≡ is_sorted name_cmp m
  is_sorted-each_row f [] = refl
  is_sorted-each_row f (e ∷ es) = λ i. below_each_row f e.0 es i && is_sorted-each_row f es i

  pub AreInOrder-each_row : (f : Name → Element A → Element A) (m : Rows A) → AreInOrder m → AreInOrder (each_row f m)
  AreInOrder-each_row f m h = subst T (sym (is_sorted-each_row f m)) h

  find-each_row : (f : Name → Element A → Element A) (q : Name) (m : Rows A) → find name_cmp q (each_row f m) ≡ option_map (f q) (find name_cmp q m)
  find-each_row f q [] = refl
  find-each_row f q (e ∷ es) = by (is_eq (name_cmp q e.0)) refl (find-each_row f q es)
    where
      by : (b : Bool) → is_eq (name_cmp q e.0) ≡ b → find name_cmp q (each_row f es) ≡ option_map (f q) (find name_cmp q es)
          → cond b (Some (f e.0 e.1)) (find name_cmp q (each_row f es)) ≡ option_map (f q) (cond b (Some e.1) (find name_cmp q es))
      by true t rest = ap (λ z. Some (f z e.1)) (sym (same_names q e.0 t))
      by false t rest = rest

  -- the row at a name after every element is replaced
  pub row_at-each_row : (f : Name → Element A → Element A) (m : Rows A) (q : Name) → row_at (each_row f m) q ≡ option_map (f q) (row_at m q)
  row_at-each_row f m q = row_at_is_find (each_row f m) q ∙ find-each_row f q m ∙ ap (option_map (f q)) (sym (row_at_is_find m q))
