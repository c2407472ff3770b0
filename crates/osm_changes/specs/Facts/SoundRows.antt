-- A map is sound if and only if each row that a look-up finds is sound.
use Rattle.std.proofs.Common.{sym, ap, ◌∙◌}
use Rattle.std.specs.Prelude.{◌≡◌, Bool, true, false, not, ◌&&◌, T, [], ◌∷◌, Some, None, refl, cond, filter}
use Rattle.osm_refs.specs.Prelude.{list_all, is_eq, is_sorted, below_all, find, name_cmp, AreInOrder, row_at, first, second, find_below, same_names, is_eq-name_cmp_itself, row_at_is_find, Rows, so, both_true, first_true, second_true}
use Rattle.osm_elements.specs.declared.name.Name.{Name}
use Rattle.osm_elements.specs.declared.element.Element.{Element}
use Rattle.osm_elements.specs.Facts.Tests.{is_true}
use Rattle.osm_changes.specs.Sound.{is_sound, is_sound_row}

some_inside : {X : Type 0} (x y : X) → Some x ≡ Some y → x ≡ y
some_inside x y e = cc

module _ {A : Type 0} where
  -- a row that is found among the later rows is found among all rows
  later : (e : Name × Element A) (es : Rows A) → T (below_all name_cmp e.0 es) → (y : Name) (v : Element A) → find name_cmp y es ≡ Some v → find name_cmp y (e ∷ es) ≡ Some v
  later e es h y v is = by (is_eq (name_cmp y e.0)) refl
    where
      by : (b : Bool) → is_eq (name_cmp y e.0) ≡ b → cond b (Some e.1) (find name_cmp y es) ≡ Some v
      by true t =
          let none : find name_cmp y es ≡ None = ap (λ q. find name_cmp q es) (same_names y e.0 t) ∙ find_below name_cmp e.0 es h in absurd (cc)
      by false t = is

  -- if each row that is found passes a test, all rows pass it
  all_found : (p : Name → Element A → Bool) (es : Rows A) → AreInOrder es → ((y : Name) (v : Element A) → find name_cmp y es ≡ Some v → p y v ≡ true) → list_all (λ r. p r.0 r.1) es ≡ true
  all_found p [] sorted h = refl
  all_found p (e ∷ es) sorted h =
      both_true (p e.0 e.1) (list_all (λ r. p r.0 r.1) es)
      (h e.0 e.1 (ap (λ b. cond b (Some e.1) (find name_cmp e.0 es)) (is_eq-name_cmp_itself e.0)))
      (all_found p es (second (below_all name_cmp e.0 es) (is_sorted name_cmp es) sorted) (λ y v is. h y v (later e es (first (below_all name_cmp e.0 es) (is_sorted name_cmp es) sorted) y v is)))

  -- if all rows pass a test, each row that is found passes it
  pub found_passes : (p : Name → Element A → Bool) (es : Rows A) → list_all (λ r. p r.0 r.1) es ≡ true → (y : Name) (v : Element A) → row_at es y ≡ Some v → p y v ≡ true
  found_passes p [] all y v is = absurd (cc)
  found_passes p (e ∷ es) all y v is = by (is_eq (name_cmp y e.0)) refl is (found_passes p es (second_true (p e.0 e.1) (list_all (λ r. p r.0 r.1) es) all) y v)
    where
      by : (b : Bool) → is_eq (name_cmp y e.0) ≡ b → cond b (Some e.1) (row_at es y) ≡ Some v → (row_at es y ≡ Some v → p y v ≡ true) → p y v ≡ true
      by true t f rest = ap (λ q. p q v) (same_names y e.0 t) ∙ ap (p e.0) (sym (some_inside e.1 v f)) ∙ first_true (p e.0 e.1) (list_all (λ r. p r.0 r.1) es) all
      by false t f rest = rest f

  pub sound_row : (m : Rows A) → is_sound m ≡ true → (y : Name) (v : Element A) → row_at m y ≡ Some v → is_sound_row m y v ≡ true
  sound_row m sound y v is = found_passes (is_sound_row m) m (second_true (is_sorted name_cmp m) (list_all (λ r. is_sound_row m r.0 r.1) m) sound) y v is

  pub sound_in_order : (m : Rows A) → is_sound m ≡ true → AreInOrder m
  sound_in_order m sound = so (is_sorted name_cmp m) (first_true (is_sorted name_cmp m) (list_all (λ r. is_sound_row m r.0 r.1) m) sound)

  pub sound_from_rows : (m : Rows A) → AreInOrder m → ((y : Name) (v : Element A) → row_at m y ≡ Some v → is_sound_row m y v ≡ true) → is_sound m ≡ true
  sound_from_rows m sorted h =
      both_true (is_sorted name_cmp m) (list_all (λ r. is_sound_row m r.0 r.1) m) (is_true (is_sorted name_cmp m) sorted)
      (all_found (is_sound_row m) m sorted (λ y v is. h y v (row_at_is_find m y ∙ is)))

  -- if a filter keeps no row, no row passes
  pub none_passes : (p : Name × Element A → Bool) (es : Rows A) → filter p es ≡ [] → list_all (λ r. not (p r)) es ≡ true
  none_passes p [] e = refl
  none_passes p (r ∷ es) e = by (p r) (none_passes p es) e
    where
      by : (b : Bool) → (filter p es ≡ [] → list_all (λ r. not (p r)) es ≡ true) → cond b (r ∷ filter p es) (filter p es) ≡ [] → (not b && list_all (λ r. not (p r)) es) ≡ true
      by true go f = absurd (cc)
      by false go f = go f
