-- A map from which one row is removed, and in which every other row is rewritten.
use Rattle.std.proofs.Common.{sym, ap, ◌∙◌}
use Rattle.std.specs.Prelude.{◌≡◌, ◌≢◌, Bool, true, false, Some, None, is_some, cond, option_map}
use Rattle.edit_simple.specs.Prelude.{Rows, is_same, is_present, rows_but, row_at, is_eq-name_cmp_itself, row_at-rows_but, AreInOrder-rows_but, is_sound, sound_in_order, each_row, AreInOrder-each_row, row_at-each_row, Fine, Rewrites, stays_sound, rewritten, still_there, differ_at}
use Rattle.osm_elements.specs.declared.name.Name.{Name}
use Rattle.osm_elements.specs.declared.element.Element.{Element}
use Rattle.edit_topology.specs.Facts.Fitting.{same_fine}

module _ {A : Type 0} where
  pub row_at-each_but : (m : Rows A) (x : Name) (f : Name → Element A → Element A) (y : Name) → row_at (each_row f (rows_but x m)) y ≡ option_map (f y) (cond (is_same y x) None (row_at m y))
  row_at-each_but m x f y = row_at-each_row f (rows_but x m) y ∙ ap (option_map (f y)) (row_at-rows_but m x y)

  pub each_but_rewrites : (m : Rows A) (x : Name) (f : Name → Element A → Element A) → is_sound m ≡ true → Rewrites m (each_row f (rows_but x m)) (λ y o. option_map (f y) (cond (is_same y x) None o))
  each_but_rewrites m x f sound = record { in_order = AreInOrder-each_row f (rows_but x m) (AreInOrder-rows_but m x (sound_in_order m sound)); rows = row_at-each_but m x f }

  pub each_but_there : (m : Rows A) (x : Name) (f : Name → Element A → Element A) (e : Name) → is_present m e ≡ true → is_same e x ≡ false → is_present (each_row f (rows_but x m)) e ≡ true
  each_but_there m x f e here other = ap is_some (row_at-each_but m x f e ∙ ap (λ b. option_map (f e) (cond b None (row_at m e))) other) ∙ still_there (f e) (row_at m e) ∙ here

  pub each_but_gone : (m : Rows A) (x : Name) (f : Name → Element A → Element A) → is_present (each_row f (rows_but x m)) x ≡ false
  each_but_gone m x f = ap is_some (row_at-each_but m x f x ∙ ap (λ b. option_map (f x) (cond b None (row_at m x))) (is_eq-name_cmp_itself x))

  -- if the name was present and each other row becomes a fine row, the result is sound and differs from the map
  pub each_but_accepted : (m : Rows A) (x : Name) (f : Name → Element A → Element A) → is_sound m ≡ true → is_present m x ≡ true
      → ((y : Name) (v : Element A) → row_at m y ≡ Some v → Fine (each_row f (rows_but x m)) y (f y v))
      → (is_sound (each_row f (rows_but x m)) ≡ true) × (each_row f (rows_but x m) ≢ m)
  each_but_accepted m x f sound here fits =
      (stays_sound m n (λ y o. option_map (f y) (cond (is_same y x) None o)) (each_but_rewrites m x f sound) (λ y u is. by y u (is_same y x) is), λ e. differ_at m n x here (each_but_gone m x f) (sym e))
    where
      n : Rows A
      n = each_row f (rows_but x m)

      by : (y : Name) (u : Element A) (b : Bool) → option_map (f y) (cond b None (row_at m y)) ≡ Some u → Fine n y u
      by y u true e = absurd (cc)
      by y u false e = let t = rewritten (f y) (row_at m y) u e in same_fine n y (f y t.0) u t.2 (fits y t.0 t.1)
