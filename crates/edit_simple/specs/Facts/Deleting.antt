-- An accepted delete keeps a sound map sound, and changes it.
use Rattle.std.proofs.Common.{sym, ap, ◌∙◌}
use Rattle.std.specs.Prelude.{◌≡◌, ◌≢◌, Bool, true, false, not, [], ◌∷◌, Some, None, is_some, refl, cond, filter}
use Rattle.osm_drafts.specs.Prelude.{Rows, is_same, is_among, is_present, is_absent, names_of, rows_but, row_at, same_names, is_eq-name_cmp_itself, row_at-rows_but, AreInOrder-rows_but, references, refers_to, users, is_sound, found_passes, none_passes, sound_in_order}
use Rattle.osm_elements.specs.declared.name.Name.{Name}
use Rattle.osm_elements.specs.declared.element.Element.{Element}
use Rattle.room_interface.specs.declared.refusal.Refusal.{Refusal}
use Rattle.room_interface.specs.declared.refusal.Refusal.TheVariants.{Absent, InUse}
use Rattle.edit_simple.specs.Checks.{first_that_holds}
use Rattle.edit_simple.specs.Delete.{delete_checks, after_delete}
use Rattle.edit_simple.specs.Facts.Checked.{nones, not_so, from_false, no_least}
use Rattle.edit_simple.specs.Facts.Rewriting.{Fine, fine, Rewrites, stays_sound, differ_at}

module _ {A : Type 0} where
  pub names_of_none : (es : Rows A) → names_of es ≡ [] → es ≡ []
  names_of_none [] e = refl
  names_of_none (r ∷ es) e = absurd (cc)

  -- no row of a map refers to a name that has no user
  pub no_user : (m : Rows A) (x : Name) → users m x ≡ [] → (y : Name) (w : Element A) → row_at m y ≡ Some w → refers_to w x ≡ false
  no_user m x none y w is = by (refers_to w x) (found_passes (λ z v. not (refers_to v x)) m (none_passes (λ r. refers_to r.1 x) m (names_of_none (filter (λ r. refers_to r.1 x) m) none)) y w is)
    where
      by : (b : Bool) → not b ≡ true → b ≡ false
      by true h = absurd (cc)
      by false h = refl

  pub but_rewrites : (m : Rows A) (x : Name) → is_sound m ≡ true → Rewrites m (rows_but x m) (λ y o. cond (is_same y x) None o)
  but_rewrites m x sound = record { in_order = AreInOrder-rows_but m x (sound_in_order m sound); rows = row_at-rows_but m x }

  pub delete_accepted : (m : Rows A) (x : Name) → is_sound m ≡ true → first_that_holds (delete_checks m x) ≡ None → (is_sound (after_delete m x) ≡ true) × (after_delete m x ≢ m)
  delete_accepted m x sound ok =
      (stays_sound m n (λ y o. cond (is_same y x) None o) (but_rewrites m x sound) each, λ e. differ_at m n x here gone (sym e))
    where
      n : Rows A
      n = rows_but x m

      here : is_present m x ≡ true
      here = from_false (is_present m x) (not_so {X = Refusal A} (is_absent m x) (Absent x) (nones (delete_checks m x) ok).0)

      gone : is_present n x ≡ false
      gone = ap is_some (row_at-rows_but m x x) ∙ ap (λ b. is_some (cond b None (row_at m x))) (is_eq-name_cmp_itself x)

      unused : users m x ≡ []
      unused = no_least (InUse x) (users m x) (nones (delete_checks m x) ok).1.0

      kept : (e : Name) → is_same e x ≡ false → is_present m e ≡ true → is_present n e ≡ true
      kept e other h = ap is_some (row_at-rows_but m x e) ∙ ap (λ b. is_some (cond b None (row_at m e))) other ∙ h

      each : (y : Name) (u : Element A) → cond (is_same y x) None (row_at m y) ≡ Some u → Fine n y u
      each y u is = by (is_same y x) is
        where
          by : (b : Bool) → cond b None (row_at m y) ≡ Some u → Fine n y u
          by true f = absurd (cc)
          by false f =
              let own = fine m sound y u f in
              record { kind = own.kind; made = own.made; lengthy = own.lengthy; refs = λ e i. kept e (other e (is_same e x) refl i) (own.refs e i) }
            where
              other : (e : Name) (s : Bool) → is_same e x ≡ s → is_among (references u) e ≡ true → is_same e x ≡ false
              other e true t i = absurd (cc (sym i ∙ ap (is_among (references u)) (same_names e x t) ∙ no_user m x unused y u f))
              other e false t i = t
