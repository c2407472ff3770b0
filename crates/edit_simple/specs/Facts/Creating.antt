-- An accepted create keeps a sound map sound, and changes it.
use Rattle.std.proofs.Common.{sym, ap, subst, ◌∙◌}
use Rattle.std.specs.Prelude.{◌≡◌, ◌≢◌, Bool, true, false, not, ◌&&◌, ◌||◌, Some, None, is_some, length, nat_le, refl, cond, filter, unwrap_or}
use Rattle.osm_drafts.specs.Prelude.{kind_of, is_made, Rows, is_same, is_kind, is_present, row_at, put_row, same_names, is_eq-name_cmp_itself, row_at-put_row, AreInOrder-put_row, both_true, references, is_sound, is_of_length, most_nodes, most_members, sound_in_order}
use Rattle.osm_elements.specs.declared.name.Name.{Name}
use Rattle.osm_elements.specs.declared.element.Element.{Element}
use Rattle.osm_elements.specs.declared.element.Element.TheVariants.{Node, Way, Relation}
use Rattle.room_interface.specs.declared.refusal.Refusal.{Refusal}
use Rattle.room_interface.specs.declared.refusal.Refusal.TheVariants.{Absent, Present, WrongKind, TooFew, TooMany}
use Rattle.edit_simple.specs.Checks.{first_that_holds}
use Rattle.edit_simple.specs.Create.{is_too_short, is_too_long, is_missing, create_checks, after_create}
use Rattle.edit_simple.specs.Facts.Checked.{nones, not_so, from_false, no_least}
use Rattle.edit_simple.specs.Facts.Lists.{or_left, or_right, at_least, none_left}
use Rattle.edit_simple.specs.Facts.Rewriting.{Fine, fine, fine_in, Rewrites, stays_sound, differ_at}

module _ {A : Type 0} where
  pub long_enough : (v : Element A) → is_too_short v ≡ false → is_too_long v ≡ false → is_of_length v ≡ true
  long_enough (Node lat lon tags) s l = refl
  long_enough (Way nodes tags) s l = both_true (nat_le 2 (length nodes)) (nat_le (length nodes) most_nodes) (at_least (length nodes) 2 s) (at_least most_nodes (length nodes) l)
  long_enough (Relation members tags) s l = at_least most_members (length members) l

  -- the names of a map after a put
  pub present_put : (m : Rows A) (x : Name) (v : Element A) (e : Name) → is_present (put_row m x v) e ≡ (is_same e x || is_present m e)
  present_put m x v e = ap is_some (row_at-put_row m x v e) ∙ by (is_same e x)
    where
      by : (b : Bool) → is_some (cond b (Some v) (row_at m e)) ≡ (b || is_some (row_at m e))
      by true = refl
      by false = refl

  pub put_rewrites : (m : Rows A) (x : Name) (v : Element A) → is_sound m ≡ true → Rewrites m (put_row m x v) (λ y o. cond (is_same y x) (Some v) o)
  put_rewrites m x v sound = record { in_order = AreInOrder-put_row m x v (sound_in_order m sound); rows = row_at-put_row m x v }

  pub create_accepted : (m : Rows A) (x : Name) (v : Element A) → is_sound m ≡ true → is_made v ≡ true → first_that_holds (create_checks m x v) ≡ None
      → (is_sound (after_create m x v) ≡ true) × (after_create m x v ≢ m)
  create_accepted m x v sound made ok =
      (stays_sound m n (λ y o. cond (is_same y x) (Some v) o) (put_rewrites m x v sound) each, differ_at n m x (present_put m x v x ∙ or_left (is_same x x) (is_present m x) (is_eq-name_cmp_itself x)) fresh)
    where
      n : Rows A
      n = put_row m x v

      fresh : is_present m x ≡ false
      fresh = not_so {X = Refusal A} (is_present m x) (Present x) (nones (create_checks m x v) ok).1.0

      more : (e : Name) → is_present m e ≡ true → is_present n e ≡ true
      more e here = present_put m x v e ∙ or_right (is_same e x) (is_present m e) here

      there : (e : Name) → is_missing m x e ≡ false → is_present n e ≡ true
      there e h = by (is_same x e) refl (is_present m e) refl h
        where
          by : (s : Bool) → is_same x e ≡ s → (b : Bool) → is_present m e ≡ b → (not s && not b) ≡ false → is_present n e ≡ true
          by true t b p f = ap (is_present n) (sym (same_names x e t)) ∙ present_put m x v x ∙ or_left (is_same x x) (is_present m x) (is_eq-name_cmp_itself x)
          by false t true p f = more e p
          by false t false p f = absurd (cc)

      own : Fine n x v
      own = record {
        kind = from_false (is_kind (kind_of v) x.kind) (not_so {X = Refusal A} (not (is_kind (kind_of v) x.kind)) (WrongKind x) (nones (create_checks m x v) ok).0);
        made = made;
        lengthy = long_enough v (not_so {X = Refusal A} (is_too_short v) (TooFew x) (nones (create_checks m x v) ok).1.1.0) (not_so {X = Refusal A} (is_too_long v) (TooMany x) (nones (create_checks m x v) ok).1.1.1.0);
        refs = λ e i. there e (none_left (is_missing m x) (references v) (no_least {A = A} Absent (filter (is_missing m x) (references v)) (nones (create_checks m x v) ok).1.1.1.1.0) e i);
      }

      each : (y : Name) (u : Element A) → cond (is_same y x) (Some v) (row_at m y) ≡ Some u → Fine n y u
      each y u is = by (is_same y x) refl is
        where
          by : (b : Bool) → is_same y x ≡ b → cond b (Some v) (row_at m y) ≡ Some u → Fine n y u
          by true t f =
              let same : v ≡ u = ap (λ o. unwrap_or o v) f in
              subst (λ (z : Name). Fine n z u) (sym (same_names y x t)) (subst (λ (w : Element A). Fine n x w) same own)
          by false t f = fine_in m n more y u (fine m sound y u f)
