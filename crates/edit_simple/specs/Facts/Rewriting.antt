-- A map whose rows are computed from those of another map: when it is sound, and when it differs.
use Rattle.std.proofs.Common.{sym, ap, ◌∙◌}
use Rattle.std.specs.Prelude.{◌≡◌, ◌≢◌, Bool, true, false, ◌&&◌, Option, Some, None, is_some, refl, cond, option_map, unwrap_or}
use Rattle.osm_drafts.specs.Prelude.{list_all, kind_of, is_made, Rows, is_same, is_among, is_kind, is_present, AreInOrder, row_at, same_names, is_eq-name_cmp_itself, both_true, first_true, second_true, references, is_sound, is_sound_row, is_of_length, sound_row, sound_in_order, sound_from_rows}
use Rattle.osm_elements.specs.declared.name.Name.{Name}
use Rattle.osm_elements.specs.declared.element.Element.{Element}
use Rattle.edit_simple.specs.Contents.{each_row, at_name}
use Rattle.edit_simple.specs.Facts.EachRow.{AreInOrder-each_row, row_at-each_row}
use Rattle.edit_simple.specs.Facts.Lists.{all_listed, all_from}

module _ {A : Type 0} where
  -- a sound row, condition by condition; the condition on references is a fact about every name
  pub record Fine (m : Rows A) (y : Name) (v : Element A) : Type 0 where
    pub kind : is_kind (kind_of v) y.kind ≡ true
    pub made : is_made v ≡ true
    pub lengthy : is_of_length v ≡ true
    pub refs : (e : Name) → is_among (references v) e ≡ true → is_present m e ≡ true

  pub fine : (m : Rows A) → is_sound m ≡ true → (y : Name) (v : Element A) → row_at m y ≡ Some v → Fine m y v
  fine m sound y v is =
      let refs = list_all (is_present m) (references v) in
      let row = sound_row m sound y v is in
      let rest = second_true (is_kind (kind_of v) y.kind) (is_made v && (is_of_length v && refs)) row in
      let last = second_true (is_made v) (is_of_length v && refs) rest in
      record {
        kind = first_true (is_kind (kind_of v) y.kind) (is_made v && (is_of_length v && refs)) row;
        made = first_true (is_made v) (is_of_length v && refs) rest;
        lengthy = first_true (is_of_length v) refs last;
        refs = λ e i. all_listed (is_present m) (references v) e (second_true (is_of_length v) refs last) i;
      }

  pub from_fine : (m : Rows A) (y : Name) (v : Element A) → Fine m y v → is_sound_row m y v ≡ true
  from_fine m y v f =
      let refs = list_all (is_present m) (references v) in
      both_true (is_kind (kind_of v) y.kind) (is_made v && (is_of_length v && refs)) f.kind
      (both_true (is_made v) (is_of_length v && refs) f.made (both_true (is_of_length v) refs f.lengthy (all_from (is_present m) (references v) f.refs)))

  -- a row that is fine in a map is fine in a map that has at least the same names
  pub fine_in : (m n : Rows A) → ((e : Name) → is_present m e ≡ true → is_present n e ≡ true) → (y : Name) (v : Element A) → Fine m y v → Fine n y v
  fine_in m n more y v f = record { kind = f.kind; made = f.made; lengthy = f.lengthy; refs = λ e i. more e (f.refs e i) }

  -- the names of n rise, and its row at each name is computed from the row of m
  pub record Rewrites (m n : Rows A) (f : Name → Option (Element A) → Option (Element A)) : Type 0 where
    pub in_order : AreInOrder n
    pub rows : (y : Name) → row_at n y ≡ f y (row_at m y)

  -- n is sound if each of its rows is fine
  pub stays_sound : (m n : Rows A) (f : Name → Option (Element A) → Option (Element A)) → Rewrites m n f
      → ((y : Name) (u : Element A) → f y (row_at m y) ≡ Some u → Fine n y u) → is_sound n ≡ true
  stays_sound m n f r h = sound_from_rows n r.in_order (λ y u is. from_fine n y u (h y u (sym (r.rows y) ∙ is)))

  -- n differs from m if a row changes
  pub differs : (m n : Rows A) (f : Name → Option (Element A) → Option (Element A)) → Rewrites m n f → (y : Name) → f y (row_at m y) ≢ row_at m y → n ≢ m
  differs m n f r y apart e = apart (sym (r.rows y) ∙ ap (λ k. row_at k y) e)

  -- maps that differ at a name differ
  pub differ_at : (m n : Rows A) (y : Name) → is_present m y ≡ true → is_present n y ≡ false → m ≢ n
  differ_at m n y p q e = absurd (cc (sym p ∙ ap (λ k. is_present k y) e ∙ q))

  -- ---- all rows are kept, and their elements replaced

  pub each_rewrites : (m : Rows A) → AreInOrder m → (f : Name → Element A → Element A) → Rewrites m (each_row f m) (λ y. option_map (f y))
  each_rewrites m h f = record { in_order = AreInOrder-each_row f m h; rows = row_at-each_row f m }

  -- the element before, given the element after
  pub rewritten : (f : Element A → Element A) (o : Option (Element A)) (u : Element A) → option_map f o ≡ Some u → (v : Element A) × (o ≡ Some v) × (f v ≡ u)
  rewritten f None u e = absurd (cc)
  rewritten f (Some v) u e = (v, refl, ap (λ o. unwrap_or o u) e)

  pub still_there : (f : Element A → Element A) (o : Option (Element A)) → is_some (option_map f o) ≡ is_some o
  still_there f None = refl
  still_there f (Some v) = refl

  pub present_each : (m : Rows A) (f : Name → Element A → Element A) (e : Name) → is_present m e ≡ true → is_present (each_row f m) e ≡ true
  present_each m f e i = ap is_some (row_at-each_row f m e) ∙ still_there (f e) (row_at m e) ∙ i

  pub each_stays_sound : (m : Rows A) → is_sound m ≡ true → (f : Name → Element A → Element A)
      → ((y : Name) (v : Element A) → row_at m y ≡ Some v → Fine m y v → Fine m y (f y v)) → is_sound (each_row f m) ≡ true
  each_stays_sound m sound f h = stays_sound m (each_row f m) (λ y. option_map (f y)) (each_rewrites m (sound_in_order m sound) f) each
    where
      each : (y : Name) (u : Element A) → option_map (f y) (row_at m y) ≡ Some u → Fine (each_row f m) y u
      each y u is =
          let w = rewritten (f y) (row_at m y) u is in
          let g = fine_in m (each_row f m) (present_each m f) y (f y w.0) (h y w.0 w.1 (fine m sound y w.0 w.1)) in
          let p = w.2 in
          record {
            kind = ap (λ z. is_kind (kind_of z) y.kind) (sym p) ∙ g.kind;
            made = ap is_made (sym p) ∙ g.made;
            lengthy = ap is_of_length (sym p) ∙ g.lengthy;
            refs = λ e i. g.refs e (ap (λ z. is_among (references z) e) p ∙ i);
          }

  -- ---- the element of one name is replaced

  pub at_one : (m : Rows A) (x y : Name) (f : Element A → Element A) (v : Element A) → Fine m y v → (is_same x y ≡ true → Fine m y (f v)) → Fine m y (at_name x f y v)
  at_one m x y f v own h = by (is_same x y) refl
    where
      by : (b : Bool) → is_same x y ≡ b → Fine m y (cond b (f v) v)
      by true e = h e
      by false e = own

  pub one_stays_sound : (m : Rows A) → is_sound m ≡ true → (x : Name) (f : Element A → Element A)
      → ((v : Element A) → row_at m x ≡ Some v → Fine m x v → Fine m x (f v)) → is_sound (each_row (at_name x f) m) ≡ true
  one_stays_sound m sound x f h = each_stays_sound m sound (at_name x f) (λ y v is own. at_one m x y f v own (λ e. here y v (same_names x y e) is own))
    where
      here : (y : Name) (v : Element A) → x ≡ y → row_at m y ≡ Some v → Fine m y v → Fine m y (f v)
      here y v e is own =
          let g = h v (ap (row_at m) e ∙ is) (record { kind = ap (λ z. is_kind (kind_of v) z.kind) e ∙ own.kind; made = own.made; lengthy = own.lengthy; refs = own.refs }) in
          record { kind = ap (λ z. is_kind (kind_of (f v)) z.kind) (sym e) ∙ g.kind; made = g.made; lengthy = g.lengthy; refs = g.refs }

  -- the map changes if a part of the element changes
  pub one_differs : {X : Type 0} (m : Rows A) (x : Name) (f : Element A → Element A) (v : Element A) → row_at m x ≡ Some v
      → (part : Option (Element A) → X) → part (Some (f v)) ≢ part (Some v) → each_row (at_name x f) m ≢ m
  one_differs m x f v is part apart e =
      apart (ap (λ b. part (Some (cond b (f v) v))) (sym (is_eq-name_cmp_itself x)) ∙ ap (λ o. part (option_map (at_name x f x) o)) (sym is)
      ∙ ap part (sym (row_at-each_row (at_name x f) m x)) ∙ ap (λ k. part (row_at k x)) e ∙ ap part is)
