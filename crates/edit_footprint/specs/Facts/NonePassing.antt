-- Lists and maps in which nothing passes a test.
use Rattle.std.proofs.Common.{sym, ap, ◌∙◌}
use Rattle.std.specs.Prelude.{◌≡◌, Bool, true, false, List, [], ◌∷◌, Option, Some, None, refl, cond, filter}
use Rattle.edit_actions.specs.Prelude.{Rows, is_same, is_among, names_of, AreInOrder, row_at, or_right, is_among_own, passes_at, among_rows}
use Rattle.osm_elements.specs.declared.name.Name.{Name}
use Rattle.osm_elements.specs.declared.element.Element.{Element}

pub none_of_list : (p : Name → Bool) (names : List Name) → ((e : Name) → is_among names e ≡ true → p e ≡ false) → filter p names ≡ []
none_of_list p [] h = refl
none_of_list p (x ∷ xs) h =
    ap (λ b. cond b (x ∷ filter p xs) (filter p xs)) (h x (is_among_own x xs)) ∙ none_of_list p xs (λ e i. h e (or_right (is_same e x) (is_among xs e) i))

nobody : (names : List Name) → ((e : Name) → is_among names e ≡ true → ⊥) → names ≡ []
nobody [] h = refl
nobody (x ∷ xs) h = absurd (h x (is_among_own x xs))

pub none_of_map : {A : Type 0} (p : Name × Element A → Bool) (m : Rows A) → AreInOrder m → ((y : Name) (v : Element A) → row_at m y ≡ Some v → p (y, v) ≡ false) → names_of (filter p m) ≡ []
none_of_map {A = A} p m order h = nobody (names_of (filter p m)) (λ y i. by y (row_at m y) refl (sym (among_rows p m order y) ∙ i))
  where
    by : (y : Name) (o : Option (Element A)) → row_at m y ≡ o → passes_at p y o ≡ true → ⊥
    by y None is t = cc
    by y (Some v) is t = cc (sym t ∙ h y v is)
