-- Results of plans.
use Rattle.std.proofs.Common.{◌≡◌, false, not, List, [], ◌∷◌, Option, Some, None, Ok, Err, is_some, refl, inl, sym, ap, ◌∙◌, option_map}
use Rattle.edit_simple.specs.Prelude.{then_some, Name, Element, least, Rows, is_present, row_at, users, Change, row_changes, deleted, Refusal, Present, Absent, InUse, first_that_holds, the_least, create_checks, after_create, delete_checks, after_delete, IsPlan, passed, nones, not_so}
use Rattle.osm_changes.specs.Facts.Differing.{created}

pub passed_ok : {X : Type 0} (u : Unit {0}) (o : Option X) → Ok u ≡ passed o → o ≡ None
passed_ok u None e = refl
passed_ok u (Some x) e = absurd (cc)

module _ {A : Type 0} where
  not_there : (o : Option (Element A)) → is_some o ≡ false → o ≡ None
  not_there None e = refl
  not_there (Some v) e = absurd (cc)

  pub create_planned : (m : Rows A) (x : Name) (v w : Element A) (u : Unit {0}) (cs : List (Change A)) → Ok u ≡ passed (first_that_holds (create_checks m x v))
      → w ≡ v → cs ≡ row_changes x None (Some w) → IsPlan m (create_checks m x v) (after_create m x v) (Ok cs)
  create_planned m x v w u cs ok e is =
      let none = passed_ok u (first_that_holds (create_checks m x v)) ok in
      let absent = not_there (row_at m x) (not_so {X = Refusal A} (is_present m x) (Present x) (nones (create_checks m x v) none).1.0) in
      (none, is ∙ ap (λ z. row_changes x None (Some z)) e ∙ sym (created m x v absent))

  pub delete_planned : (m : Rows A) (x : Name) (v w : Element A) (cs : List (Change A)) → row_at m x ≡ Some v → users m x ≡ []
      → w ≡ v → cs ≡ row_changes x (Some w) None → IsPlan m (delete_checks m x) (after_delete m x) (Ok cs)
  delete_planned m x v w cs there unused e is =
      (ap (λ o. first_that_holds (then_some (not (is_some o)) (Absent x) ∷ the_least (InUse x) (users m x) ∷ [])) there ∙ ap (λ l. first_that_holds (the_least {A = A} (InUse x) l ∷ [])) unused, is ∙ ap (λ z. row_changes x (Some z) None) e ∙ sym (deleted m x v there))

  pub delete_in_use : (m : Rows A) (x : Name) (v : Element A) (user : Name) → row_at m x ≡ Some v → least (users m x) ≡ Some user → IsPlan m (delete_checks m x) (after_delete m x) (Err (InUse x user))
  delete_in_use m x v user there used =
      inl (ap (λ o. first_that_holds (then_some (not (is_some o)) (Absent x) ∷ the_least (InUse x) (users m x) ∷ [])) there
      ∙ ap (λ o. first_that_holds (option_map (InUse x) o ∷ [])) used)

pub none_named : (names : List Name) → least names ≡ None → names ≡ []
none_named [] e = refl
none_named (x ∷ names) e = absurd (cc)
