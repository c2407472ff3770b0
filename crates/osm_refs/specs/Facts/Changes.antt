-- The references of a name after it gains those that begin and loses those that cease.
use Rattle.std.proofs.Common.{sym, ap, ◌∙◌}
use Rattle.std.specs.Prelude.{◌≡◌, ◌&&◌, ◌||◌, ◌++◌, Bool, true, false, not, cond, List, refl}
use Rattle.osm_elements.specs.Prelude.{is_among-append, is_among-name_set, is_eq-name_cmp_itself, is_among, is_same, name_set}
use Rattle.osm_elements.specs.declared.name.Name.{Name}
use Rattle.osm_refs.specs.Facts.RisingNames.{IsRising-filter, IsRising-name_set, is_among-passing, same_rising}
use Rattle.osm_refs.specs.Facts.Tables.{IsTable, IsTable-referring, references_at-referring, same_tables}
use Rattle.osm_refs.specs.Rising.{IsRising, names_but}
use Rattle.osm_refs.specs.Tables.{Table, references_at, referring}

among_with : (before after : List Name) (q : Name) → is_among (name_set (before ++ names_but after before)) q ≡ (is_among before q || (not (is_among before q) && is_among after q))
among_with before after q =
    is_among-name_set q (before ++ names_but after before) ∙ is_among-append q before (names_but after before)
    ∙ ap (λ b. is_among before q || b) (is_among-passing (λ e. not (is_among before e)) after q)

-- the references after: with those that begin, and without those that cease
pub after_is : (before after : List Name) → IsRising after → names_but (name_set (before ++ names_but after before)) (names_but before after) ≡ after
after_is before after rises =
    let all = name_set (before ++ names_but after before) in
    let gone = names_but before after in
    same_rising (names_but all gone) after (IsRising-filter (λ e. not (is_among gone e)) all (IsRising-name_set (before ++ names_but after before))) rises
    (λ q. is_among-passing (λ e. not (is_among gone e)) all q ∙ ap (λ b. not b && is_among all q) (is_among-passing (λ e. not (is_among after e)) before q)
    ∙ ap (λ b. not (not (is_among after q) && is_among before q) && b) (among_with before after q) ∙ by (is_among after q) (is_among before q))
  where
    by : (a b : Bool) → (not (not a && b) && (b || (not b && a))) ≡ a
    by true true = refl
    by true false = refl
    by false true = refl
    by false false = refl

-- gaining the references that begin, and losing them again, leads back to the references before
pub before_is : (before after : List Name) → IsRising before → names_but (name_set (before ++ names_but after before)) (names_but after before) ≡ before
before_is before after rises =
    let all = name_set (before ++ names_but after before) in
    let new = names_but after before in
    same_rising (names_but all new) before (IsRising-filter (λ e. not (is_among new e)) all (IsRising-name_set (before ++ new))) rises
    (λ q. is_among-passing (λ e. not (is_among new e)) all q ∙ ap (λ b. not b && is_among all q) (is_among-passing (λ e. not (is_among before e)) after q)
    ∙ ap (λ b. not (not (is_among before q) && is_among after q) && b) (among_with before after q) ∙ by (is_among after q) (is_among before q))
  where
    by : (a b : Bool) → (not (not b && a) && (b || (not b && a))) ≡ b
    by true true = refl
    by true false = refl
    by false true = refl
    by false false = refl

-- no reference that begins was there before
pub new_names : (before after : List Name) → IsRising after → names_but (names_but after before) before ≡ names_but after before
new_names before after rises =
    let p : Name → Bool = λ e. not (is_among before e) in
    let new = names_but after before in
    same_rising (names_but new before) new (IsRising-filter p new (IsRising-filter p after rises)) (IsRising-filter p after rises)
    (λ q. is_among-passing p new q ∙ ap (λ b. not (is_among before q) && b) (is_among-passing p after q) ∙ by (is_among before q) (is_among after q) ∙ sym (is_among-passing p after q))
  where
    by : (b a : Bool) → (not b && (not b && a)) ≡ (not b && a)
    by true a = refl
    by false a = refl

module _ (t : Table) (x : Name) (after : List Name) (table : IsTable t) (rises : IsRising after) where
  abbrev before : List Name
  before = references_at t x

  abbrev pub gained : Table
  gained = referring t x (name_set (before ++ names_but after before))

  here : (u : Table) (names : List Name) → references_at (referring u x names) x ≡ names
  here u names = references_at-referring u x names x ∙ ap (λ b. cond b names (references_at u x)) (is_eq-name_cmp_itself x)

  -- the table after a name gained and lost references
  pub changed : referring gained x (names_but (references_at gained x) (names_but before after)) ≡ referring t x after
  changed =
      ap (λ names. referring gained x (names_but names (names_but before after))) (here t (name_set (before ++ names_but after before))) ∙ ap (referring gained x) (after_is before after rises)
      ∙ same_tables (referring gained x after) (referring t x after) (IsTable-referring gained x after (IsTable-referring t x (name_set (before ++ names_but after before)) table)) (IsTable-referring t x after table)
      (λ q. references_at-referring gained x after q ∙ ap (cond (is_same q x) after) (references_at-referring t x (name_set (before ++ names_but after before)) q) ∙ by q (is_same q x) ∙ sym (references_at-referring t x after q))
    where
      by : (q : Name) (b : Bool) → cond b after (cond b (name_set (before ++ names_but after before)) (references_at t q)) ≡ cond b after (references_at t q)
      by q true = refl
      by q false = refl
