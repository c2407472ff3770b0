-- The table that the lists of users represent, after a name gains or loses references.
use Rattle.std.proofs.Common.{◌≡◌, ◌&&◌, ◌||◌, Result, Ok, Err, OnErr, Bool, true, false, not, cond, List, ◌++◌, refl, sym, ap, subst, ◌∙◌}
use Rattle.osm_refs.specs.Prelude.{Name, name_cmp, is_among-append, is_among-name_set, same_names, is_same, is_among, name_set, IsRising-filter, IsRising-name_set, is_among-passing, same_rising, IsTable, same_tables, references_at-referring, IsTable-referring, IsRising, names_but, Table, references_at, referring, users_in, AreLists, Gains, Lacks, Loses, SameLists}
use Rattle.osm_refs.proofs.Turning.{IsRising-users_in, among_users_in, references_at-turned, IsTable-turned, users_in-turned}
use Rattle.osm_refs.specs.Inner.Turned.{references_of}

-- the users of a name in the represented table are its list
pub users_in-references_of : (lists : Table) (e : Name) → AreLists name_cmp name_cmp lists → users_in (references_of lists) e ≡ references_at lists e
users_in-references_of lists e h = users_in-turned lists e h.in_order (h.rising e)

IsRising-references : (lists : Table) (q : Name) → AreLists name_cmp name_cmp lists → IsRising (references_at (references_of lists) q)
IsRising-references lists q h = subst IsRising (sym (references_at-turned lists q)) (IsRising-users_in lists q h.in_order)

among_references : (lists : Table) (q e : Name) → AreLists name_cmp name_cmp lists → is_among (references_at (references_of lists) q) e ≡ is_among (references_at lists e) q
among_references lists q e h = ap (λ names. is_among names e) (references_at-turned lists q) ∙ among_users_in lists q e h.in_order

-- a table with rising rows and the same users is the one that the lists represent
references_are : (lists : Table) (t : Table) → AreLists name_cmp name_cmp lists → IsTable t → ((q : Name) → IsRising (references_at t q)) → ((q e : Name) → is_among (references_at lists e) q ≡ is_among (references_at t q) e) → references_of lists ≡ t
references_are lists t h table rises is =
    same_tables (references_of lists) t (IsTable-turned lists) table
    (λ q. same_rising (references_at (references_of lists) q) (references_at t q) (IsRising-references lists q h) (rises q) (λ e. among_references lists q e h ∙ is q e))

pub same_references : (before after : Table) → AreLists name_cmp name_cmp before → AreLists name_cmp name_cmp after → SameLists name_cmp name_cmp before after → references_of after ≡ references_of before
same_references before after h k same =
    references_are after (references_of before) k (IsTable-turned before) (λ q. IsRising-references before q h) (λ q e. same e q ∙ sym (among_references before q e h))

module _ (before after : Table) (name : Name) (names : List Name) (h : AreLists name_cmp name_cmp before) where
  abbrev old : List Name
  old = references_at (references_of before) name

  was : (q e : Name) → is_same q name ≡ true → is_among (references_at before e) q ≡ is_among old e
  was q e f = sym (among_references before q e h) ∙ ap (λ z. is_among (references_at (references_of before) z) e) (same_names q name f)

  -- no name that is gained is there yet
  pub lacks : names_but names old ≡ names → Lacks name_cmp name_cmp before names name
  lacks new e q = by (is_same q name) refl
    where
      apart : (a o : Bool) → a ≡ (not o && a) → (a && o) ≡ false
      apart true true f = f
      apart true false f = refl
      apart false o f = refl

      and_true : (a : Bool) → (a && true) ≡ a
      and_true true = refl
      and_true false = refl

      and_false : (a : Bool) → (a && false) ≡ false
      and_false true = refl
      and_false false = refl

      by : (b : Bool) → is_same q name ≡ b → ((is_among names e && b) && is_among (references_at before e) q) ≡ false
      by true f =
          ap (λ d. (is_among names e && true) && d) (was q e f) ∙ ap (λ a. a && is_among old e) (and_true (is_among names e))
          ∙ apart (is_among names e) (is_among old e) (ap (λ xs. is_among xs e) (sym new) ∙ is_among-passing (λ x. not (is_among old x)) names e)
      by false f = ap (λ a. a && is_among (references_at before e) q) (and_false (is_among names e))

  module _ (k : AreLists name_cmp name_cmp after) where
    -- the table has new references at one name
    written : (set : List Name) → IsRising set → ((q e : Name) → is_same q name ≡ true → is_among (references_at after e) q ≡ is_among set e)
        → ((q e : Name) → is_same q name ≡ false → is_among (references_at after e) q ≡ is_among (references_at before e) q) → references_of after ≡ referring (references_of before) name set
    written set rises at others =
        references_are after (referring (references_of before) name set) k (IsTable-referring (references_of before) name set (IsTable-turned before))
        (λ q. subst IsRising (sym (references_at-referring (references_of before) name set q)) (rising q (is_same q name)))
        (λ q e. by q e (is_same q name) refl ∙ ap (λ xs. is_among xs e) (sym (references_at-referring (references_of before) name set q)))
      where
        rising : (q : Name) (b : Bool) → IsRising (cond b set (references_at (references_of before) q))
        rising q true = rises
        rising q false = IsRising-references before q h

        by : (q e : Name) (b : Bool) → is_same q name ≡ b → is_among (references_at after e) q ≡ is_among (cond b set (references_at (references_of before) q)) e
        by q e true f = at q e f
        by q e false f = others q e f ∙ sym (among_references before q e h)

    pub gained : Gains name_cmp name_cmp before after names name → references_of after ≡ referring (references_of before) name (name_set (old ++ names))
    gained gains =
        written (name_set (old ++ names)) (IsRising-name_set (old ++ names))
        (λ q e f. gains e q ∙ ap (λ b. (is_among names e && b) || is_among (references_at before e) q) f ∙ ap (λ o. (is_among names e && true) || o) (was q e f) ∙ swapped (is_among names e) (is_among old e)
        ∙ sym (is_among-name_set e (old ++ names) ∙ is_among-append e old names))
        (λ q e f. gains e q ∙ ap (λ b. (is_among names e && b) || is_among (references_at before e) q) f ∙ none (is_among names e) (is_among (references_at before e) q))
      where
        swapped : (a o : Bool) → ((a && true) || o) ≡ (o || a)
        swapped true true = refl
        swapped true false = refl
        swapped false true = refl
        swapped false false = refl

        none : (a d : Bool) → ((a && false) || d) ≡ d
        none true d = refl
        none false d = refl

    pub lost : Loses name_cmp name_cmp before after names name → references_of after ≡ referring (references_of before) name (names_but old names)
    lost loses =
        written (names_but old names) (IsRising-filter (λ x. not (is_among names x)) old (IsRising-references before name h))
        (λ q e f. loses e q ∙ ap (λ b. not (is_among names e && b) && is_among (references_at before e) q) f ∙ ap (λ o. not (is_among names e && true) && o) (was q e f) ∙ all (is_among names e) (is_among old e)
        ∙ sym (is_among-passing (λ x. not (is_among names x)) old e))
        (λ q e f. loses e q ∙ ap (λ b. not (is_among names e && b) && is_among (references_at before e) q) f ∙ none (is_among names e) (is_among (references_at before e) q))
      where
        all : (a o : Bool) → (not (a && true) && o) ≡ (not a && o)
        all true o = refl
        all false o = refl

        none : (a d : Bool) → (not (a && false) && d) ≡ d
        none true d = refl
        none false d = refl

pub OnErr-always : {X E P : Type 0} (r : Result X E) → P → OnErr r P
OnErr-always (Ok x) p = tt
OnErr-always (Err e) p = p
