-- The references that begin and cease with changed rows, entered row by row.
use Rattle.std.proofs.Common.{◌≡◌, ◌<◌, ◌+◌, ◌||◌, ℕ, zero, suc, Bool, true, false, not, cond, T, List, [], ◌∷◌, ◌++◌, Option, Some, None, length, map, take, drop, refl, get_or, sym, ap, subst, ◌∙◌, arith, fold}
use Rattle.std.proofs.lemmas.List.{take-map}
use Rattle.osm_changes.specs.Prelude.{below_all, are_rising, Rows, is_among, is_same, name_set, with_row, AreInOrder-with_row, RowAfter, same_names, name_cmp, AreInOrder, row_at, Element, Name, after_is, before_is, new_names, IsTable-table_of, references_at-table_of, table_of-put_row, table_of-rows_but, IsRising-name_set, same_tables, IsTable-updated_all, becomes_at, references_at-updated_all, untouched, row_references, names_but, Note, Table, noted, references_at, referring, table_of, ReferenceChange, bare_rows}
use Rattle.osm_refs.specs.Facts.RisingNames.{IsRising-filter}
use Rattle.osm_refs.specs.Rising.{IsRising}
use Rattle.osm_changes.proofs.RowsEntered.{below_is_other, earlier, names_entered}
use Rattle.osm_changes.specs.Inner.Applying.{with_entered}
use Rattle.osm_changes.specs.Inner.References.{AreChangesOf, gained, given_back, lost, notes_of, reference_change_of}
use Rattle.rising_lists.specs.Facts.Sorted.{both as both_tests, first, second}

-- ---- rising names

below_all_others : (x : Name) (names : List Name) → T (below_all name_cmp x (bare_rows names)) → is_among names x ≡ false
below_all_others x [] h = refl
below_all_others x (y ∷ ys) h = ap (λ b. b || is_among ys x) (below_is_other (name_cmp x y) (first _ _ h)) ∙ below_all_others x ys (second _ _ h)

-- the first of rising names does not occur again
first_is_apart : (x q : Name) (names : List Name) → T (are_rising (x ∷ names)) → is_same q x ≡ true → is_among names q ≡ false
first_is_apart x q names h same = ap (is_among names) (same_names q x same) ∙ below_all_others x names (first _ _ h)

cut_at : {C : Type 0} (name : C → Name) (cs : List C) (i : ℕ) (d : C) → i < length cs → map name (take i cs) ++ name (get_or cs i d) ∷ map name (drop (i + 1) cs) ≡ map name cs
cut_at name [] i d h = absurd (omega (arith, h))
cut_at name (c ∷ cs) zero d h = refl
cut_at name (c ∷ cs) (suc i) d h = let e : suc i + 1 ≡ suc (i + 1) = omega arith in rw e (ap (λ rest. name c ∷ rest) (cut_at name cs i d (omega (arith, h))))

-- the next name is not among the names in front of it
waits_at : {C : Type 0} (name : C → Name) (cs : List C) (i : ℕ) (d : C) → i < length cs → T (are_rising (map name cs)) → is_among (map name (take i cs)) (name (get_or cs i d)) ≡ false
waits_at name cs i d l rising = earlier (map name (take i cs)) (name (get_or cs i d)) (map name (drop (i + 1) cs)) (subst (λ names. T (are_rising names)) (sym (cut_at name cs i d l)) rising)

below_take : {X : Type 0} (name : X → Name) (y : Name) (k : ℕ) (xs : List X) → T (below_all name_cmp y (bare_rows (map name xs))) → T (below_all name_cmp y (bare_rows (map name (take k xs))))
below_take name y zero xs h = tt
below_take name y (suc k) [] h = h
below_take name y (suc k) (x ∷ xs) h = both_tests _ _ (first _ _ h) (below_take name y k xs (second _ _ h))

rising_take : {X : Type 0} (name : X → Name) (i : ℕ) (xs : List X) → T (are_rising (map name xs)) → T (are_rising (map name (take i xs)))
rising_take name zero xs h = tt
rising_take name (suc i) [] h = h
rising_take name (suc i) (x ∷ xs) h = both_tests _ _ (below_take name (name x) i xs (first _ _ h)) (rising_take name i xs (second _ _ h))

-- ---- rows

abbrev note_name : Note → Name
note_name n = n.0

abbrev note : Note → List Name → List Name
note n names = n.1

module _ {A : Type 0} where
  table_of-with_row : (m : Rows A) (x : Name) (o : Option (Element A)) → AreInOrder m → table_of (with_row m x o) ≡ referring (table_of m) x (name_set (row_references o))
  table_of-with_row m x None h = table_of-rows_but m x h
  table_of-with_row m x (Some v) h = table_of-put_row m x v h

  noted_is : (rs : List (RowAfter A)) (m : Rows A) → AreInOrder m → noted (table_of m) (notes_of rs) ≡ table_of (fold with_entered m rs)
  noted_is [] m h = refl
  noted_is (r ∷ rs) m h = ap (λ t. noted t (notes_of rs)) (sym (table_of-with_row m r.name r.element h)) ∙ noted_is rs (with_entered m r) (AreInOrder-with_row m r.name r.element h)

  abbrev name_of : ReferenceChange A → Name
  name_of c = c.name

  abbrev gain : ReferenceChange A → List Name → List Name
  gain c names = name_set (names ++ c.begun)

  abbrev give_back : ReferenceChange A → List Name → List Name
  give_back c names = names_but names c.begun

  abbrev lose : ReferenceChange A → List Name → List Name
  lose c names = names_but names c.ceased

  module _ (m : Rows A) where
    abbrev all : List (RowAfter A) → List (ReferenceChange A)
    all rs = map (reference_change_of m) rs

    names_of_changes : (rs : List (RowAfter A)) → map name_of (all rs) ≡ names_entered rs
    names_of_changes [] = refl
    names_of_changes (r ∷ rs) = ap (λ names. r.name ∷ names) (names_of_changes rs)

    names_of_notes : (rs : List (RowAfter A)) → map note_name (notes_of rs) ≡ names_entered rs
    names_of_notes [] = refl
    names_of_notes (r ∷ rs) = ap (λ names. r.name ∷ names) (names_of_notes rs)

    -- after the change of a name, later changes leave its references
    module _ (then : ReferenceChange A → List Name → List Name) (r : RowAfter A) (rs : List (RowAfter A)) (q : Name) (rising : T (are_rising (r.name ∷ names_entered rs))) (same : is_same q r.name ≡ true) where
      left : (names : List Name) → becomes_at name_of then (all rs) q names ≡ names
      left names = untouched name_of then (all rs) q names (ap (λ ns. is_among ns q) (names_of_changes rs) ∙ first_is_apart r.name q (names_entered rs) rising same)

      both : (names : List Name) → becomes_at name_of then (all rs) q (then (reference_change_of m r) (becomes_at name_of gain (all rs) q (gain (reference_change_of m r) names))) ≡ then (reference_change_of m r) (gain (reference_change_of m r) names)
      both names =
          left (then (reference_change_of m r) (becomes_at name_of gain (all rs) q (gain (reference_change_of m r) names)))
          ∙ ap (then (reference_change_of m r)) (untouched name_of gain (all rs) q (gain (reference_change_of m r) names) (ap (λ ns. is_among ns q) (names_of_changes rs) ∙ first_is_apart r.name q (names_entered rs) rising same))

    before_at : (q : Name) (r : RowAfter A) → is_same q r.name ≡ true → name_set (row_references (row_at m r.name)) ≡ name_set (row_references (row_at m q))
    before_at q r same = ap (λ x. name_set (row_references (row_at m x))) (sym (same_names q r.name same))

    -- after all gains and losses, the references of a name are those that its note has
    comes : (rs : List (RowAfter A)) → T (are_rising (names_entered rs)) → (q : Name) (names : List Name) → names ≡ name_set (row_references (row_at m q))
        → becomes_at name_of lose (all rs) q (becomes_at name_of gain (all rs) q names) ≡ becomes_at note_name note (notes_of rs) q names
    comes [] rising q names is = refl
    comes (r ∷ rs) rising q names is = by (is_same q r.name) refl (comes rs (second _ _ rising) q names is)
      where
        after : List Name
        after = name_set (row_references r.element)

        by : (b : Bool) → is_same q r.name ≡ b → becomes_at name_of lose (all rs) q (becomes_at name_of gain (all rs) q names) ≡ becomes_at note_name note (notes_of rs) q names
            → becomes_at name_of lose (all rs) q (cond b (lose (reference_change_of m r) (becomes_at name_of gain (all rs) q (cond b (gain (reference_change_of m r) names) names))) (becomes_at name_of gain (all rs) q (cond b (gain (reference_change_of m r) names) names)))
            ≡ becomes_at note_name note (notes_of rs) q (cond b after names)
        by true same rest =
            both lose r rs q rising same names
            ∙ ap (λ before. names_but (name_set (names ++ names_but after before)) (names_but before after)) (before_at q r same ∙ sym is) ∙ after_is names after (IsRising-name_set (row_references r.element))
            ∙ sym (untouched note_name note (notes_of rs) q after (ap (λ ns. is_among ns q) (names_of_notes rs) ∙ first_is_apart r.name q (names_entered rs) rising same))
        by false other rest = rest

    -- after all gains are taken back, the references of a name are those of the map
    stays : (rs : List (RowAfter A)) → T (are_rising (names_entered rs)) → (q : Name) (names : List Name) → names ≡ name_set (row_references (row_at m q))
        → becomes_at name_of give_back (all rs) q (becomes_at name_of gain (all rs) q names) ≡ names
    stays [] rising q names is = refl
    stays (r ∷ rs) rising q names is = by (is_same q r.name) refl (stays rs (second _ _ rising) q names is)
      where
        after : List Name
        after = name_set (row_references r.element)

        by : (b : Bool) → is_same q r.name ≡ b → becomes_at name_of give_back (all rs) q (becomes_at name_of gain (all rs) q names) ≡ names
            → becomes_at name_of give_back (all rs) q (cond b (give_back (reference_change_of m r) (becomes_at name_of gain (all rs) q (cond b (gain (reference_change_of m r) names) names))) (becomes_at name_of gain (all rs) q (cond b (gain (reference_change_of m r) names) names)))
            ≡ names
        by true same rest =
            both give_back r rs q rising same names
            ∙ ap (λ before. names_but (name_set (names ++ names_but after before)) (names_but after before)) (before_at q r same ∙ sym is)
            ∙ before_is names after (subst IsRising (sym is) (IsRising-name_set (row_references (row_at m q))))
        by false other rest = rest

    module _ (order : AreInOrder m) (rs : List (RowAfter A)) (rising : T (are_rising (names_entered rs))) where
      abbrev t : Table
      t = table_of m

      pub references_entered : fold lost (fold gained t (all rs)) (all rs) ≡ table_of (fold with_entered m rs)
      references_entered =
          same_tables (fold lost (fold gained t (all rs)) (all rs)) (noted t (notes_of rs))
          (IsTable-updated_all name_of lose (fold gained t (all rs)) (all rs) (IsTable-updated_all name_of gain t (all rs) (IsTable-table_of m order)))
          (IsTable-updated_all note_name note t (notes_of rs) (IsTable-table_of m order))
          (λ q. references_at-updated_all name_of lose (fold gained t (all rs)) (all rs) q ∙ ap (becomes_at name_of lose (all rs) q) (references_at-updated_all name_of gain t (all rs) q)
          ∙ comes rs rising q (references_at t q) (references_at-table_of m q order) ∙ sym (references_at-updated_all note_name note t (notes_of rs) q))
          ∙ noted_is rs m order

      pub given : fold given_back (fold gained t (all rs)) (all rs) ≡ t
      given =
          same_tables (fold given_back (fold gained t (all rs)) (all rs)) t
          (IsTable-updated_all name_of give_back (fold gained t (all rs)) (all rs) (IsTable-updated_all name_of gain t (all rs) (IsTable-table_of m order))) (IsTable-table_of m order)
          (λ q. references_at-updated_all name_of give_back (fold gained t (all rs)) (all rs) q ∙ ap (becomes_at name_of give_back (all rs) q) (references_at-updated_all name_of gain t (all rs) q)
          ∙ stays rs rising q (references_at t q) (references_at-table_of m q order))

  -- reference changes of the rows of a map
  module _ (users : Table) (cs : List (ReferenceChange A)) (are : AreChangesOf users cs) where
    abbrev m : Rows A
    m = are.0

    abbrev rs : List (RowAfter A)
    rs = are.1

    -- the first gains, taken back, lead back to the users
    pub some_given : (i : ℕ) → fold given_back (fold gained users (take i cs)) (take i cs) ≡ users
    some_given i =
        let some : take i cs ≡ map (reference_change_of m) (take i rs) = ap (take i) are.5 ∙ take-map (reference_change_of m) i rs in
        ap (λ xs. fold given_back (fold gained users xs) xs) some ∙ ap (λ t. fold given_back (fold gained t (map (reference_change_of m) (take i rs))) (map (reference_change_of m) (take i rs))) are.4
        ∙ given m are.2 (take i rs) (rising_take (λ (r : RowAfter A). r.name) i rs are.3) ∙ sym are.4

    abbrev Fits : ReferenceChange A → Type 0
    Fits c = IsRising c.begun × (names_but c.begun (name_set (row_references (row_at m c.name))) ≡ c.begun)

    fits_at : (xs : List (RowAfter A)) (i : ℕ) (d : ReferenceChange A) → i < length (map (reference_change_of m) xs) → Fits (get_or (map (reference_change_of m) xs) i d)
    fits_at [] i d l = absurd (omega (arith, l))
    fits_at (r ∷ xs) zero d l =
        let after = name_set (row_references r.element) in
        let before = name_set (row_references (row_at m r.name)) in
        (IsRising-filter (λ e. not (is_among before e)) after (IsRising-name_set (row_references r.element)), new_names before after (IsRising-name_set (row_references r.element)))
    fits_at (r ∷ xs) (suc i) d l = fits_at xs i d (omega (arith, l))

    module _ (i : ℕ) (c : ReferenceChange A) (within : i < length cs) (is : c ≡ get_or cs i c) where
      fits : Fits c
      fits =
          let long : i < length (map (reference_change_of m) rs) = subst (λ xs. i < length xs) are.5 within in
          subst Fits (sym (is ∙ ap (λ xs. get_or xs i c) are.5)) (fits_at rs i c long)

      -- the references that begin with the next change rise
      pub next_rises : IsRising c.begun
      next_rises = fits.0

      -- and none of them is there yet
      pub next_is_new : names_but c.begun (references_at (fold gained users (take i cs)) c.name) ≡ c.begun
      next_is_new =
          let rising : T (are_rising (map name_of cs)) = subst (λ xs. T (are_rising (map name_of xs))) (sym are.5) (subst (λ ns. T (are_rising ns)) (sym (names_of_changes m rs)) are.3) in
          let waits : is_among (map name_of (take i cs)) c.name ≡ false = ap (λ d. is_among (map name_of (take i cs)) (name_of d)) is ∙ waits_at name_of cs i c within rising in
          let here : references_at (fold gained users (take i cs)) c.name ≡ name_set (row_references (row_at m c.name)) =
          references_at-updated_all name_of gain users (take i cs) c.name ∙ untouched name_of gain (take i cs) c.name (references_at users c.name) waits
          ∙ ap (λ t. references_at t c.name) are.4 ∙ references_at-table_of m c.name are.2 in
          ap (names_but c.begun) here ∙ fits.1
