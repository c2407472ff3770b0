-- The changes of one row, of several rows, and between two maps, row by row.
use Rattle.std.proofs.Common.{sym, ap, subst, ◌∙◌}
use Rattle.std.specs.Prelude.{◌≡◌, ◌≢◌, ◌<◌, ◌+◌, ◌||◌, ℕ, zero, suc, Bool, true, false, not, cond, T, All, List, [], ◌∷◌, ◌++◌, Option, length, map, take, refl, get_or, filter, flat_map}
use Rattle.std.proofs.lemmas.Grind.{flat_map-append}
use Rattle.std.proofs.lemmas.List.{take_more, append-nil, map-id}
use Rattle.std.proofs.lemmas.List.Elements.{All-nil, All-cons}
use Rattle.osm_refs.specs.Prelude.{below_all, is_lt, name_cmp, row_at, is_eq-name_cmp_itself, Rows, is_same, is_among, name_set, names_of, are_rising, bare_rows}
use Rattle.osm_elements.specs.declared.name.Name.{Name}
use Rattle.osm_elements.specs.declared.element.Element.{Element}
use Rattle.rising_lists.specs.Facts.Sorted.{both, first, second}
use Rattle.osm_changes.specs.declared.cell.Cell.{Cell}
use Rattle.osm_changes.specs.declared.change.Change.{Change}
use Rattle.osm_changes.specs.declared.part.Part.{Part}
use Rattle.osm_changes.specs.declared.part.Part.TheVariants.{Tags, Rest}
use Rattle.osm_changes.specs.SameRows.{is_same_row}
use Rattle.osm_changes.specs.Cells.{cells_of, cell_cmp, half_at, tags_at, rest_at, IsRising}
use Rattle.osm_changes.specs.Changes.{differences, change_at, half_change, differs, row_changes, rows_changes, changed_cells, AreChanges}
use Rattle.osm_changes.specs.Halves.{half, are_same_halves}
use Rattle.osm_changes.specs.Facts.Cells.{lesser_cell, tags_first}
use Rattle.osm_changes.specs.Facts.Halves.{same_itself, not_same_halves}
use Rattle.osm_changes.specs.Facts.SameElements.{equal_row}

-- a list contains its first name, and all names of its tail
own : (x : Name) (xs : List Name) → is_among (x ∷ xs) x ≡ true
own x xs = ap (λ b. b || is_among xs x) (is_eq-name_cmp_itself x)

among_more : (a b : Bool) → b ≡ true → (a || b) ≡ true
among_more true b e = refl
among_more false b e = e

not_true : (b : Bool) → not b ≡ true → b ≡ false
not_true true e = absurd (cc)
not_true false e = refl

module _ {A : Type 0} where
  -- the changes of the chosen halves, followed by further changes
  abbrev chosen : Bool → Bool → Change A → Change A → List (Change A) → List (Change A)
  chosen t u c d rest = cond t (c ∷ cond u (d ∷ []) []) (cond u (d ∷ []) []) ++ rest

  -- the cell of a name and a part is below the cells of all these changes
  abbrev IsBelow : Name → Part → List (Change A) → Type 0
  IsBelow x p cs = T (below_all cell_cmp (record { name = x; part = p }) (bare_rows (changed_cells cs)))

  below_row : (x y : Name) (p : Part) (o q : Option (Element A)) (cs : List (Change A)) → T (is_lt (name_cmp x y))
      → IsBelow x p cs → IsBelow x p (row_changes y o q ++ cs)
  below_row x y p o q cs low h = by (differs (half_change y o q Tags)) (differs (half_change y o q Rest))
    where
      by : (t u : Bool) → IsBelow x p (chosen t u (half_change y o q Tags) (half_change y o q Rest) cs)
      by true true = both _ _ (lesser_cell x y p Tags low) (both _ _ (lesser_cell x y p Rest low) h)
      by true false = both _ _ (lesser_cell x y p Tags low) h
      by false true = both _ _ (lesser_cell x y p Rest low) h
      by false false = h

  rising_row : (x : Name) (o q : Option (Element A)) (cs : List (Change A)) → ((p : Part) → IsBelow x p cs)
      → IsRising (changed_cells cs) → IsRising (changed_cells (row_changes x o q ++ cs))
  rising_row x o q cs low h = by (differs (half_change x o q Tags)) (differs (half_change x o q Rest))
    where
      by : (t u : Bool) → IsRising (changed_cells (chosen t u (half_change x o q Tags) (half_change x o q Rest) cs))
      by true true = both _ _ (both _ _ (tags_first x) (low Tags)) (both _ _ (low Rest) h)
      by true false = both _ _ (low Tags) h
      by false true = both _ _ (low Rest) h
      by false false = h

  abbrev Differ : List (Change A) → Type 0
  Differ cs = All (λ (c : Change A). c.after ≢ c.before) cs

  differ_row : (x : Name) (o q : Option (Element A)) (cs : List (Change A)) → Differ cs
      → Differ (row_changes x o q ++ cs)
  differ_row x o q cs h = by (differs (half_change x o q Tags)) refl (differs (half_change x o q Rest)) refl
    where
      other : (p : Part) → differs (half_change x o q p) ≡ true → half p q ≢ half p o
      other p e = not_same_halves (half p o) (half p q) (not_true (are_same_halves (half p o) (half p q)) e)

      by : (t : Bool) → differs (half_change x o q Tags) ≡ t → (u : Bool) → differs (half_change x o q Rest) ≡ u
          → Differ (chosen t u (half_change x o q Tags) (half_change x o q Rest) cs)
      by true e true f =
          All-cons (λ (c : Change A). c.after ≢ c.before) (half_change x o q Tags) (half_change x o q Rest ∷ cs)
          (other Tags e)
          (All-cons (λ (c : Change A). c.after ≢ c.before) (half_change x o q Rest) cs (other Rest f) h)
      by true e false f = All-cons (λ (c : Change A). c.after ≢ c.before) (half_change x o q Tags) cs (other Tags e) h
      by false e true f = All-cons (λ (c : Change A). c.after ≢ c.before) (half_change x o q Rest) cs (other Rest f) h
      by false e false f = h

  -- ---- the changes of one row, and of two rows

  alone : (x : Name) (o q : Option (Element A)) → row_changes x o q ++ [] ≡ row_changes x o q
  alone x o q = append-nil (row_changes x o q)

  -- the changes of one row are a list of changes
  pub AreChanges-row_changes : (x : Name) (o q : Option (Element A)) → AreChanges (row_changes x o q)
  AreChanges-row_changes x o q = record {
    rising = subst (λ cs. IsRising (changed_cells cs)) (alone x o q) (rising_row x o q [] (λ p. tt) tt);
    differ = subst Differ (alone x o q) (differ_row x o q [] (All-nil (λ (c : Change A). c.after ≢ c.before)));
  }

  -- the changes of a row can follow those of a row whose name is less
  pub AreChanges-two_rows : (x y : Name) (o p q r : Option (Element A)) → is_lt (name_cmp x y) ≡ true
      → AreChanges (row_changes x o p ++ row_changes y q r)
  AreChanges-two_rows x y o p q r lt =
      let later = AreChanges-row_changes y q r in
      record {
        rising = rising_row x o p (row_changes y q r)
            (λ k. subst (IsBelow x k) (alone y q r) (below_row x y k q r [] (subst T (sym lt) tt) tt)) later.rising;
        differ = differ_row x o p (row_changes y q r) later.differ;
      }

  -- ---- the changes of several rows

  -- items that have a name and a row before and after
  module _ {X : Type 0} (name : X → Name) (before after : X → Option (Element A)) where
    abbrev pub all_changes : List X → List (Change A)
    all_changes xs = flat_map (λ x. row_changes (name x) (before x) (after x)) xs

    below_rows : (y : Name) (p : Part) (xs : List X) → T (below_all name_cmp y (bare_rows (map name xs)))
        → IsBelow y p (all_changes xs)
    below_rows y p [] h = tt
    below_rows y p (x ∷ xs) h = below_row y (name x) p (before x) (after x) (all_changes xs) (first _ _ h)
        (below_rows y p xs (second _ _ h))

    -- the changes of rows whose names rise are a list of changes
    pub AreChanges-all : (xs : List X) → T (are_rising (map name xs)) → AreChanges (all_changes xs)
    AreChanges-all [] rising = record { rising = tt; differ = All-nil (λ (c : Change A). c.after ≢ c.before) }
    AreChanges-all (x ∷ xs) rising =
        let later = AreChanges-all xs (second _ _ rising) in
        record {
          rising = rising_row (name x) (before x) (after x) (all_changes xs)
              (λ p. below_rows (name x) p xs (first _ _ rising)) later.rising;
          differ = differ_row (name x) (before x) (after x) (all_changes xs) later.differ;
        }

    -- the changes of the next item follow those of the earlier items
    pub more-all : (xs : List X) (k : ℕ) (x : X) → k < length xs → x ≡ get_or xs k x
        → all_changes (take k xs) ++ row_changes (name x) (before x) (after x) ≡ all_changes (take (k + 1) xs)
    more-all xs k x l is =
        ap (λ ds. all_changes (take k xs) ++ ds) (sym (append-nil (row_changes (name x) (before x) (after x))))
        ∙ sym (flat_map-append (λ y. row_changes (name y) (before y) (after y)) (take k xs) (x ∷ []))
        ∙ ap (λ y. all_changes (take k xs ++ y ∷ [])) is
        ∙ ap all_changes (sym (take_more xs k x l))

    below-take : (y : Name) (xs : List X) (i : ℕ) → T (below_all name_cmp y (bare_rows (map name xs)))
        → T (below_all name_cmp y (bare_rows (map name (take i xs))))
    below-take y xs zero h = tt
    below-take y [] (suc i) h = tt
    below-take y (x ∷ xs) (suc i) h = both _ _ (first _ _ h) (below-take y xs i (second _ _ h))

    rising-take : (xs : List X) (i : ℕ) → T (are_rising (map name xs)) → T (are_rising (map name (take i xs)))
    rising-take xs zero h = tt
    rising-take [] (suc i) h = tt
    rising-take (x ∷ xs) (suc i) h = both _ _ (below-take (name x) xs i (first _ _ h)) (rising-take xs i (second _ _ h))

    -- they are a list of changes together
    pub next_fits : (xs : List X) (k : ℕ) (x : X) → k < length xs → x ≡ get_or xs k x → T (are_rising (map name xs))
        → AreChanges (all_changes (take k xs) ++ row_changes (name x) (before x) (after x))
    next_fits xs k x l is rising = subst AreChanges (sym (more-all xs k x l is))
        (AreChanges-all (take (k + 1) xs) (rising-take xs (k + 1) rising))

  -- the same of names
  pub AreChanges-rows_changes : (m : Rows A) (after : Name → Option (Element A)) (names : List Name)
      → T (are_rising names) → AreChanges (rows_changes m after names)
  AreChanges-rows_changes m after names rising = AreChanges-all (λ x. x) (row_at m) after names
      (subst (λ xs. T (are_rising xs)) (sym (map-id names)) rising)

  pub next_name_fits : (m : Rows A) (after : Name → Option (Element A)) (names : List Name) (k : ℕ) (x : Name)
      → k < length names → x ≡ get_or names k x → T (are_rising names)
      → AreChanges (rows_changes m after (take k names) ++ row_changes x (row_at m x) (after x))
  next_name_fits m after names k x l is rising = next_fits (λ y. y) (row_at m) after names k x l is
      (subst (λ xs. T (are_rising xs)) (sym (map-id names)) rising)

  -- the same rows before and after have the same changes
  pub same-rows_changes : (m n : Rows A) (after other : Name → Option (Element A)) (names : List Name)
      → ((y : Name) → is_among names y ≡ true → (row_at m y ≡ row_at n y) × (after y ≡ other y))
      → rows_changes m after names ≡ rows_changes n other names
  same-rows_changes m n after other [] same = refl
  same-rows_changes m n after other (x ∷ xs) same =
      let first = same x (own x xs) in
      let rest = same-rows_changes m n after other xs (λ y i. same y (among_more (is_same y x) (is_among xs y) i)) in
      λ i. row_changes x (first.0 i) (first.1 i) ++ rest i

  -- ---- the changes between two maps

  -- a row that stays has no change
  stays : (x : Name) (o q : Option (Element A)) → is_same_row o q ≡ true → row_changes x o q ≡ []
  stays x o q e = ap (row_changes x o) (sym (equal_row o q e))
      ∙ (λ i. none (same_itself (half Tags o) i) (same_itself (half Rest o) i))
    where
      none : Bool → Bool → List (Change A)
      none t u = cond (not t) (half_change x o o Tags ∷ cond (not u) (half_change x o o Rest ∷ []) [])
          (cond (not u) (half_change x o o Rest ∷ []) [])

  -- the cells of the given names at which two maps differ
  abbrev differing_of : Rows A → Rows A → List Name → List Cell
  differing_of m n names = filter (λ c. not (are_same_halves (half_at m c) (half_at n c))) (cells_of names)

  -- the changes between two maps are those of all rows of both
  pub differences-all_rows : (m n : Rows A)
      → differences m n ≡ rows_changes m (row_at n) (name_set (names_of m ++ names_of n))
  differences-all_rows m n = over (name_set (names_of m ++ names_of n))
    where
      over : (xs : List Name) → map (change_at m n) (differing_of m n xs) ≡ rows_changes m (row_at n) xs
      over [] = refl
      over (x ∷ xs) = by (differs (change_at m n (tags_at x))) (differs (change_at m n (rest_at x))) (over xs)
        where
          by : (t u : Bool) → map (change_at m n) (differing_of m n xs) ≡ rows_changes m (row_at n) xs
              → map (change_at m n)
              (cond t (tags_at x ∷ cond u (rest_at x ∷ differing_of m n xs) (differing_of m n xs))
              (cond u (rest_at x ∷ differing_of m n xs) (differing_of m n xs)))
              ≡ chosen t u (change_at m n (tags_at x)) (change_at m n (rest_at x)) (rows_changes m (row_at n) xs)
          by true true i = ap (λ l. change_at m n (tags_at x) ∷ change_at m n (rest_at x) ∷ l) i
          by true false i = ap (λ l. change_at m n (tags_at x) ∷ l) i
          by false true i = ap (λ l. change_at m n (rest_at x) ∷ l) i
          by false false i = i

  -- the given names at which two maps have different rows
  abbrev pub others_of : Rows A → Rows A → List Name → List Name
  others_of m n names = filter (λ x. not (is_same_row (row_at m x) (row_at n x))) names

  -- the names at which two maps differ, rising
  abbrev pub differing_names : Rows A → Rows A → List Name
  differing_names m n = filter (λ x. not (is_same_row (row_at m x) (row_at n x))) (name_set (names_of m ++ names_of n))

  -- a name whose rows are the same has no changes
  pub rows_changes-others : (m n : Rows A) (xs : List Name) → rows_changes m (row_at n) xs ≡ rows_changes m (row_at n) (others_of m n xs)
  rows_changes-others m n [] = refl
  rows_changes-others m n (x ∷ xs) = by (is_same_row (row_at m x) (row_at n x)) refl (rows_changes-others m n xs)
    where
      by : (b : Bool) → is_same_row (row_at m x) (row_at n x) ≡ b
          → rows_changes m (row_at n) xs ≡ rows_changes m (row_at n) (others_of m n xs)
          → row_changes x (row_at m x) (row_at n x) ++ rows_changes m (row_at n) xs
          ≡ rows_changes m (row_at n) (cond (not b) (x ∷ others_of m n xs) (others_of m n xs))
      by true e i = ap (λ l. l ++ rows_changes m (row_at n) xs) (stays x (row_at m x) (row_at n x) e) ∙ i
      by false e i = ap (λ l. row_changes x (row_at m x) (row_at n x) ++ l) i

  -- so the changes between two maps are those of the rows that differ
  pub differences-rows : (m n : Rows A) → differences m n ≡ rows_changes m (row_at n) (differing_names m n)
  differences-rows m n = differences-all_rows m n ∙ rows_changes-others m n (name_set (names_of m ++ names_of n))
