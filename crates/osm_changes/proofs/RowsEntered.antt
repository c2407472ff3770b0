-- The rows of a map to which rows are written one by one.
use Rattle.std.proofs.Common.{◌≡◌, ◌||◌, Bool, true, false, T, List, [], ◌∷◌, ◌++◌, map, refl, cond, sym, ap, ◌∙◌, filter, fold, is_lt, is_eq, Ordering, Less, Equal, Greater}
use Rattle.osm_changes.specs.Prelude.{below_all, Name, name_cmp, AreInOrder, row_at, same_names, Rows, is_same, is_among, are_rising, bare_rows, RowAfter, row_at-with_row, AreInOrder-with_row}
use Rattle.osm_elements.specs.Facts.Dropped.{same_either_way}
use Rattle.rising_lists.specs.Facts.Sorted.{both, first, second}
use Rattle.osm_changes.specs.Inner.Applying.{row_in, with_entered}

pub or_false : (a b : Bool) → (a || b) ≡ false → (a ≡ false) × (b ≡ false)
or_false true b e = absurd (cc)
or_false false b e = (refl, e)

pub below_is_other : (o : Ordering) → T (is_lt o) → is_eq o ≡ false
below_is_other Less h = refl
below_is_other Equal h = absurd h
below_is_other Greater h = absurd h

-- in rising names, an earlier name does not occur later
pub earlier : (done : List Name) (x : Name) (rest : List Name) → T (are_rising (done ++ x ∷ rest))
    → is_among done x ≡ false
earlier [] x rest h = refl
earlier (y ∷ ys) x rest h = ap (λ b. b || is_among ys x) (sym (same_either_way y x) ∙ apart ys (first _ _ h))
    ∙ earlier ys x rest (second _ _ h)
  where
    apart : (zs : List Name) → T (below_all name_cmp y (bare_rows (zs ++ x ∷ rest))) → is_same y x ≡ false
    apart [] t = below_is_other (name_cmp y x) (first _ _ t)
    apart (z ∷ zs) t = apart zs (second _ _ t)

module _ {A : Type 0} where
  abbrev pub names_entered : List (RowAfter A) → List Name
  names_entered rs = map (λ (r : RowAfter A). r.name) rs

  -- the rows are those of a map
  abbrev pub AreOf : Rows A → List (RowAfter A) → Type 0
  AreOf n [] = Unit {0}
  AreOf n (r ∷ rs) = (row_at n r.name ≡ r.element) × AreOf n rs

  pub names-rows_in : (n : Rows A) (xs : List Name) → names_entered (map (row_in n) xs) ≡ xs
  names-rows_in n [] = refl
  names-rows_in n (x ∷ xs) = ap (λ rest. x ∷ rest) (names-rows_in n xs)

  pub AreOf-rows_in : (n : Rows A) (xs : List Name) → AreOf n (map (row_in n) xs)
  AreOf-rows_in n [] = tt
  AreOf-rows_in n (x ∷ xs) = (refl, AreOf-rows_in n xs)

  pub AreInOrder-entered : (rs : List (RowAfter A)) (now : Rows A) → AreInOrder now → AreInOrder (fold with_entered now rs)
  AreInOrder-entered [] now h = h
  AreInOrder-entered (r ∷ rs) now h = AreInOrder-entered rs (with_entered now r) (AreInOrder-with_row now r.name r.element h)

  -- a written name has the row of that map, and any other name keeps its row
  pub row_at-entered : (n : Rows A) (rs : List (RowAfter A)) (now : Rows A) → AreOf n rs → (y : Name)
      → row_at (fold with_entered now rs) y ≡ cond (is_among (names_entered rs) y) (row_at n y) (row_at now y)
  row_at-entered n [] now are y = refl
  row_at-entered n (r ∷ rs) now are y =
      row_at-entered n rs (with_entered now r) are.1 y
      ∙ ap (cond (is_among (names_entered rs) y) (row_at n y)) (row_at-with_row now r.name r.element y)
      ∙ by (is_same y r.name) refl (is_among (names_entered rs) y)
    where
      by : (s : Bool) → is_same y r.name ≡ s → (a : Bool)
          → cond a (row_at n y) (cond s r.element (row_at now y)) ≡ cond (s || a) (row_at n y) (row_at now y)
      by true e true = refl
      by true e false = sym are.0 ∙ ap (row_at n) (sym (same_names y r.name e))
      by false e a = refl

  pub row_at-not_entered : (rs : List (RowAfter A)) (now : Rows A) (y : Name) → is_among (names_entered rs) y ≡ false
      → row_at (fold with_entered now rs) y ≡ row_at now y
  row_at-not_entered [] now y e = refl
  row_at-not_entered (r ∷ rs) now y e =
      let parts = or_false (is_same y r.name) (is_among (names_entered rs) y) e in
      row_at-not_entered rs (with_entered now r) y parts.1 ∙ row_at-with_row now r.name r.element y
      ∙ ap (λ s. cond s r.element (row_at now y)) parts.0

  -- ---- the rows that a filter keeps

  pub AreOf-filter : (p : RowAfter A → Bool) (n : Rows A) (rs : List (RowAfter A)) → AreOf n rs → AreOf n (filter p rs)
  AreOf-filter p n [] are = tt
  AreOf-filter p n (r ∷ rs) are = by (p r) (AreOf-filter p n rs are.1)
    where
      by : (b : Bool) → AreOf n (filter p rs) → AreOf n (cond b (r ∷ filter p rs) (filter p rs))
      by true i = (are.0, i)
      by false i = i

  below_filter : (p : RowAfter A → Bool) (x : Name) (rs : List (RowAfter A))
      → T (below_all name_cmp x (bare_rows (names_entered rs)))
      → T (below_all name_cmp x (bare_rows (names_entered (filter p rs))))
  below_filter p x [] h = tt
  below_filter p x (r ∷ rs) h = by (p r) (below_filter p x rs (second _ _ h))
    where
      by : (b : Bool) → T (below_all name_cmp x (bare_rows (names_entered (filter p rs))))
          → T (below_all name_cmp x (bare_rows (names_entered (cond b (r ∷ filter p rs) (filter p rs)))))
      by true i = both _ _ (first _ _ h) i
      by false i = i

  pub rising_filter : (p : RowAfter A → Bool) (rs : List (RowAfter A)) → T (are_rising (names_entered rs))
      → T (are_rising (names_entered (filter p rs)))
  rising_filter p [] h = tt
  rising_filter p (r ∷ rs) h = by (p r) (rising_filter p rs (second _ _ h))
    where
      by : (b : Bool) → T (are_rising (names_entered (filter p rs)))
          → T (are_rising (names_entered (cond b (r ∷ filter p rs) (filter p rs))))
      by true i = both _ _ (below_filter p r.name rs (first _ _ h)) i
      by false i = i
