-- Cells at which two maps differ, halves and rows after changes, and that the changes between two maps lead there and
-- back.
use Rattle.std.proofs.Common.{sym, ap, ◌∙◌}
use Rattle.std.specs.Prelude.{◌≡◌, ◌||◌, ◌&&◌, Bool, true, false, not, List, [], ◌∷◌, ◌++◌, Option, Some, None, is_some, map, refl, cond, fold}
use Rattle.std.proofs.lemmas.List.Folds.{fold-map}
use Rattle.osm_refs.specs.Prelude.{AreInOrder, row_at, is_among-name_set, is_among-append, is_among-names_of, row_at-rows_but, AreInOrder-rows_but, same_names, row_at-put_row, AreInOrder-put_row, same_rows, Rows, is_same, is_among, is_present, name_set, names_of, IsRising-name_set}
use Rattle.osm_elements.specs.declared.name.Name.{Name}
use Rattle.osm_elements.specs.declared.element.Element.{Element}
use Rattle.osm_changes.specs.declared.cell.Cell.{Cell}
use Rattle.osm_changes.specs.declared.change.Change.{Change}
use Rattle.osm_changes.specs.declared.half.Half.{Half}
use Rattle.osm_changes.specs.declared.part.Part.{Part}
use Rattle.osm_changes.specs.declared.part.Part.TheVariants.{Tags, Rest}
use Rattle.osm_changes.specs.declared.changed_row.ChangedRow.{ChangedRow}
use Rattle.osm_changes.specs.declared.row_after.RowAfter.{RowAfter}
use Rattle.osm_changes.specs.Cells.{tags_at, rest_at, cells_of, is_same_cell, has, IsRising, half_at}
use Rattle.osm_changes.specs.Changes.{differing, change_at, differences, cell_of, changed_cells, changed_names, inverse, half_after, row_after, with_row, changed, changed_row, changed_rows}
use Rattle.osm_changes.specs.Inner.Applying.{row_in, rows_after}
use Rattle.osm_changes.specs.Halves.{half, row_of, are_same_halves}
use Rattle.osm_changes.specs.Facts.Cells.{same_cells, other_cell, has-cells_of, has-passing, IsRising-filter, IsRising-cells_of}
use Rattle.osm_changes.specs.Facts.Halves.{row_of-halves, equal_halves}

module _ {A : Type 0} where
  pub row_at-with_row : (m : Rows A) (y : Name) (o : Option (Element A)) (x : Name)
      → row_at (with_row m y o) x ≡ cond (is_same x y) o (row_at m x)
  row_at-with_row m y None x = row_at-rows_but m y x
  row_at-with_row m y (Some v) x = row_at-put_row m y v x

  pub AreInOrder-with_row : (m : Rows A) (y : Name) (o : Option (Element A)) → AreInOrder m
      → AreInOrder (with_row m y o)
  AreInOrder-with_row m y None h = AreInOrder-rows_but m y h
  AreInOrder-with_row m y (Some v) h = AreInOrder-put_row m y v h

  -- ---- the cells that differ

  pub has-differing : (m n : Rows A) (c : Cell)
      → has (differing m n) c ≡ not (are_same_halves (half_at m c) (half_at n c))
  has-differing m n c = has-passing (λ d. not (are_same_halves (half_at m d) (half_at n d)))
      (cells_of (name_set (names_of m ++ names_of n))) c ∙ by (are_same_halves (half_at m c) (half_at n c)) refl
    where
      there : has (cells_of (name_set (names_of m ++ names_of n))) c ≡ (is_present m c.name || is_present n c.name)
      there =
          has-cells_of (name_set (names_of m ++ names_of n)) c ∙ is_among-name_set c.name (names_of m ++ names_of n)
          ∙ is_among-append c.name (names_of m) (names_of n)
          ∙ ap (λ b. b || is_among (names_of n) c.name) (is_among-names_of m c.name)
          ∙ ap (λ b. is_present m c.name || b) (is_among-names_of n c.name)

      one : (o p : Option (Element A)) → are_same_halves (half c.part o) (half c.part p) ≡ false
          → (is_some o || is_some p) ≡ true
      one None None e = absurd (cc)
      one None (Some w) e = refl
      one (Some v) p e = refl

      by : (b : Bool) → are_same_halves (half_at m c) (half_at n c) ≡ b
          → (not b && has (cells_of (name_set (names_of m ++ names_of n))) c) ≡ not b
      by true e = refl
      by false e = there ∙ one (row_at m c.name) (row_at n c.name) e

  -- at a cell where they do not differ, two maps have the same half
  pub not_differing : (m n : Rows A) (c : Cell) → has (differing m n) c ≡ false → half_at m c ≡ half_at n c
  not_differing m n c h = by (are_same_halves (half_at m c) (half_at n c)) refl (sym (has-differing m n c) ∙ h)
    where
      by : (b : Bool) → are_same_halves (half_at m c) (half_at n c) ≡ b → not b ≡ false → half_at m c ≡ half_at n c
      by true e f = equal_halves (half_at m c) (half_at n c) e
      by false e f = absurd (cc)

  pub IsRising-differing : (m n : Rows A) → IsRising (differing m n)
  IsRising-differing m n = IsRising-filter (λ c. not (are_same_halves (half_at m c) (half_at n c)))
      (cells_of (name_set (names_of m ++ names_of n)))
      (IsRising-cells_of (name_set (names_of m ++ names_of n)) (IsRising-name_set (names_of m ++ names_of n)))

  cells_back : (m n : Rows A) (cells : List Cell) → changed_cells (map (change_at m n) cells) ≡ cells
  cells_back m n [] = refl
  cells_back m n (c ∷ cs) = ap (λ l. c ∷ l) (cells_back m n cs)

  pub cells-differences : (m n : Rows A) → changed_cells (differences m n) ≡ differing m n
  cells-differences m n = cells_back m n (differing m n)

  -- ---- halves after changes

  -- a half after the changes at the given cells
  half_after-map : (m n : Rows A) (cells : List Cell) (c : Cell) (h : Option (Half A))
      → half_after (map (change_at m n) cells) c h ≡ cond (has cells c) (half_at n c) h
  half_after-map m n [] c h = refl
  half_after-map m n (d ∷ ds) c h = by (is_same_cell c d) refl (half_after-map m n ds c h)
    where
      by : (b : Bool) → is_same_cell c d ≡ b → half_after (map (change_at m n) ds) c h ≡ cond (has ds c) (half_at n c) h
          → cond b (half_at n d) (half_after (map (change_at m n) ds) c h) ≡ cond (b || has ds c) (half_at n c) h
      by true e i = ap (half_at n) (sym (same_cells c d e))
      by false e i = i

  chosen : (b : Bool) (h k : Option (Half A)) → (b ≡ false → k ≡ h) → cond b h k ≡ h
  chosen true h k e = refl
  chosen false h k e = e refl

  pub half_after-differences : (m n : Rows A) (c : Cell) → half_after (differences m n) c (half_at m c) ≡ half_at n c
  half_after-differences m n c = half_after-map m n (differing m n) c (half_at m c)
      ∙ chosen (has (differing m n) c) (half_at n c) (half_at m c) (not_differing m n c)

  inverse-map : (m n : Rows A) (cells : List Cell) → inverse (map (change_at m n) cells) ≡ map (change_at n m) cells
  inverse-map m n [] = refl
  inverse-map m n (c ∷ cs) = ap (λ l. change_at n m c ∷ l) (inverse-map m n cs)

  pub half_after-inverse : (m n : Rows A) (c : Cell)
      → half_after (inverse (differences m n)) c (half_at n c) ≡ half_at m c
  half_after-inverse m n c =
      ap (λ cs. half_after cs c (half_at n c)) (inverse-map m n (differing m n))
      ∙ half_after-map n m (differing m n) c (half_at n c)
      ∙ chosen (has (differing m n) c) (half_at m c) (half_at n c) (λ e. sym (not_differing m n c e))

  -- a half of a name without changes stays
  not_entered : (cs : List (Change A)) (x : Name) (p : Part) (h : Option (Half A))
      → is_among (map (λ (d : Change A). d.name) cs) x ≡ false → half_after cs (record { name = x; part = p }) h ≡ h
  not_entered [] x p h e = refl
  not_entered (d ∷ ds) x p h e = by (is_same x d.name) refl e (not_entered ds x p h)
    where
      by : (b : Bool) → is_same x d.name ≡ b → (b || is_among (map (λ (d : Change A). d.name) ds) x) ≡ false
          → (is_among (map (λ (d : Change A). d.name) ds) x ≡ false
          → half_after ds (record { name = x; part = p }) h ≡ h)
          → cond (is_same_cell (record { name = x; part = p }) (cell_of d)) d.after
          (half_after ds (record { name = x; part = p }) h) ≡ h
      by true e f rest = absurd (cc)
      by false e f rest = ap (λ b. cond b d.after (half_after ds (record { name = x; part = p }) h))
          (other_cell x d.name p d.part e) ∙ rest f

  -- ---- rows after changes

  -- the row at a name after the given names get rows
  row_at-fold : (f : Name → Option (Element A)) (names : List Name) (n : Rows A) (x : Name)
      → row_at (fold (λ k y. with_row k y (f y)) n names) x ≡ cond (is_among names x) (f x) (row_at n x)
  row_at-fold f [] n x = refl
  row_at-fold f (y ∷ ys) n x = row_at-fold f ys (with_row n y (f y)) x
      ∙ ap (cond (is_among ys x) (f x)) (row_at-with_row n y (f y) x) ∙ by (is_same x y) refl (is_among ys x)
    where
      by : (s : Bool) → is_same x y ≡ s → (a : Bool)
          → cond a (f x) (cond s (f y) (row_at n x)) ≡ cond (s || a) (f x) (row_at n x)
      by true e true = refl
      by true e false = ap f (sym (same_names x y e))
      by false e a = refl

  AreInOrder-fold : (f : Name → Option (Element A)) (names : List Name) (n : Rows A) → AreInOrder n
      → AreInOrder (fold (λ k y. with_row k y (f y)) n names)
  AreInOrder-fold f [] n h = h
  AreInOrder-fold f (y ∷ ys) n h = AreInOrder-fold f ys (with_row n y (f y)) (AreInOrder-with_row n y (f y) h)

  pub AreInOrder-changed : (m : Rows A) (cs : List (Change A)) → AreInOrder m → AreInOrder (changed m cs)
  AreInOrder-changed m cs h = AreInOrder-fold (λ x. row_after cs x (row_at m x)) (changed_names cs) m h

  -- the row at any name after changes is computed from its row before
  pub row_at-changed : (m : Rows A) (cs : List (Change A)) (x : Name)
      → row_at (changed m cs) x ≡ row_after cs x (row_at m x)
  row_at-changed m cs x =
      row_at-fold (λ y. row_after cs y (row_at m y)) (changed_names cs) m x
      ∙ ap (λ b. cond b (row_after cs x (row_at m x)) (row_at m x))
      (is_among-name_set x (map (λ (d : Change A). d.name) cs))
      ∙ by (is_among (map (λ (d : Change A). d.name) cs) x) refl
    where
      by : (b : Bool) → is_among (map (λ (d : Change A). d.name) cs) x ≡ b
          → cond b (row_after cs x (row_at m x)) (row_at m x) ≡ row_after cs x (row_at m x)
      by true e = refl
      by false e = sym ((λ i. row_of (not_entered cs x Tags (half Tags (row_at m x)) e i)
          (not_entered cs x Rest (half Rest (row_at m x)) e i)) ∙ row_of-halves (row_at m x))

  -- a name without changes keeps its row
  pub kept : (m : Rows A) (cs : List (Change A)) (x : Name) → is_among (changed_names cs) x ≡ false
      → row_at (changed m cs) x ≡ row_at m x
  kept m cs x e = row_at-fold (λ y. row_after cs y (row_at m y)) (changed_names cs) m x
      ∙ ap (λ b. cond b (row_after cs x (row_at m x)) (row_at m x)) e

  -- a map that gets the rows after changes becomes the map after them
  with_names_after : (m : Rows A) (cs : List (Change A))
      → fold (λ n x. with_row n x (row_at (changed m cs) x)) m (changed_names cs) ≡ changed m cs
  with_names_after m cs = over (changed_names cs) m
    where
      over : (xs : List Name) (n : Rows A)
          → fold (λ n x. with_row n x (row_at (changed m cs) x)) n xs
          ≡ fold (λ n x. with_row n x (row_after cs x (row_at m x))) n xs
      over [] n = refl
      over (x ∷ xs) n =
          over xs (with_row n x (row_at (changed m cs) x))
          ∙ ap (λ o. fold (λ n y. with_row n y (row_after cs y (row_at m y))) (with_row n x o) xs)
          (row_at-changed m cs x)

  pub with_rows_after : (m : Rows A) (cs : List (Change A))
      → fold (λ n (r : RowAfter A). with_row n r.name r.element) m (rows_after m cs) ≡ changed m cs
  with_rows_after m cs =
      fold-map (λ n (r : RowAfter A). with_row n r.name r.element) (row_in (changed m cs)) m (changed_names cs)
      ∙ with_names_after m cs

  pub with_changed_rows : (m : Rows A) (cs : List (Change A))
      → fold (λ n (r : ChangedRow A). with_row n r.name r.after) m (changed_rows m cs) ≡ changed m cs
  with_changed_rows m cs =
      fold-map (λ n (r : ChangedRow A). with_row n r.name r.after) (changed_row m (changed m cs)) m (changed_names cs)
      ∙ with_names_after m cs

  -- ---- there and back

  pub changed-differences : (m n : Rows A) → AreInOrder m → AreInOrder n → changed m (differences m n) ≡ n
  changed-differences m n g h = same_rows (changed m (differences m n)) n (AreInOrder-changed m (differences m n) g) h
      (λ x. row_at-changed m (differences m n) x
      ∙ (λ i. row_of (half_after-differences m n (tags_at x) i) (half_after-differences m n (rest_at x) i))
      ∙ row_of-halves (row_at n x))

  pub changed-inverse : (m n : Rows A) → AreInOrder m → AreInOrder n → changed n (inverse (differences m n)) ≡ m
  changed-inverse m n g h = same_rows (changed n (inverse (differences m n))) m
      (AreInOrder-changed n (inverse (differences m n)) h) g
      (λ x. row_at-changed n (inverse (differences m n)) x
      ∙ (λ i. row_of (half_after-inverse m n (tags_at x) i) (half_after-inverse m n (rest_at x) i))
      ∙ row_of-halves (row_at m x))
