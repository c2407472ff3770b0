-- Changed rows, each with its row in the map before.
use Rattle.std.proofs.Common.{◌≡◌, Bool, true, false, List, [], ◌∷◌, map, refl, cond, is_none, is_some, ◌&&◌, ap, ◌∙◌, filter}
use Rattle.std.proofs.lemmas.List.Elements.{All-nil, All-cons, All-head, All-tail}
use Rattle.osm_changes.specs.Prelude.{Name, Rows, row_at, Change, ChangedRow, changed, changed_names, changed_row, changed_rows}
use Rattle.osm_changes.specs.Inner.Applying.{after_of, begins, is_new, row_in, rows_after, AreBefore}
use Rattle.osm_changes.specs.Inner.References.{reference_change_of, row_reference_change}

module _ {A : Type 0} where
  -- a test of the rows, and the same test by the map
  module _ (m : Rows A) (p : Bool → Bool) where
    pub kept_alike : (rows : List (ChangedRow A)) → AreBefore m rows
        → map after_of (filter (λ r. p (begins r)) rows) ≡ filter (λ r. p (is_new m r)) (map after_of rows)
    kept_alike [] before = refl
    kept_alike (r ∷ rows) before =
        by (p (begins r)) (kept_alike rows (All-tail is_before r rows before))
        ∙ ap (λ b. cond b (after_of r ∷ filter (λ q. p (is_new m q)) (map after_of rows)) (filter (λ q. p (is_new m q)) (map after_of rows)))
        (ap (λ o. p (is_none o && is_some r.after)) (All-head is_before r rows before))
      where
        is_before : ChangedRow A → Type 0
        is_before q = q.before ≡ row_at m q.name

        by : (b : Bool) → map after_of (filter (λ q. p (begins q)) rows) ≡ filter (λ q. p (is_new m q)) (map after_of rows)
            → map after_of (cond b (r ∷ filter (λ q. p (begins q)) rows) (filter (λ q. p (begins q)) rows))
            ≡ cond b (after_of r ∷ filter (λ q. p (is_new m q)) (map after_of rows)) (filter (λ q. p (is_new m q)) (map after_of rows))
        by true e = ap (λ l. after_of r ∷ l) e
        by false e = e

  pub references_alike : (m : Rows A) (rows : List (ChangedRow A)) → AreBefore m rows
      → map row_reference_change rows ≡ map (reference_change_of m) (map after_of rows)
  references_alike m [] before = refl
  references_alike m (r ∷ rows) before =
      λ i. row_reference_change (record { name = r.name; before = All-head (λ (q : ChangedRow A). q.before ≡ row_at m q.name) r rows before i; after = r.after })
      ∷ references_alike m rows (All-tail (λ (q : ChangedRow A). q.before ≡ row_at m q.name) r rows before) i

  -- the rows that changes lead to
  module _ (m n : Rows A) where
    pub after_rows : (names : List Name) → map after_of (map (changed_row m n) names) ≡ map (row_in n) names
    after_rows [] = refl
    after_rows (x ∷ xs) = ap (λ rows. row_in n x ∷ rows) (after_rows xs)

    pub names_stay : (names : List Name) → map (λ (r : ChangedRow A). r.name) (map (changed_row m n) names) ≡ names
    names_stay [] = refl
    names_stay (x ∷ xs) = ap (λ rest. x ∷ rest) (names_stay xs)

    pub are_before : (names : List Name) → AreBefore m (map (changed_row m n) names)
    are_before [] = All-nil (λ (r : ChangedRow A). r.before ≡ row_at m r.name)
    are_before (x ∷ xs) = All-cons (λ (r : ChangedRow A). r.before ≡ row_at m r.name) (changed_row m n x) (map (changed_row m n) xs) refl (are_before xs)

  pub rows_made : (m : Rows A) (cs : List (Change A)) (rows : List (ChangedRow A)) → rows ≡ changed_rows m cs
      → map after_of rows ≡ rows_after m cs
  rows_made m cs rows made = ap (map after_of) made ∙ after_rows m (changed m cs) (changed_names cs)
