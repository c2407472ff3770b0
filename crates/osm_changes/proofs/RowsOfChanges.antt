-- Changes from a map are the differences to the map after them, and the changes of the rows that they change.
use Rattle.std.proofs.Common.{◌≡◌, ◌≢◌, ◌||◌, Bool, true, false, not, cond, All, List, [], ◌∷◌, ◌++◌, Option, map, refl, get_or, sym, ap, ◌∙◌, arith}
use Rattle.std.proofs.lemmas.List.Elements.{All-head, All-tail}
use Rattle.osm_changes.specs.Prelude.{Name, Rows, row_at, IsRising-name_set, Change, Half, half_at, has, is_same_cell, cell_of, change_at, changed, changed_cells, changed_names, changed_row, changed_rows, changes_of, differences, differing, half_after, row_changes, rows_changes, AreChanges, AreFrom, half, are_same_halves, same_cells, same_rising, has-differing, kept, row_at-changed, IsRising-differing, covering, same_itself, equal_halves}
use Rattle.osm_changes.specs.declared.cell.Cell.{Cell}
use Rattle.osm_changes.proofs.HalvesAfter.{entered_at, not_entered}

module _ {A : Type 0} where
  -- a changed cell has another half after the changes
  other_half : (m : Rows A) (cs : List (Change A)) (c : Cell)
      → All (λ (d : Change A). d.before ≡ half_at m (cell_of d)) cs → All (λ (d : Change A). d.after ≢ d.before) cs
      → has (changed_cells cs) c ≡ true → half_after cs c (half_at m c) ≢ half_at m c
  other_half m [] c from differ there = absurd (cc)
  other_half m (d ∷ ds) c from differ there =
      by (is_same_cell c (cell_of d)) refl there
      (other_half m ds c (All-tail (λ (e : Change A). e.before ≡ half_at m (cell_of e)) d ds from)
      (All-tail (λ (e : Change A). e.after ≢ e.before) d ds differ))
    where
      by : (b : Bool) → is_same_cell c (cell_of d) ≡ b → (b || has (changed_cells ds) c) ≡ true
          → (has (changed_cells ds) c ≡ true → half_after ds c (half_at m c) ≢ half_at m c)
          → cond b d.after (half_after ds c (half_at m c)) ≢ half_at m c
      by true same i rest is = differ 0 d (omega arith) (is ∙ ap (half_at m) (same_cells c (cell_of d) same) ∙ sym (from 0 d (omega arith)))
      by false same i rest is = rest i is

  module _ (m : Rows A) (cs : List (Change A)) (are : AreChanges cs) (from : AreFrom m cs) where
    after_changes : (c : Cell) → half_at (changed m cs) c ≡ half_after cs c (half_at m c)
    after_changes c = ap (half c.part) (row_at-changed m cs c.name) ∙ from.whole c

    -- the maps differ at the changed cells
    differing_cells : differing m (changed m cs) ≡ changed_cells cs
    differing_cells = same_rising (differing m (changed m cs)) (changed_cells cs) (IsRising-differing m (changed m cs)) are.rising
        (λ c. has-differing m (changed m cs) c ∙ by c (has (changed_cells cs) c) refl)
      where
        differ : (h k : Option (Half A)) → k ≢ h → not (are_same_halves h k) ≡ true
        differ h k apart = at (are_same_halves h k) refl
          where
            at : (b : Bool) → are_same_halves h k ≡ b → not b ≡ true
            at true e = absurd (apart (sym (equal_halves h k e)))
            at false e = refl

        by : (c : Cell) (b : Bool) → has (changed_cells cs) c ≡ b → not (are_same_halves (half_at m c) (half_at (changed m cs) c)) ≡ b
        by c true there = differ (half_at m c) (half_at (changed m cs) c)
            (λ same. other_half m cs c from.before are.differ there (sym (after_changes c) ∙ same))
        by c false there = ap (λ h. not (are_same_halves (half_at m c) h)) (after_changes c ∙ not_entered cs c (half_at m c) there)
            ∙ ap not (same_itself (half_at m c))

    -- each change is that of its cell
    remade : (ds : List (Change A)) → All (λ (d : Change A). d.before ≡ half_at m (cell_of d)) ds
        → All (λ (d : Change A). d.after ≡ half_at (changed m cs) (cell_of d)) ds
        → map (change_at m (changed m cs)) (changed_cells ds) ≡ ds
    remade [] before after = refl
    remade (d ∷ ds) before after =
        λ i. record {
          name = d.name;
          part = d.part;
          before = sym (All-head (λ (e : Change A). e.before ≡ half_at m (cell_of e)) d ds before) i;
          after = sym (All-head (λ (e : Change A). e.after ≡ half_at (changed m cs) (cell_of e)) d ds after) i;
        } ∷ remade ds (All-tail (λ (e : Change A). e.before ≡ half_at m (cell_of e)) d ds before)
        (All-tail (λ (e : Change A). e.after ≡ half_at (changed m cs) (cell_of e)) d ds after) i

    differences-changed : differences m (changed m cs) ≡ cs
    differences-changed =
        ap (map (change_at m (changed m cs))) differing_cells
        ∙ remade cs from.before
        (λ k d l. sym (after_changes (cell_of (get_or cs k d)) ∙ entered_at cs are.rising k d (half_at m (cell_of (get_or cs k d))) l))

  by_rows : (m n : Rows A) (names : List Name) → changes_of (map (changed_row m n) names) ≡ rows_changes m (row_at n) names
  by_rows m n [] = refl
  by_rows m n (x ∷ xs) = ap (λ cs. row_changes x (row_at m x) (row_at n x) ++ cs) (by_rows m n xs)

  pub changes_of-changed_rows : (m : Rows A) (cs : List (Change A)) → AreChanges cs → AreFrom m cs
      → changes_of (changed_rows m cs) ≡ cs
  changes_of-changed_rows m cs are from =
      by_rows m (changed m cs) (changed_names cs)
      ∙ covering m (changed m cs) (changed_names cs) (IsRising-name_set (map (λ (c : Change A). c.name) cs)) (λ y out. kept m cs y out)
      ∙ differences-changed m cs are from
