-- Look-ups in changes whose cells rise, and the result of a binary search.
use Rattle.std.proofs.Common.{◌≡◌, ◌<◌, ◌≤◌, ◌+◌, ℕ, zero, suc, false, T, List, [], ◌∷◌, Option, length, map, refl, cond, get_or, sym, ap, subst, ◌∙◌, arith, HoldsAt, IsSorted, is_lt, nat_cmp, Ordering, Less, Equal, Greater}
use Rattle.std.proofs.lemmas.List.{get_or-map, length-map}
use Rattle.osm_changes.specs.Prelude.{below_all, AllWithin, IsBinarySearchResult, ordering_index, ordering_reverse, ordering_then, name_cmp_total, name_cmp, bare_rows, gap_at, search_tells, Change, Half, cell_cmp, part_rank, is_same_cell, has, IsRising, cell_of, changed_cells, half_after, cell_cmp_total, cell_cmp-IsAntisymmetric, is_same_cell-itself, same_either_way}
use Rattle.rising_lists.specs.Facts.Sorted.{first, second}
use Rattle.osm_changes.specs.declared.cell.Cell.{Cell}
use Rattle.osm_changes.proofs.RowsEntered.{below_is_other, or_false}

module _ {A : Type 0} where
  -- the half after changes at a changed cell is that of its change
  pub entered_at : (cs : List (Change A)) → IsRising (changed_cells cs) → (k : ℕ) (d : Change A) (h : Option (Half A))
      → k < length cs → half_after cs (cell_of (get_or cs k d)) h ≡ (get_or cs k d).after
  entered_at [] up k d h l = absurd (omega (arith, l))
  entered_at (c ∷ cs) up zero d h l = ap (λ b. cond b c.after (half_after cs (cell_of c) h))
      (is_same_cell-itself (cell_of c))
  entered_at (c ∷ cs) up (suc k) d h l =
      ap (λ b. cond b c.after (half_after cs (cell_of (get_or cs k d)) h))
      (same_either_way (cell_of (get_or cs k d)) (cell_of c) ∙ above cs (first _ _ up) k d (omega (arith, l)))
      ∙ entered_at cs (second _ _ up) k d h (omega (arith, l))
    where
      above : (ds : List (Change A)) → T (below_all cell_cmp (cell_of c) (bare_rows (changed_cells ds)))
          → (k : ℕ) (d : Change A) → k < length ds → is_same_cell (cell_of c) (cell_of (get_or ds k d)) ≡ false
      above [] t k d l = absurd (omega (arith, l))
      above (x ∷ xs) t zero d l = below_is_other (cell_cmp (cell_of c) (cell_of x)) (first _ _ t)
      above (x ∷ xs) t (suc k) d l = above xs (second _ _ t) k d (omega (arith, l))

  -- the half at a cell without a change stays
  pub not_entered : (cs : List (Change A)) (c : Cell) (h : Option (Half A)) → has (changed_cells cs) c ≡ false
      → half_after cs c h ≡ h
  not_entered [] c h e = refl
  not_entered (d ∷ ds) c h e =
      let parts = or_false (is_same_cell c (cell_of d)) (has (changed_cells ds) c) e in
      ap (λ b. cond b d.after (half_after ds c h)) parts.0 ∙ not_entered ds c h parts.1

  -- ---- a binary search

  all_mapped : (P : Cell → Type 0) (cs : List (Change A)) (low high : ℕ) → high ≤ length cs
      → AllWithin (λ d. P (cell_of d)) cs low high → AllWithin P (changed_cells cs) low high
  all_mapped P [] low high fits h k e a b = absurd (omega (arith, fits, b))
  all_mapped P (d ∷ ds) low high fits h k e a b = subst P
      (sym (get_or-map cell_of (d ∷ ds) k d e (omega (arith, fits, b)))) (h k d a b)

  -- a search that finds no change finds no cell either
  gap_mapped : (c : Cell) (cs : List (Change A)) (i : ℕ) → i ≤ length cs
      → IsBinarySearchResult (λ d. cell_cmp (cell_of d) c) cs (gap_at i)
      → IsBinarySearchResult (λ e. cell_cmp e c) (changed_cells cs) (gap_at i)
  gap_mapped c cs i within gap up =
      let whole : length (changed_cells cs) ≡ length cs = length-map cs cell_of in
      let parts = gap (λ k l d low high.
      let at : (j : ℕ) → j < length cs
      → get_or (changed_cells cs) j (cell_of d)
      ≡ cell_of (get_or cs j d) = λ j inside. get_or-map cell_of cs j d (cell_of d) inside in
      let first = at k (omega (arith, low, high)) in
      let second = at l high in
      subst (λ e. ordering_index (cell_cmp e c) ≤ ordering_index (cell_cmp (cell_of (get_or cs l d)) c)) first
      (subst (λ e. ordering_index (cell_cmp (get_or (changed_cells cs) k (cell_of d)) c) ≤ ordering_index
      (cell_cmp e c)) second (up k l (cell_of d) low (omega (arith, high, whole))))) in (
        all_mapped (λ e. cell_cmp e c ≡ Less) cs 0 i within parts.0,
        subst (λ n. AllWithin (λ e. cell_cmp e c ≡ Greater) (changed_cells cs) i n) (sym whole)
            (all_mapped (λ e. cell_cmp e c ≡ Greater) cs i (length cs) (omega arith) parts.1),
      )

  pub found_at : (cs : List (Change A)) (c : Cell) (i : ℕ) (d : Change A) (h : Option (Half A))
      → IsRising (changed_cells cs) → i < length cs → HoldsAt (λ d. cell_cmp (cell_of d) c ≡ Equal) cs i
      → half_after cs c h ≡ (get_or cs i d).after
  found_at cs c i d h up within here = ap (λ e. half_after cs e h)
      (sym (cell_cmp-IsAntisymmetric (cell_of (get_or cs i d)) c (here d))) ∙ entered_at cs up i d h within

  pub not_found : (cs : List (Change A)) (c : Cell) (i : ℕ) (h : Option (Half A)) → IsRising (changed_cells cs)
      → i ≤ length cs → IsBinarySearchResult (λ d. cell_cmp (cell_of d) c) cs (gap_at i) → half_after cs c h ≡ h
  not_found cs c i h up within gap =
      let fits : i ≤ length (changed_cells cs) = subst (λ n. i ≤ n) (sym (length-map cs cell_of)) within in
      not_entered cs c h (sym (search_tells cell_cmp cell_cmp_total c (changed_cells cs) up (gap_at i) fits
      (gap_mapped c cs i within gap)))

  -- ---- the names of the changes

  -- the names do not fall
  pub names_sorted : (cs : List (Change A)) → IsRising (changed_cells cs)
      → IsSorted name_cmp (map (λ (c : Change A). c.name) cs)
  names_sorted [] up k d low within = absurd (omega (arith, within))
  names_sorted (c ∷ []) up k d low within = absurd (omega (arith, within))
  names_sorted (c ∷ e ∷ cs) up zero d low within = ap is_lt (name_cmp_total.antisymm e.name c.name)
      ∙ by (name_cmp c.name e.name) (first _ _ (first _ _ up))
    where
      by : (o : Ordering) → T (is_lt (ordering_then o (nat_cmp (part_rank c.part) (part_rank e.part))))
          → is_lt (ordering_reverse o) ≡ false
      by Less h = refl
      by Equal h = refl
      by Greater h = absurd h
  names_sorted (c ∷ e ∷ cs) up (suc k) d low within =
      let more : suc k + 1 ≡ suc (k + 1) = omega arith in
      rw more (names_sorted (e ∷ cs) (second _ _ up) k d (omega arith) (omega (arith, within)))
