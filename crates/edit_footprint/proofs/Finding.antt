-- A binary search for the change of a cell.
use Rattle.std.proofs.Common.{◌≡◌, ◌<◌, ◌≤◌, ℕ, List, [], ◌∷◌, Result, Ok, Err, length, get_or, is_ok, sym, subst, arith, HoldsAt, Less, Equal, Greater}
use Rattle.std.specs.List.{AllWithin}
use Rattle.std.specs.List.Sorted.{IsSearchInRange, IsBinarySearchResult}
use Rattle.std.specs.Ordering.{ordering_index}
use Rattle.std.proofs.lemmas.List.{get_or-map, length-map}
use Rattle.edit_footprint.specs.Prelude.{Cell, Change, cell_cmp, cell_cmp_total, cell_of, changed_cells, search_tells}
use Rattle.osm_changes.specs.Cells.{has, IsRising}

module _ {A : Type 0} where
  all_mapped : (P : Cell → Type 0) (cs : List (Change A)) (low high : ℕ) → high ≤ length cs → AllWithin (λ d. P (cell_of d)) cs low high → AllWithin P (changed_cells cs) low high
  all_mapped P [] low high fits h k e a b = absurd (omega (arith, fits, b))
  all_mapped P (d ∷ ds) low high fits h k e a b = subst P (sym (get_or-map cell_of (d ∷ ds) k d e (omega (arith, fits, b)))) (h k d a b)

  found : (c : Cell) (cs : List (Change A)) (i : ℕ) → i < length cs → HoldsAt (λ d. cell_cmp (cell_of d) c ≡ Equal) cs i → HoldsAt (λ e. cell_cmp e c ≡ Equal) (changed_cells cs) i
  found c [] i within here = λ e. absurd (omega (arith, within))
  found c (d ∷ ds) i within here = λ e. subst (λ q. cell_cmp q c ≡ Equal) (sym (get_or-map cell_of (d ∷ ds) i d e within)) (here d)

  -- the result of a search for a change is one of a search for its cell
  mapped : (c : Cell) (cs : List (Change A)) (r : Result ℕ ℕ) → IsSearchInRange r (length cs) → IsBinarySearchResult (λ d. cell_cmp (cell_of d) c) cs r → IsBinarySearchResult (λ e. cell_cmp e c) (changed_cells cs) r
  mapped c cs (Ok i) within here = found c cs i within here
  mapped c cs (Err i) within gap = λ up.
      let whole : length (changed_cells cs) ≡ length cs = length-map cs cell_of in
      let parts = gap (λ k l d low high.
      let at : (j : ℕ) → j < length cs → get_or (changed_cells cs) j (cell_of d) ≡ cell_of (get_or cs j d) = λ j inside. get_or-map cell_of cs j d (cell_of d) inside in
      subst (λ e. ordering_index (cell_cmp e c) ≤ ordering_index (cell_cmp (cell_of (get_or cs l d)) c)) (at k (omega (arith, low, high)))
      (subst (λ e. ordering_index (cell_cmp (get_or (changed_cells cs) k (cell_of d)) c) ≤ ordering_index (cell_cmp e c)) (at l high) (up k l (cell_of d) low (omega (arith, high, whole))))) in (
        all_mapped (λ e. cell_cmp e c ≡ Less) cs 0 i within parts.0,
        subst (λ n. AllWithin (λ e. cell_cmp e c ≡ Greater) (changed_cells cs) i n) (sym whole) (all_mapped (λ e. cell_cmp e c ≡ Greater) cs i (length cs) (omega arith) parts.1),
      )

  -- a search finds a change exactly if one has the cell
  pub search_finds : (cs : List (Change A)) (c : Cell) → IsRising (changed_cells cs) → (r : Result ℕ ℕ) → IsSearchInRange r (length cs) → IsBinarySearchResult (λ d. cell_cmp (cell_of d) c) cs r → is_ok r ≡ has (changed_cells cs) c
  search_finds cs c rises r within result =
      search_tells cell_cmp cell_cmp_total c (changed_cells cs) rises r (subst (IsSearchInRange r) (sym (length-map cs cell_of)) within) (mapped c cs r within result)
