-- A binary search among rows under keys finds the place of a key.
use Rattle.std.proofs.Common.{◌≡◌, ℕ, suc, ◌<◌, ◌≤◌, List, [], ◌∷◌, map, length, Result, Ok, Err, refl, T, get_or, ap, sym, subst, ◌∙◌, arith, add-one, Ordering, Less, Equal, Greater, HoldsAt, is_lt}
use Prim.Native.Nat.{zero}
use Rattle.osm_elements.specs.Prelude.{AllWithin, IsBinarySearchResult, IsSearchInRange, IsNonDecreasingBy, ordering_index, ordering_reverse, alike_right, is_sorted, below_all, Keyed, first, second, keyed_pair, text_cmp, further, place, text_total}

less : (o : Ordering) → T (is_lt o) → o ≡ Less
less Less p = refl
less Equal p = absurd p
less Greater p = absurd p

-- the comparison of two texts, reversed
turned : (x y : List ℕ) (o : Ordering) → text_cmp x y ≡ o → text_cmp y x ≡ ordering_reverse o
turned x y o e = text_total.antisymm y x ∙ ap ordering_reverse e

-- a lesser text compares with a key no higher than a greater text does
rises : (x y key : List ℕ) → text_cmp x y ≡ Less → ordering_index (text_cmp x key) ≤ ordering_index (text_cmp y key)
rises x y key less = by (text_cmp y key) refl
  where
    at_least : (o : Ordering) → o ≡ Less → (p : Ordering) → ordering_index o ≤ ordering_index p
    at_least o e p = subst (λ q. ordering_index q ≤ ordering_index p) (sym e) (omega arith)

    below_greatest : (o : Ordering) → ordering_index o ≤ 2
    below_greatest Less = omega arith
    below_greatest Equal = omega arith
    below_greatest Greater = omega arith

    by : (o : Ordering) → text_cmp y key ≡ o → ordering_index (text_cmp x key) ≤ ordering_index o
    by Less e = at_least (text_cmp x key) (text_total.trans x y key less e) Less
    by Equal e = at_least (text_cmp x key) (sym (alike_right text_total y key x e) ∙ less) Equal
    by Greater e = below_greatest (text_cmp x key)

module _ {V A : Type 0} (key : List ℕ) where
  -- a key below all rows is below each
  below_at : (x : List ℕ) (rows : List (Keyed V A)) (j : ℕ) (d : Keyed V A) → T (below_all text_cmp x (map keyed_pair rows)) → j < length rows → text_cmp x (get_or rows j d).key ≡ Less
  below_at x [] j d h in_range = absurd (omega arith)
  below_at x (t ∷ rows) zero d h in_range = less _ (first _ _ h)
  below_at x (t ∷ rows) (suc j) d h in_range = below_at x rows j d (second _ _ h) (omega arith)

  -- along rising rows, the comparison with a key does not fall
  rising : (rows : List (Keyed V A)) → T (is_sorted text_cmp (map keyed_pair rows)) → IsNonDecreasingBy (λ t. ordering_index (text_cmp t.key key)) rows
  rising [] h i j d up in_range = absurd (omega arith)
  rising (t ∷ rows) h zero zero d up in_range = omega arith
  rising (t ∷ rows) h zero (suc j) d up in_range = rises t.key (get_or rows j d).key key (below_at t.key rows j d (first _ _ h) (omega arith))
  rising (t ∷ rows) h (suc i) zero d up in_range = absurd (omega arith)
  rising (t ∷ rows) h (suc i) (suc j) d up in_range = rising rows (second _ _ h) i j d (omega arith) (omega arith)

  found_is_place : (rows : List (Keyed V A)) (i : ℕ) → T (is_sorted text_cmp (map keyed_pair rows)) → i < length rows → HoldsAt (λ t. text_cmp t.key key ≡ Equal) rows i → place key (map keyed_pair rows) ≡ Ok i
  found_is_place [] i h in_range here = absurd (omega arith)
  found_is_place (t ∷ rows) zero h in_range here = rw (turned t.key key Equal (here t)) refl
  found_is_place (t ∷ rows) (suc i) h in_range here =
      let y = (get_or rows i t).key in
      let low : text_cmp t.key key ≡ Less = sym (alike_right text_total y key t.key (here t)) ∙ below_at t.key rows i t (first _ _ h) (omega arith) in
      rw (turned t.key key Less low) (ap (further 1) (found_is_place rows i (second _ _ h) (omega arith) here) ∙ ap Ok (add-one i))

  gap_is_place : (rows : List (Keyed V A)) (i : ℕ) → i ≤ length rows → AllWithin (λ t. text_cmp t.key key ≡ Less) rows 0 i → AllWithin (λ t. text_cmp t.key key ≡ Greater) rows i (length rows) → place key (map keyed_pair rows) ≡ Err i
  gap_is_place [] i in_range low high = let e : 0 ≡ i = omega arith in ap Err e
  gap_is_place (t ∷ rows) zero in_range low high = rw (turned t.key key Greater (high 0 t (omega arith) (omega arith))) refl
  gap_is_place (t ∷ rows) (suc i) in_range low high =
      rw (turned t.key key Less (low 0 t (omega arith) (omega arith)))
      (ap (further 1) (gap_is_place rows i (omega arith) (λ k d a b. low (suc k) d (omega arith) (omega arith)) (λ k d a b. high (suc k) d (omega arith) (omega arith))) ∙ ap Err (add-one i))

  pub search_is_place : (rows : List (Keyed V A)) (r : Result ℕ ℕ) → T (is_sorted text_cmp (map keyed_pair rows)) → IsSearchInRange r (length rows) → IsBinarySearchResult (λ t. text_cmp t.key key) rows r → r ≡ place key (map keyed_pair rows)
  search_is_place rows (Ok i) h in_range here = sym (found_is_place rows i h in_range here)
  search_is_place rows (Err i) h in_range gap = let parts = gap (rising rows h) in sym (gap_is_place rows i in_range parts.0 parts.1)
