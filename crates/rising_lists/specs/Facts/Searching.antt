-- A binary search in a rising list finds the position of a value, or the position where it would be inserted.
use Prim.Native.Nat.{zero}
use Rattle.std.proofs.Common.{◌≡◌, ℕ, suc, ◌<◌, ◌≤◌, ◌&&◌, ◌||◌, not, cond, T, List, [], ◌∷◌, length, get_or, Result, Ok, Err, is_ok, refl, sym, ap, subst, ◌∙◌, arith}
use Rattle.std.specs.List.{AllWithin, HoldsAt, insert, remove}
use Rattle.std.specs.List.Sorted.{IsBinarySearchResult, IsSearchInRange, IsNonDecreasingBy}
use Rattle.std.specs.Ordering.{is_eq, ordering_index, ordering_reverse, match_ordering}
use Rattle.std.specs.Cmp.{IsTotalOrder, alike_right, tied_itself}
use Rattle.std.specs.FinMap.Entries.{below_all}
use Rattle.std.specs.declared.cmp.Ordering.{Ordering}
use Rattle.std.specs.declared.cmp.Ordering.TheVariants.{Less, Equal, Greater}
use Rattle.rising_lists.specs.Rising.{IsRising, bare_rows, is_among, with_value, but}
use Rattle.rising_lists.specs.Facts.Sorted.{first, second, less}
use Rattle.rising_lists.specs.Facts.Rising.{is_among-with_value, is_among-but}

abbrev pub gap_at : ℕ → Result ℕ ℕ
gap_at i = Err i

module _ {X : Type 0} (cmp : X → X → Ordering) (total : IsTotalOrder cmp) where
  -- the comparison of two values, reversed
  turned : (x y : X) (o : Ordering) → cmp x y ≡ o → cmp y x ≡ ordering_reverse o
  turned x y o e = total.antisymm y x ∙ ap ordering_reverse e

  -- a lesser value compares with z no higher than a greater value does
  rises : (x y z : X) → cmp x y ≡ Less → ordering_index (cmp x z) ≤ ordering_index (cmp y z)
  rises x y z low = by (cmp y z) refl
    where
      at_least : (o : Ordering) → o ≡ Less → (p : Ordering) → ordering_index o ≤ ordering_index p
      at_least o e p = subst (λ q. ordering_index q ≤ ordering_index p) (sym e) (omega arith)

      below_greatest : (o : Ordering) → ordering_index o ≤ 2
      below_greatest Less = omega arith
      below_greatest Equal = omega arith
      below_greatest Greater = omega arith

      by : (o : Ordering) → cmp y z ≡ o → ordering_index (cmp x z) ≤ ordering_index o
      by Less e = at_least (cmp x z) (total.trans x y z low e) Less
      by Equal e = at_least (cmp x z) (sym (alike_right total y z x e) ∙ low) Equal
      by Greater e = below_greatest (cmp x z)

  pub below_at : (x : X) (xs : List X) (j : ℕ) (d : X) → T (below_all cmp x (bare_rows xs)) → j < length xs → cmp x (get_or xs j d) ≡ Less
  below_at x [] j d h within = absurd (omega arith)
  below_at x (y ∷ ys) zero d h within = less _ (first _ _ h)
  below_at x (y ∷ ys) (suc j) d h within = below_at x ys j d (second _ _ h) (omega arith)

  rising : (x : X) (xs : List X) → IsRising cmp xs → IsNonDecreasingBy (λ y. ordering_index (cmp y x)) xs
  rising x [] h i j d up within = absurd (omega arith)
  rising x (y ∷ ys) h zero zero d up within = omega arith
  rising x (y ∷ ys) h zero (suc j) d up within = rises y (get_or ys j d) x (below_at y ys j d (first _ _ h) (omega arith))
  rising x (y ∷ ys) h (suc i) zero d up within = absurd (omega arith)
  rising x (y ∷ ys) h (suc i) (suc j) d up within = rising x ys (second _ _ h) i j d (omega arith) (omega arith)

  keeps : (x y : X) (ys : List X) (o : Ordering) → cmp x y ≡ o → T (not (is_eq o)) → but cmp x (y ∷ ys) ≡ y ∷ but cmp x ys
  keeps x y ys Less e h = ap (λ o. cond (not (is_eq o)) (y ∷ but cmp x ys) (but cmp x ys)) e
  keeps x y ys Equal e h = absurd h
  keeps x y ys Greater e h = ap (λ o. cond (not (is_eq o)) (y ∷ but cmp x ys) (but cmp x ys)) e

  drops : (x y : X) (ys : List X) → cmp x y ≡ Equal → but cmp x (y ∷ ys) ≡ but cmp x ys
  drops x y ys e = ap (λ o. cond (not (is_eq o)) (y ∷ but cmp x ys) (but cmp x ys)) e

  but_below : (x y : X) (ys : List X) → cmp x y ≡ Equal → T (below_all cmp y (bare_rows ys)) → but cmp x ys ≡ ys
  but_below x y [] e h = refl
  but_below x y (z ∷ zs) e h =
      keeps x z zs Less (total.congr x y z e ∙ less _ (first _ _ h)) tt ∙ ap (λ values. z ∷ values) (but_below x y zs e (second _ _ h))

  place : (x y : X) (ys : List X) (o : Ordering) → cmp x y ≡ o → with_value cmp x (y ∷ ys) ≡ match_ordering o (x ∷ y ∷ ys) (y ∷ ys) (y ∷ with_value cmp x ys)
  place x y ys o e = ap (λ p. match_ordering p (x ∷ y ∷ ys) (y ∷ ys) (y ∷ with_value cmp x ys)) e

  module _ (x : X) where
    pub put_where_found : (xs : List X) (i : ℕ) → IsRising cmp xs → i < length xs → HoldsAt (λ y. cmp y x ≡ Equal) xs i → with_value cmp x xs ≡ xs
    put_where_found [] i h within here = absurd (omega arith)
    put_where_found (y ∷ ys) zero h within here = place x y ys Equal (turned y x Equal (here y))
    put_where_found (y ∷ ys) (suc i) h within here =
        let z = get_or ys i y in
        let low : cmp y x ≡ Less = sym (alike_right total z x y (here y)) ∙ below_at y ys i y (first _ _ h) (omega arith) in
        place x y ys Greater (turned y x Less low) ∙ ap (λ values. y ∷ values) (put_where_found ys i (second _ _ h) (omega arith) here)

    pub out_where_found : (xs : List X) (i : ℕ) → IsRising cmp xs → i < length xs → HoldsAt (λ y. cmp y x ≡ Equal) xs i → remove xs i ≡ but cmp x xs
    out_where_found [] i h within here = absurd (omega arith)
    out_where_found (y ∷ ys) zero h within here =
        let e = turned y x Equal (here y) in
        sym (drops x y ys e ∙ but_below x y ys e (first _ _ h))
    out_where_found (y ∷ ys) (suc i) h within here =
        let z = get_or ys i y in
        let low : cmp y x ≡ Less = sym (alike_right total z x y (here y)) ∙ below_at y ys i y (first _ _ h) (omega arith) in
        ap (λ values. y ∷ values) (out_where_found ys i (second _ _ h) (omega arith) here) ∙ sym (keeps x y ys Greater (turned y x Less low) tt)

    gap_put : (xs : List X) (i : ℕ) → i ≤ length xs → AllWithin (λ y. cmp y x ≡ Less) xs 0 i → AllWithin (λ y. cmp y x ≡ Greater) xs i (length xs) → insert xs i x ≡ with_value cmp x xs
    gap_put [] i within low high = let e : 0 ≡ i = omega arith in ap (λ j. insert [] j x) (sym e)
    gap_put (y ∷ ys) zero within low high = sym (place x y ys Less (turned y x Greater (high 0 y (omega arith) (omega arith))))
    gap_put (y ∷ ys) (suc i) within low high =
        ap (λ values. y ∷ values) (gap_put ys i (omega arith) (λ k d a b. low (suc k) d (omega arith) (omega arith)) (λ k d a b. high (suc k) d (omega arith) (omega arith)))
        ∙ sym (place x y ys Greater (turned y x Less (low 0 y (omega arith) (omega arith))))

    gap_out : (xs : List X) (i : ℕ) → i ≤ length xs → AllWithin (λ y. cmp y x ≡ Less) xs 0 i → AllWithin (λ y. cmp y x ≡ Greater) xs i (length xs) → but cmp x xs ≡ xs
    gap_out [] i within low high = refl
    gap_out (y ∷ ys) zero within low high =
        keeps x y ys Less (turned y x Greater (high 0 y (omega arith) (omega arith))) tt
        ∙ ap (λ values. y ∷ values) (gap_out ys 0 (omega arith) (λ k d a b. absurd (omega arith)) (λ k d a b. high (suc k) d (omega arith) (omega arith)))
    gap_out (y ∷ ys) (suc i) within low high =
        keeps x y ys Greater (turned y x Less (low 0 y (omega arith) (omega arith))) tt
        ∙ ap (λ values. y ∷ values) (gap_out ys i (omega arith) (λ k d a b. low (suc k) d (omega arith) (omega arith)) (λ k d a b. high (suc k) d (omega arith) (omega arith)))

    module _ (xs : List X) (h : IsRising cmp xs) where
      pub put_in_gap : (i : ℕ) → i ≤ length xs → IsBinarySearchResult (λ y. cmp y x) xs (gap_at i) → insert xs i x ≡ with_value cmp x xs
      put_in_gap i within gap = let parts = gap (rising x xs h) in gap_put xs i within parts.0 parts.1

      pub out_in_gap : (i : ℕ) → i ≤ length xs → IsBinarySearchResult (λ y. cmp y x) xs (gap_at i) → but cmp x xs ≡ xs
      out_in_gap i within gap = let parts = gap (rising x xs h) in gap_out xs i within parts.0 parts.1

      -- a search finds a value if and only if the list contains it
      pub search_tells : (r : Result ℕ ℕ) → IsSearchInRange r (length xs) → IsBinarySearchResult (λ y. cmp y x) xs r → is_ok r ≡ is_among cmp xs x
      search_tells (Ok i) within here =
          sym (ap (λ values. is_among cmp values x) (sym (put_where_found xs i h within here)) ∙ is_among-with_value cmp total x xs x ∙ ap (λ o. is_eq o || is_among cmp xs x) (tied_itself total x))
      search_tells (Err i) within gap =
          sym (ap (λ values. is_among cmp values x) (sym (out_in_gap i within gap)) ∙ is_among-but cmp total x xs x ∙ ap (λ o. not (is_eq o) && is_among cmp xs x) (tied_itself total x))
