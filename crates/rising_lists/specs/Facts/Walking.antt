-- A walk over two rising lists that keeps the values of the first that are not in the second.
use Prim.Native.Nat.{zero}
use Rattle.std.proofs.Common.{◌≡◌, ℕ, suc, ◌+◌, ◌<◌, ◌≤◌, ◌||◌, ◌++◌, not, cond, false, T, List, [], ◌∷◌, length, get_or, drop, refl, sym, ap, subst, ◌∙◌, add-one, arith, append_assoc}
use Rattle.std.proofs.Math.Seq.{drop-cons}
use Rattle.std.specs.Cmp.{IsTotalOrder}
use Rattle.std.specs.Ordering.{is_eq, is_lt, ordering_reverse}
use Rattle.std.specs.FinMap.Entries.{below_all}
use Rattle.std.specs.declared.cmp.Ordering.{Ordering}
use Rattle.std.specs.declared.cmp.Ordering.TheVariants.{Less, Equal, Greater}
use Rattle.rising_lists.specs.Rising.{bare_rows, is_among, IsRising, but_all}
use Rattle.rising_lists.specs.Facts.Sorted.{both, first, second, less, below_less, below_equal}

module _ {X : Type 0} (cmp : X → X → Ordering) where
  abbrev step : Ordering → X → List X → List X → List X
  step o x ys rest = cond (not (is_eq o || is_among cmp ys x)) (x ∷ rest) rest

  IsRising-drop : (i : ℕ) (xs : List X) → IsRising cmp xs → IsRising cmp (drop i xs)
  IsRising-drop zero xs h = h
  IsRising-drop (suc i) [] h = h
  IsRising-drop (suc i) (x ∷ xs) h = IsRising-drop i xs (second _ _ h)

  -- the rest of a list from a position on
  left_from : (xs : List X) (i : ℕ) (x : X) → i < length xs → x ≡ get_or xs i x → drop i xs ≡ x ∷ drop (i + 1) xs
  left_from xs i x within is = drop-cons xs i x within ∙ ap (λ y. y ∷ drop (suc i) xs) (sym is) ∙ ap (λ j. x ∷ drop j xs) (sym (add-one i))

  all_passed : (xs : List X) (i : ℕ) → length xs ≤ i → drop i xs ≡ []
  all_passed [] zero h = refl
  all_passed [] (suc i) h = refl
  all_passed (x ∷ xs) zero h = absurd (omega arith)
  all_passed (x ∷ xs) (suc i) h = all_passed xs i (omega arith)

  but_none : (xs : List X) → but_all cmp xs [] ≡ xs
  but_none [] = refl
  but_none (x ∷ xs) = ap (λ l. x ∷ l) (but_none xs)

  -- at the end of either list, the rest of the first is kept
  pub first_at_end : (xs ys : List X) (i j : ℕ) → length xs ≤ i → but_all cmp (drop i xs) (drop j ys) ≡ drop i xs
  first_at_end xs ys i j h = ap (λ l. but_all cmp l (drop j ys)) (all_passed xs i h) ∙ sym (all_passed xs i h)

  pub second_at_end : (xs ys : List X) (i j : ℕ) → length ys ≤ j → but_all cmp (drop i xs) (drop j ys) ≡ drop i xs
  second_at_end xs ys i j h = ap (λ l. but_all cmp (drop i xs) l) (all_passed ys j h) ∙ but_none (drop i xs)

  module _ (total : IsTotalOrder cmp) where
    turned : (x y : X) (o : Ordering) → cmp x y ≡ o → cmp y x ≡ ordering_reverse o
    turned x y o e = total.antisymm y x ∙ ap ordering_reverse e

    -- a value below a rising list is not in it
    none_above : (x : X) (ys : List X) → T (below_all cmp x (bare_rows ys)) → is_among cmp ys x ≡ false
    none_above x [] h = refl
    none_above x (y ∷ ys) h = ap (λ o. is_eq o || is_among cmp ys x) (less _ (first _ _ h)) ∙ none_above x ys (second _ _ h)

    -- so such a value removes nothing from the list
    takes_none : (y : X) (xs ys : List X) → T (below_all cmp y (bare_rows xs)) → but_all cmp xs (y ∷ ys) ≡ but_all cmp xs ys
    takes_none y [] ys h = refl
    takes_none y (x ∷ xs) ys h =
        ap (λ o. step o x ys (but_all cmp xs (y ∷ ys))) (turned y x Less (less _ (first _ _ h)))
        ∙ ap (λ rest. step Greater x ys rest) (takes_none y xs ys (second _ _ h))

    module _ (x y : X) (xs ys : List X) where
      keeps_less : cmp x y ≡ Less → IsRising cmp (y ∷ ys) → but_all cmp (x ∷ xs) (y ∷ ys) ≡ x ∷ but_all cmp xs (y ∷ ys)
      keeps_less e h =
          ap (λ o. step o x ys (but_all cmp xs (y ∷ ys))) e
          ∙ ap (λ b. cond (not b) (x ∷ but_all cmp xs (y ∷ ys)) (but_all cmp xs (y ∷ ys))) (none_above x ys (below_less cmp total x y (bare_rows ys) e (first _ _ h)))

      leaves_equal : cmp x y ≡ Equal → IsRising cmp (x ∷ xs) → but_all cmp (x ∷ xs) (y ∷ ys) ≡ but_all cmp xs ys
      leaves_equal e h =
          ap (λ o. step o x ys (but_all cmp xs (y ∷ ys))) e
          ∙ takes_none y xs ys (below_equal cmp total y x (bare_rows xs) (turned x y Equal e) (first _ _ h))

      passes_greater : cmp x y ≡ Greater → IsRising cmp (x ∷ xs) → but_all cmp (x ∷ xs) (y ∷ ys) ≡ but_all cmp (x ∷ xs) ys
      passes_greater e h =
          let under = turned x y Greater e in
          takes_none y (x ∷ xs) ys (both _ _ (subst (λ o. T (is_lt o)) (sym under) tt) (below_less cmp total y x (bare_rows xs) under (first _ _ h)))

    module _ (xs ys : List X) (rx : IsRising cmp xs) (ry : IsRising cmp ys) (i j : ℕ) (x y : X) (wx : i < length xs) (wy : j < length ys) (ix : x ≡ get_or xs i x) (iy : y ≡ get_or ys j y) (kept whole : List X) (so_far : kept ++ but_all cmp (drop i xs) (drop j ys) ≡ whole) where
      at_x : drop i xs ≡ x ∷ drop (i + 1) xs
      at_x = left_from xs i x wx ix

      at_y : drop j ys ≡ y ∷ drop (j + 1) ys
      at_y = left_from ys j y wy iy

      here : but_all cmp (x ∷ drop (i + 1) xs) (y ∷ drop (j + 1) ys) ≡ but_all cmp (drop i xs) (drop j ys)
      here = λ k. but_all cmp (sym at_x k) (sym at_y k)

      rises_x : IsRising cmp (x ∷ drop (i + 1) xs)
      rises_x = subst (IsRising cmp) at_x (IsRising-drop i xs rx)

      rises_y : IsRising cmp (y ∷ drop (j + 1) ys)
      rises_y = subst (IsRising cmp) at_y (IsRising-drop j ys ry)

      pub one_kept : cmp x y ≡ Less → (kept ++ x ∷ []) ++ but_all cmp (drop (i + 1) xs) (drop j ys) ≡ whole
      one_kept e =
          append_assoc kept (x ∷ []) (but_all cmp (drop (i + 1) xs) (drop j ys))
          ∙ ap (λ l. kept ++ x ∷ but_all cmp (drop (i + 1) xs) l) at_y
          ∙ ap (λ l. kept ++ l) (sym (keeps_less x y (drop (i + 1) xs) (drop (j + 1) ys) e rises_y) ∙ here)
          ∙ so_far

      pub one_left : cmp x y ≡ Equal → kept ++ but_all cmp (drop (i + 1) xs) (drop (j + 1) ys) ≡ whole
      one_left e = ap (λ l. kept ++ l) (sym (leaves_equal x y (drop (i + 1) xs) (drop (j + 1) ys) e rises_x) ∙ here) ∙ so_far

      pub one_passed : cmp x y ≡ Greater → kept ++ but_all cmp (drop i xs) (drop (j + 1) ys) ≡ whole
      one_passed e =
          ap (λ l. kept ++ but_all cmp l (drop (j + 1) ys)) at_x
          ∙ ap (λ l. kept ++ l) (sym (passes_greater x y (drop (i + 1) xs) (drop (j + 1) ys) e rises_x) ∙ here) ∙ so_far
