-- Sorting touches and dropping repeats gives their set.
use Rattle.std.proofs.Common.{◌≡◌, ◌||◌, suc, Bool, true, false, T, List, [], ◌∷◌, refl, Decides, sym, ap, subst, ◌∙◌, arith, Contains, IsPermutation, IsSorted, is_lt, Less}
use Rattle.std.specs.List.Sorted.{IsStrictlySortedBy}
use Prim.Native.Nat.{zero}
use Rattle.std.proofs.lemmas.Bool.Decides.{same_from_decides}
use Rattle.std.proofs.lemmas.List.Filters.{dedup_is}
use Rattle.std.proofs.lemmas.List.Kept.{Contains-dedup, Contains-from_dedup, IsStrictlySortedBy-dedup}
use Rattle.std.proofs.lemmas.List.Sorted.{Contains-permutation, IsPermutation-sym}
use Rattle.edit_footprint.specs.Prelude.{dedup, AllByRecursion, IsFiltered, DiffersFromLast, eq_by_cmp_equiv, below_all, Touch, touch_cmp, is_same_touch, does, touch_set, IsFootprint, touch_cmp_total, same_touches, is_same_touch-itself, same_as_touch_set, does-more, bare_rows}
use Rattle.rising_lists.specs.Facts.Sorted.{both}

-- a list has a touch exactly if it contains it
does_contains : (cs : List Touch) (q : Touch) → does cs q ≡ true → Contains cs q
does_contains [] q e = absurd (cc)
does_contains (c ∷ cs) q e = by (is_same_touch q c) refl e (does_contains cs q)
  where
    by : (b : Bool) → is_same_touch q c ≡ b → (b || does cs q) ≡ true → (does cs q ≡ true → Contains cs q)
        → Contains (c ∷ cs) q
    by true f g i = (0, omega arith, sym (same_touches q c f))
    by false f g i = let found = i g in (suc found.0, omega (arith, found.1), found.2)

contains_does : (cs : List Touch) (q : Touch) → Contains cs q → does cs q ≡ true
contains_does [] q (k, within, is) = absurd (omega arith)
contains_does (c ∷ cs) q (zero, within, is) = ap (λ d. is_same_touch q d || does cs q) is
    ∙ ap (λ b. b || does cs q) (is_same_touch-itself q)
contains_does (c ∷ cs) q (suc k, within, is) = does-more q c cs (contains_does cs q (k, omega (arith, within), is))

Decides-does : (cs : List Touch) (q : Touch) → Decides (does cs q) (Contains cs q)
Decides-does cs q = (does_contains cs q, contains_does cs q)

below_from_strict : (c : Touch) (cs : List Touch) → AllByRecursion (λ d. touch_cmp c d ≡ Less) cs
    → T (below_all touch_cmp c (bare_rows cs))
below_from_strict c [] h = tt
below_from_strict c (d ∷ ds) h = both _ _ (subst (λ o. T (is_lt o)) (sym h.0) tt) (below_from_strict c ds h.1)

IsFootprint-from_strict : (cs : List Touch) → IsStrictlySortedBy touch_cmp cs → IsFootprint cs
unfolding IsStrictlySortedBy
IsFootprint-from_strict [] h = tt
IsFootprint-from_strict (c ∷ cs) h = both _ _ (below_from_strict c cs h.0) (IsFootprint-from_strict cs h.1)

-- the result of sorting and dropping repeats
pub sorted_is_touch_set : (touches xs ys : List Touch) → IsPermutation touches xs → IsSorted touch_cmp xs
    → IsFiltered (DiffersFromLast is_same_touch) [] xs ys → ys ≡ touch_set touches
sorted_is_touch_set touches xs ys moved sorted filtered =
    dedup_is is_same_touch xs ys filtered
    ∙ same_as_touch_set (dedup is_same_touch xs) touches
    (IsFootprint-from_strict _ (IsStrictlySortedBy-dedup touch_cmp_total (λ c d. refl) xs sorted))
    (λ q. same_from_decides _ _ (Decides-does (dedup is_same_touch xs) q) (
      λ e. Contains-dedup (eq_by_cmp_equiv touch_cmp_total) same_touches xs q
          (Contains-permutation _ _ q moved (does_contains touches q e)),
      λ h. contains_does touches q (Contains-permutation _ _ q (IsPermutation-sym _ _ moved)
          (Contains-from_dedup is_same_touch xs q h)),
    ))
