-- Sorting names and dropping repeats gives their set.
use Rattle.std.proofs.Common.{sym, ap, subst, ◌∙◌, arith}
use Rattle.std.specs.Prelude.{◌≡◌, ◌||◌, Bool, true, false, T, List, [], ◌∷◌, refl, suc, Decides, Contains, IsPermutation, IsSorted}
use Rattle.std.specs.List.Sorted.{IsStrictlySortedBy}
use Prim.Native.Nat.{zero}
use Rattle.std.proofs.lemmas.Bool.Decides.{same_from_decides}
use Rattle.std.proofs.lemmas.List.Filters.{dedup_is}
use Rattle.std.proofs.lemmas.List.Kept.{Contains-dedup, Contains-from_dedup, IsStrictlySortedBy-dedup}
use Rattle.std.proofs.lemmas.List.Sorted.{Contains-permutation, IsPermutation-sym}
use Rattle.osm_elements.specs.Prelude.{dedup, AllByRecursion, IsFiltered, DiffersFromLast, is_lt, IsEquivalence, eq_by_cmp_equiv, below_all, Ordering, Less, name_cmp, both, name_cmp_total, same_names, is_eq-name_cmp_itself, is_same, is_among, name_set, bare_rows}
use Rattle.osm_elements.specs.declared.name.Name.{Name}
use Rattle.osm_refs.specs.Facts.RisingNames.{same_as_name_set}
use Rattle.osm_refs.specs.Rising.{IsRising}

-- the test for a name in a list is exact
among_contains : (xs : List Name) (q : Name) → is_among xs q ≡ true → Contains xs q
among_contains [] q e = absurd (cc)
among_contains (x ∷ xs) q e = by (is_same q x) refl e (among_contains xs q)
  where
    by : (b : Bool) → is_same q x ≡ b → (b || is_among xs q) ≡ true → (is_among xs q ≡ true → Contains xs q) → Contains (x ∷ xs) q
    by true f g i = (0, omega arith, sym (same_names q x f))
    by false f g i = let found = i g in (suc found.0, omega (arith, found.1), found.2)

contains_among : (xs : List Name) (q : Name) → Contains xs q → is_among xs q ≡ true
contains_among [] q (k, within, is) = absurd (omega arith)
contains_among (x ∷ xs) q (zero, within, is) = ap (λ z. is_same q z || is_among xs q) is ∙ ap (λ b. b || is_among xs q) (is_eq-name_cmp_itself q)
contains_among (x ∷ xs) q (suc k, within, is) = ap (λ b. is_same q x || b) (contains_among xs q (k, omega (arith, within), is)) ∙ or_true (is_same q x)
  where
    or_true : (b : Bool) → (b || true) ≡ true
    or_true true = refl
    or_true false = refl

pub Decides-among : (xs : List Name) (q : Name) → Decides (is_among xs q) (Contains xs q)
Decides-among xs q = (among_contains xs q, contains_among xs q)

below_from_strict : (x : Name) (xs : List Name) → AllByRecursion (λ y. name_cmp x y ≡ Less) xs → T (below_all name_cmp x (bare_rows xs))
below_from_strict x [] h = tt
below_from_strict x (y ∷ ys) h = both _ _ (subst (λ o. T (is_lt o)) (sym h.0) tt) (below_from_strict x ys h.1)

IsRising-from_strict : (xs : List Name) → IsStrictlySortedBy name_cmp xs → IsRising xs
unfolding IsStrictlySortedBy
IsRising-from_strict [] h = tt
IsRising-from_strict (x ∷ xs) h = both _ _ (below_from_strict x xs h.0) (IsRising-from_strict xs h.1)

module _ (E : Name → Name → Bool) (ties : (x y : Name) → E x y ≡ is_same x y) where
  laws : IsEquivalence E
  laws = subst IsEquivalence (λ i x y. sym (ties x y) i) (eq_by_cmp_equiv name_cmp_total)

  -- sorting and dropping repeats leaves the set
  pub sorted_is_name_set : (cmp : Name → Name → Ordering) → cmp ≡ name_cmp → (names xs ys : List Name) → IsPermutation names xs → IsSorted cmp xs → IsFiltered (DiffersFromLast E) [] xs ys → ys ≡ name_set names
  sorted_is_name_set cmp is names xs ys moved by_cmp filtered =
      let sorted = subst (λ (c : Name → Name → Ordering). IsSorted c xs) is by_cmp in
      dedup_is E xs ys filtered
      ∙ same_as_name_set (dedup E xs) names (IsRising-from_strict _ (IsStrictlySortedBy-dedup name_cmp_total ties xs sorted))
      (λ q. same_from_decides _ _ (Decides-among (dedup E xs) q) (
        λ e. Contains-dedup laws (λ x y f. same_names x y (sym (ties x y) ∙ f)) xs q (Contains-permutation _ _ q moved (among_contains names q e)),
        λ h. contains_among names q (Contains-permutation _ _ q (IsPermutation-sym _ _ moved) (Contains-from_dedup E xs q h)),
      ))
