-- Lists of names that rise, each once. The names in such a list determine it.
use Rattle.std.proofs.Common.{sym, ap, subst, ◌∙◌}
use Rattle.std.specs.Prelude.{◌≡◌, ◌&&◌, ℕ, Bool, List, [], ◌∷◌, length, Result, is_ok, refl, filter, fold}
use Rattle.osm_elements.specs.Prelude.{IsBinarySearchResult, IsSearchInRange, match_ordering, Ordering, name_cmp, name_cmp_total, name_cmp-IsAntisymmetric, is_among-name_set, is_among, with_name, name_set, with_value}
use Rattle.osm_elements.specs.declared.name.Name.{Name}
use Rattle.osm_refs.specs.Rising.{IsRising}
use Rattle.rising_lists.specs.Facts.Rising as rising
use Rattle.rising_lists.specs.Facts.Searching as searching

-- rising lists with the same names are equal
pub same_rising : (xs ys : List Name) → IsRising xs → IsRising ys → ((q : Name) → is_among xs q ≡ is_among ys q) → xs ≡ ys
same_rising = rising.same_rising name_cmp name_cmp_total name_cmp-IsAntisymmetric

pub IsRising-filter : (p : Name → Bool) (xs : List Name) → IsRising xs → IsRising (filter p xs)
IsRising-filter = rising.IsRising-filter name_cmp

-- the names that a filter keeps
pub is_among-passing : (p : Name → Bool) (names : List Name) (q : Name) → is_among (filter p names) q ≡ (p q && is_among names q)
is_among-passing p names q = rising.is_among-passing name_cmp p names q (λ y e. ap p (sym (name_cmp-IsAntisymmetric q y e)))

-- a search finds a name if and only if the list contains it
pub search_tells : (cmp : Name → Name → Ordering) → cmp ≡ name_cmp → (x : Name) (xs : List Name) → IsRising xs → (r : Result ℕ ℕ) → IsSearchInRange r (length xs) → IsBinarySearchResult (λ y. cmp y x) xs r → is_ok r ≡ is_among xs x
search_tells cmp is x xs h r within found = searching.search_tells name_cmp name_cmp_total x xs h r within (subst (λ (c : Name → Name → Ordering). IsBinarySearchResult (λ y. c y x) xs r) is found)

with_name_is : (x : Name) (xs : List Name) → with_name x xs ≡ with_value name_cmp x xs
with_name_is x [] = refl
with_name_is x (y ∷ ys) = ap (λ names. match_ordering (name_cmp x y) (x ∷ y ∷ ys) (y ∷ ys) (y ∷ names)) (with_name_is x ys)

IsRising-fold : (set names : List Name) → IsRising set → IsRising (fold (λ s y. with_name y s) set names)
IsRising-fold set [] h = h
IsRising-fold set (y ∷ ys) h = IsRising-fold (with_name y set) ys (subst IsRising (sym (with_name_is y set)) (rising.IsRising-with_value name_cmp name_cmp_total y set h))

pub IsRising-name_set : (names : List Name) → IsRising (name_set names)
IsRising-name_set names = IsRising-fold [] names tt

-- a rising list with the names of a second list is the set of that list
pub same_as_name_set : (xs names : List Name) → IsRising xs → ((q : Name) → is_among xs q ≡ is_among names q) → xs ≡ name_set names
same_as_name_set xs names h is = same_rising xs (name_set names) h (IsRising-name_set names) (λ q. is q ∙ sym (is_among-name_set q names))
