-- Rising lists: their values after an addition or a removal, and that they still rise.
use Rattle.std.proofs.Common.{◌≡◌, ◌||◌, ◌&&◌, Bool, true, false, not, cond, T, List, [], ◌∷◌, map, Some, None, is_some, refl, sym, ap, subst, ◌∙◌}
use Rattle.std.specs.List.{filter}
use Rattle.std.specs.Cmp.{IsTotalOrder, alike_right, eq_by_cmp_equiv}
use Rattle.std.specs.Ordering.{is_eq, match_ordering}
use Rattle.std.specs.FinMap.{IsAntisymmetric}
use Rattle.std.specs.FinMap.Entries.{put, find, is_sorted, where_key, by_order, find-put, find-where_key, is_sorted-put, is_sorted-where_key, same_entries}
use Rattle.std.specs.declared.cmp.Ordering.{Ordering}
use Rattle.std.specs.declared.cmp.Ordering.TheVariants.{Less, Equal, Greater}
use Rattle.rising_lists.specs.Rising.{IsRising, bare_rows, is_among, with_value, but}

is_some-cond : (b : Bool) → is_some (cond b (Some (tt {0})) None) ≡ b
is_some-cond true = refl
is_some-cond false = refl

module _ {X : Type 0} (cmp : X → X → Ordering) where
  values_back : (xs : List X) → map (λ r. r.0) (bare_rows xs) ≡ xs
  values_back [] = refl
  values_back (x ∷ xs) = ap (λ ys. x ∷ ys) (values_back xs)

  find-bare_rows : (xs : List X) (q : X) → find cmp q (bare_rows xs) ≡ cond (is_among cmp xs q) (Some tt) None
  find-bare_rows [] q = refl
  find-bare_rows (x ∷ xs) q = by (is_eq (cmp q x)) (find-bare_rows xs q)
    where
      by : (b : Bool) → find cmp q (bare_rows xs) ≡ cond (is_among cmp xs q) (Some tt) None → cond b (Some tt) (find cmp q (bare_rows xs)) ≡ cond (b || is_among cmp xs q) (Some tt) None
      by true i = refl
      by false i = i

  among_is : (xs : List X) (q : X) → is_among cmp xs q ≡ is_some (find cmp q (bare_rows xs))
  among_is xs q = sym (ap is_some (find-bare_rows xs q) ∙ is_some-cond (is_among cmp xs q))

  bare_rows-with_value : (x : X) (xs : List X) → bare_rows (with_value cmp x xs) ≡ put cmp x tt (bare_rows xs)
  bare_rows-with_value x [] = refl
  bare_rows-with_value x (y ∷ ys) = by (cmp x y) (bare_rows-with_value x ys)
    where
      by : (o : Ordering) → bare_rows (with_value cmp x ys) ≡ put cmp x tt (bare_rows ys)
          → bare_rows (match_ordering o (x ∷ y ∷ ys) (y ∷ ys) (y ∷ with_value cmp x ys)) ≡ by_order o ((x, tt) ∷ (y, tt) ∷ bare_rows ys) ((y, tt) ∷ bare_rows ys) ((y, tt) ∷ put cmp x tt (bare_rows ys))
      by Less i = refl
      by Equal i = refl
      by Greater i = ap (λ rows. (y, tt) ∷ rows) i

  bare_rows-filter : (p : X → Bool) (xs : List X) → bare_rows (filter p xs) ≡ where_key cmp p (bare_rows xs)
  bare_rows-filter p [] = refl
  bare_rows-filter p (x ∷ xs) = by (p x) (bare_rows-filter p xs)
    where
      by : (b : Bool) → bare_rows (filter p xs) ≡ where_key cmp p (bare_rows xs)
          → bare_rows (cond b (x ∷ filter p xs) (filter p xs)) ≡ cond b ((x, tt) ∷ where_key cmp p (bare_rows xs)) (where_key cmp p (bare_rows xs))
      by true i = ap (λ rows. (x, tt) ∷ rows) i
      by false i = i

  pub IsRising-filter : (p : X → Bool) (xs : List X) → IsRising cmp xs → IsRising cmp (filter p xs)
  IsRising-filter p xs h = subst (λ rows. T (is_sorted cmp rows)) (sym (bare_rows-filter p xs)) (is_sorted-where_key cmp p (bare_rows xs) h)

  pub IsRising-but : (x : X) (xs : List X) → IsRising cmp xs → IsRising cmp (but cmp x xs)
  IsRising-but x = IsRising-filter (λ y. not (is_eq (cmp x y)))

  -- the values that a filter keeps, if equal values pass alike
  pub is_among-passing : (p : X → Bool) (xs : List X) (q : X) → ((y : X) → cmp q y ≡ Equal → p y ≡ p q) → is_among cmp (filter p xs) q ≡ (p q && is_among cmp xs q)
  is_among-passing p xs q alike =
      among_is (filter p xs) q ∙ ap (λ rows. is_some (find cmp q rows)) (bare_rows-filter p xs) ∙ ap is_some (find-where_key cmp p q alike (bare_rows xs)) ∙ by (p q)
    where
      by : (b : Bool) → is_some (cond b (find cmp q (bare_rows xs)) None) ≡ (b && is_among cmp xs q)
      by true = sym (among_is xs q)
      by false = refl

  module _ (total : IsTotalOrder cmp) where
    pub IsRising-with_value : (x : X) (xs : List X) → IsRising cmp xs → IsRising cmp (with_value cmp x xs)
    IsRising-with_value x xs h = subst (λ rows. T (is_sorted cmp rows)) (sym (bare_rows-with_value x xs)) (is_sorted-put cmp total x tt (bare_rows xs) h)

    pub is_among-with_value : (x : X) (xs : List X) (q : X) → is_among cmp (with_value cmp x xs) q ≡ (is_eq (cmp q x) || is_among cmp xs q)
    is_among-with_value x xs q =
        among_is (with_value cmp x xs) q ∙ ap (λ rows. is_some (find cmp q rows)) (bare_rows-with_value x xs) ∙ ap is_some (find-put cmp total q x tt (bare_rows xs)) ∙ by (is_eq (cmp q x))
      where
        by : (b : Bool) → is_some (cond b (Some tt) (find cmp q (bare_rows xs))) ≡ (b || is_among cmp xs q)
        by true = refl
        by false = sym (among_is xs q)

    -- the values of a list without x
    pub is_among-but : (x : X) (xs : List X) (q : X) → is_among cmp (but cmp x xs) q ≡ (not (is_eq (cmp q x)) && is_among cmp xs q)
    is_among-but x xs q =
        is_among-passing (λ y. not (is_eq (cmp x y))) xs q (λ y e. ap (λ o. not (is_eq o)) (sym (alike_right total q y x e)))
        ∙ ap (λ b. not b && is_among cmp xs q) ((eq_by_cmp_equiv total).symm x q)

    -- rising lists with the same values are equal, if only identical values compare as equal
    pub same_rising : IsAntisymmetric cmp → (xs ys : List X) → IsRising cmp xs → IsRising cmp ys → ((q : X) → is_among cmp xs q ≡ is_among cmp ys q) → xs ≡ ys
    same_rising same xs ys g h is =
        let e = same_entries cmp total same (bare_rows xs) (bare_rows ys) g h (λ q. find-bare_rows xs q ∙ ap (λ b. cond b (Some tt) None) (is q) ∙ sym (find-bare_rows ys q)) in
        sym (values_back xs) ∙ ap (λ rows. map (λ r. r.0) rows) e ∙ values_back ys
