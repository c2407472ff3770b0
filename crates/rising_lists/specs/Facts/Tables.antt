-- Tables whose keys rise and have values. The values of all keys determine such a table.
use Rattle.std.proofs.Common.{◌≡◌, Bool, true, false, not, cond, T, List, [], ◌∷◌, map, Option, Some, None, unwrap_or, refl, sym, ap, ◌∙◌}
use Rattle.std.specs.List.{filter, list_all}
use Rattle.std.specs.Ordering.{is_eq}
use Rattle.std.specs.Cmp.{IsTotalOrder}
use Rattle.std.specs.FinMap.{IsAntisymmetric}
use Rattle.std.specs.FinMap.Entries.{put, find, is_sorted, by_order, find-put, is_sorted-put, same_entries}
use Rattle.std.specs.declared.cmp.Ordering.{Ordering}
use Rattle.std.specs.declared.cmp.Ordering.TheVariants.{Less, Equal, Greater}
use Rattle.rising_lists.specs.Facts.Rising.{same_rising}
use Rattle.rising_lists.specs.Lists.{AreLists, SameLists, Table, has_none, has_none_at, listed}
use Rattle.rising_lists.specs.Facts.Sorted.{both, first, second, find_first, is_sorted-filter, is_sorted-map, not_behind}

-- a list if it is not empty, otherwise none
abbrev if_any : {V : Type 0} → List V → Option (List V)
if_any [] = None
if_any (x ∷ xs) = Some (x ∷ xs)

if_any_is : {V : Type 0} (values : List V) → T (not (has_none values)) → if_any values ≡ Some values
if_any_is [] h = absurd h
if_any_is (x ∷ xs) h = refl

module _ {K V : Type 0} (order : K → K → Ordering) where
  abbrev has_values : Table K V → Bool
  has_values t = list_all (λ r. not (has_none r.1)) t

  -- the keys rise, and each key has a value
  abbrev pub IsTable : Table K V → Type 0
  IsTable t = T (is_sorted order t) × T (has_values t)

  find_is_if_any : (t : Table K V) (k : K) → T (has_values t) → find order k t ≡ if_any (listed order t k)
  find_is_if_any [] k h = refl
  find_is_if_any (r ∷ t) k h = by (is_eq (order k r.0)) (find_is_if_any t k (second _ _ h))
    where
      by : (b : Bool) → find order k t ≡ if_any (listed order t k) → cond b (Some r.1) (find order k t) ≡ if_any (unwrap_or (cond b (Some r.1) (find order k t)) [])
      by true i = sym (if_any_is r.1 (first _ _ h))
      by false i = i

  has_values-put : (k : K) (values : List V) (t : Table K V) → T (not (has_none values)) → T (has_values t) → T (has_values (put order k values t))
  has_values-put k values [] n h = both _ _ n tt
  has_values-put k values (r ∷ t) n h = by (order k r.0) (has_values-put k values t n (second _ _ h))
    where
      by : (o : Ordering) → T (has_values (put order k values t)) → T (has_values (by_order o ((k, values) ∷ r ∷ t) ((r.0, values) ∷ t) (r ∷ put order k values t)))
      by Less i = both _ _ n h
      by Equal i = both _ _ n (second _ _ h)
      by Greater i = both _ _ (first _ _ h) i

  -- the rows that still have a value after each list is changed
  module _ (f : List V → List V) (keeps_none : f [] ≡ []) where
    abbrev kept : Table K V → Table K V
    kept t = filter (λ r. not (has_none r.1)) (map (λ r. (r.0, f r.1)) t)

    has_values-kept : (t : Table K V) → T (has_values (kept t))
    has_values-kept [] = tt
    has_values-kept (r ∷ t) = by (f r.1) (has_values-kept t)
      where
        by : (values : List V) → T (has_values (kept t)) → T (has_values (cond (not (has_none values)) ((r.0, values) ∷ kept t) (kept t)))
        by [] i = i
        by (x ∷ xs) i = i

  module _ (total : IsTotalOrder order) where
    -- tables in which each key has the same values are equal
    pub same_tables : IsAntisymmetric order → (t u : Table K V) → IsTable t → IsTable u → ((k : K) → listed order t k ≡ listed order u k) → t ≡ u
    same_tables same t u g h is =
        same_entries order total same t u g.0 h.0 (λ k. find_is_if_any t k g.1 ∙ ap if_any (is k) ∙ sym (find_is_if_any u k h.1))

    pub listed-put : (k : K) (values : List V) (t : Table K V) (q : K) → listed order (put order k values t) q ≡ cond (is_eq (order q k)) values (listed order t q)
    listed-put k values t q = ap (λ o. unwrap_or o []) (find-put order total q k values t) ∙ by (is_eq (order q k))
      where
        by : (b : Bool) → unwrap_or (cond b (Some values) (find order q t)) [] ≡ cond b values (listed order t q)
        by true = refl
        by false = refl

    pub IsTable-put : (k : K) (values : List V) (t : Table K V) → T (not (has_none values)) → IsTable t → IsTable (put order k values t)
    IsTable-put k values t some h = (is_sorted-put order total k values t h.0, has_values-put k values t some h.1)

    module _ (f : List V → List V) (keeps_none : f [] ≡ []) where
      pub listed-kept : (t : Table K V) (k : K) → T (is_sorted order t) → listed order (kept f keeps_none t) k ≡ f (listed order t k)
      listed-kept [] k h = sym keeps_none
      listed-kept (r ∷ t) k h = by (f r.1) refl (is_eq (order k r.0)) refl (listed-kept t k (second _ _ h))
        where
          left : Table K V
          left = kept f keeps_none t

          by : (values : List V) → f r.1 ≡ values → (b : Bool) → is_eq (order k r.0) ≡ b → listed order left k ≡ f (listed order t k)
              → listed order (cond (not (has_none values)) ((r.0, values) ∷ left) left) k ≡ f (unwrap_or (cond b (Some r.1) (find order k t)) [])
          by [] e true g i = i ∙ ap (λ o. f (unwrap_or o [])) (not_behind order total k r t h g) ∙ keeps_none ∙ sym e
          by [] e false g i = i
          by (x ∷ xs) e true g i = ap (λ b. unwrap_or (cond b (Some (x ∷ xs)) (find order k left)) []) g ∙ sym e
          by (x ∷ xs) e false g i = ap (λ b. unwrap_or (cond b (Some (x ∷ xs)) (find order k left)) []) g ∙ i

      pub IsTable-kept : (t : Table K V) → T (is_sorted order t) → IsTable (kept f keeps_none t)
      IsTable-kept t h = (is_sorted-filter order (λ r. not (has_none r.1)) (map (λ r. (r.0, f r.1)) t) (is_sorted-map order f t h), has_values-kept f keeps_none t)

    -- the lists of a multimap are such a table
    all_have : (lists : Table K V) → T (is_sorted order lists) → ((k : K) → has_none_at (find order k lists) ≡ false) → T (has_values lists)
    all_have [] h some = tt
    all_have (r ∷ lists) h some =
        both _ _ (filled r.1 (sym (ap has_none_at (find_first order total r lists)) ∙ some r.0)) (all_have lists (second _ _ h) (λ k. behind k (is_eq (order k r.0)) refl (some k)))
      where
        filled : (values : List V) → has_none values ≡ false → T (not (has_none values))
        filled [] e = absurd (cc)
        filled (x ∷ xs) e = tt

        behind : (k : K) (b : Bool) → is_eq (order k r.0) ≡ b → has_none_at (cond b (Some r.1) (find order k lists)) ≡ false → has_none_at (find order k lists) ≡ false
        behind k true e p = ap has_none_at (not_behind order total k r lists h e)
        behind k false e p = p

    pub IsTable-lists : {by_value : V → V → Ordering} (lists : Table K V) → AreLists order by_value lists → IsTable lists
    IsTable-lists lists kept = (kept.in_order, all_have lists kept.in_order kept.none_empty)

    -- multimaps in which each key has the same values are equal
    pub same_lists : IsAntisymmetric order → {by_value : V → V → Ordering} → IsTotalOrder by_value → IsAntisymmetric by_value → (one other : Table K V) → AreLists order by_value one → AreLists order by_value other
        → SameLists order by_value one other → other ≡ one
    same_lists same {by_value} values_total values_same one other kept kept' is =
        same_tables same other one (IsTable-lists other kept') (IsTable-lists one kept)
        (λ k. same_rising by_value values_total values_same (listed order other k) (listed order one k) (kept'.rising k) (kept.rising k) (is k))
