-- Rows whose keys rise.
use Rattle.std.proofs.Common.{◌≡◌, ◌&&◌, Bool, true, false, cond, T, List, [], ◌∷◌, map, Some, None, sym, ap, subst, ◌∙◌, refl}
use Rattle.std.specs.List.{filter}
use Rattle.std.specs.Ordering.{is_lt, is_eq}
use Rattle.std.specs.Cmp.{IsTotalOrder, Equal-is, tied_itself}
use Rattle.std.specs.FinMap.Entries.{find, below_all, is_sorted}
use Rattle.std.specs.declared.cmp.Ordering.{Ordering}
use Rattle.std.specs.declared.cmp.Ordering.TheVariants.{Less, Equal, Greater}

-- two tests that both pass
pub both : (a b : Bool) → T a → T b → T (a && b)
both true b p q = q
both false b p q = p

pub first : (a b : Bool) → T (a && b) → T a
first true b p = tt
first false b p = p

pub second : (a b : Bool) → T (a && b) → T b
second true b p = p
second false b p = absurd p

pub less : (o : Ordering) → T (is_lt o) → o ≡ Less
less Less p = refl
less Equal p = absurd p
less Greater p = absurd p

pub equal : (o : Ordering) → is_eq o ≡ true → o ≡ Equal
equal o e = (Equal-is o).0 e

module _ {K X : Type 0} (order : K → K → Ordering) where
  -- a key below all rows has no row
  pub find_below : (k : K) (rows : List (K × X)) → T (below_all order k rows) → find order k rows ≡ None
  find_below k [] h = refl
  find_below k (r ∷ rs) h = ap (λ o. cond (is_eq o) (Some r.1) (find order k rs)) (less _ (first _ _ h)) ∙ find_below k rs (second _ _ h)

  -- a filter keeps the order of rows
  below_filter : (p : K × X → Bool) (k : K) (rows : List (K × X)) → T (below_all order k rows) → T (below_all order k (filter p rows))
  below_filter p k [] h = tt
  below_filter p k (r ∷ rs) h = by (p r) (below_filter p k rs (second _ _ h))
    where
      by : (b : Bool) → T (below_all order k (filter p rs)) → T (below_all order k (cond b (r ∷ filter p rs) (filter p rs)))
      by true i = both _ _ (first _ _ h) i
      by false i = i

  pub is_sorted-filter : (p : K × X → Bool) (rows : List (K × X)) → T (is_sorted order rows) → T (is_sorted order (filter p rows))
  is_sorted-filter p [] h = tt
  is_sorted-filter p (r ∷ rs) h = by (p r) (is_sorted-filter p rs (second _ _ h))
    where
      by : (b : Bool) → T (is_sorted order (filter p rs)) → T (is_sorted order (cond b (r ∷ filter p rs) (filter p rs)))
      by true i = both _ _ (below_filter p r.0 rs (first _ _ h)) i
      by false i = i

  below_map : {Y : Type 0} (f : X → Y) (k : K) (rows : List (K × X)) → T (below_all order k rows) → T (below_all order k (map (λ r. (r.0, f r.1)) rows))
  below_map f k [] h = tt
  below_map f k (r ∷ rs) h = both _ _ (first _ _ h) (below_map f k rs (second _ _ h))

  -- rows with other values keep their order
  pub is_sorted-map : {Y : Type 0} (f : X → Y) (rows : List (K × X)) → T (is_sorted order rows) → T (is_sorted order (map (λ r. (r.0, f r.1)) rows))
  is_sorted-map f [] h = tt
  is_sorted-map f (r ∷ rs) h = both _ _ (below_map f r.0 rs (first _ _ h)) (is_sorted-map f rs (second _ _ h))

  module _ (total : IsTotalOrder order) where
    pub find_first : (r : K × X) (rs : List (K × X)) → find order r.0 (r ∷ rs) ≡ Some r.1
    find_first r rs = ap (λ o. cond (is_eq o) (Some r.1) (find order r.0 rs)) (tied_itself total r.0)

    -- a key that is less than or equal to another key is below all rows that are above that key
    pub below_less : (x y : K) (rows : List (K × X)) → order x y ≡ Less → T (below_all order y rows) → T (below_all order x rows)
    below_less x y [] p h = tt
    below_less x y (r ∷ rs) p h = both _ _ (subst (λ o. T (is_lt o)) (sym (total.trans x y r.0 p (less _ (first _ _ h)))) tt) (below_less x y rs p (second _ _ h))

    pub below_equal : (x y : K) (rows : List (K × X)) → order x y ≡ Equal → T (below_all order y rows) → T (below_all order x rows)
    below_equal x y [] p h = tt
    below_equal x y (r ∷ rs) p h = both _ _ (subst (λ o. T (is_lt o)) (sym (total.congr x y r.0 p)) (first _ _ h)) (below_equal x y rs p (second _ _ h))

    -- the key of the first row has no later row
    pub not_behind : (k : K) (r : K × X) (rs : List (K × X)) → T (is_sorted order (r ∷ rs)) → is_eq (order k r.0) ≡ true → find order k rs ≡ None
    not_behind k r rs h e = find_below k rs (below_equal k r.0 rs (equal _ e) (first _ _ h))
