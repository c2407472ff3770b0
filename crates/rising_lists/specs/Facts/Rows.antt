-- Lists after the row of one key is replaced or removed.
use Rattle.std.proofs.Common.{Result, Ok, Err, OnOk, OnErr, ◌≡◌, ◌&&◌, ◌||◌, Bool, true, false, not, cond, T, List, [], ◌∷◌, Option, Some, None, is_some, unwrap_or, refl, sym, ap, subst, ◌∙◌}
use Rattle.std.specs.List.{filter}
use Rattle.std.specs.Map.{lookup, set_value, remove_entry}
use Rattle.std.specs.BTreeMap.{insert_entry, is_at}
use Rattle.std.specs.Ordering.{is_eq, match_ordering}
use Rattle.std.specs.Cmp.{IsTotalOrder, alike_right, eq_by_cmp_equiv}
use Rattle.std.specs.FinMap.Entries.{find, put, by_order, below_all, is_sorted, find-put, find-where_key, find_tied, is_sorted-put, is_sorted-where_key}
use Rattle.std.specs.declared.cmp.Ordering.{Ordering}
use Rattle.std.specs.declared.cmp.Ordering.TheVariants.{Less, Equal, Greater}
use Rattle.rising_lists.specs.Rising.{IsRising, is_among, with_value, but}
use Rattle.rising_lists.specs.Lists.{AreLists, Gains, Loses, SameLists, Table, has, has_none, has_none_at, listed}
use Rattle.rising_lists.specs.Facts.Rising.{IsRising-with_value, is_among-with_value, is_among-but}
use Rattle.rising_lists.specs.Facts.Sorted.{first, second, less, equal, find_below, below_less, below_equal}

some_none : {X : Type 0} (v : X) → Some v ≡ None → ⊥
some_none v e = subst T (ap is_some e) tt

same_choice : {X : Type 0} (o : Ordering) (a b c d : X) → c ≡ d → match_ordering o a b c ≡ by_order o a b d
same_choice Less a b c d e = refl
same_choice Equal a b c d e = refl
same_choice Greater a b c d e = e

-- the look-up of `BTreeMap` is that of `FinMap`
module _ {K X : Type 0} (order : K → K → Ordering) where
  lookup_is_find : (k : K) (rows : List (K × X)) → lookup (is_at (order k)) rows ≡ find order k rows
  lookup_is_find k [] = refl
  lookup_is_find k (r ∷ rs) = ap (cond (is_at (order k) r.0) (Some r.1)) (lookup_is_find k rs)

  found_row : (rows : List (K × X)) (k : K) (o : Option X) → o ≡ lookup (is_at (order k)) rows → find order k rows ≡ o
  found_row rows k o h = sym (h ∙ lookup_is_find k rows)

  insert_is_put : (k : K) (v : X) (rows : List (K × X)) → insert_entry order rows k v ≡ put order k v rows
  insert_is_put k v [] = refl
  insert_is_put k v (r ∷ rs) = same_choice (order k r.0) ((k, v) ∷ r ∷ rs) ((r.0, v) ∷ rs) _ _ (ap (λ l. r ∷ l) (insert_is_put k v rs))

  -- the rows whose keys are not equal to k
  abbrev without : K → List (K × X) → List (K × X)
  without k rows = filter (λ r. not (is_eq (order k r.0))) rows

  without_below : (k : K) (rows : List (K × X)) → T (below_all order k rows) → without k rows ≡ rows
  without_below k [] h = refl
  without_below k (r ∷ rs) h = ap (λ o. cond (not (is_eq o)) (r ∷ without k rs) (without k rs)) (less _ (first _ _ h)) ∙ ap (λ l. r ∷ l) (without_below k rs (second _ _ h))

  module _ (total : IsTotalOrder order) where
    remove_is_without : (k : K) (rows : List (K × X)) → T (is_sorted order rows) → remove_entry (is_at (order k)) rows ≡ without k rows
    remove_is_without k [] h = refl
    remove_is_without k (r ∷ rs) h = by (order k r.0) refl (remove_is_without k rs (second _ _ h))
      where
        by : (o : Ordering) → order k r.0 ≡ o → remove_entry (is_at (order k)) rs ≡ without k rs → cond (is_eq o) rs (r ∷ remove_entry (is_at (order k)) rs) ≡ cond (not (is_eq o)) (r ∷ without k rs) (without k rs)
        by Less p i = ap (λ l. r ∷ l) i
        by Equal p i = sym (without_below k rs (below_equal order total k r.0 rs p (first _ _ h)))
        by Greater p i = ap (λ l. r ∷ l) i

    -- replacing the value of a key that is there is a put
    set_is_put : (k : K) (w v : X) (rows : List (K × X)) → T (is_sorted order rows) → find order k rows ≡ Some v → set_value (is_at (order k)) rows w ≡ put order k w rows
    set_is_put k w v [] h found = absurd (some_none v (sym found))
    set_is_put k w v (r ∷ rs) h found = by (order k r.0) refl found (set_is_put k w v rs (second _ _ h))
      where
        by : (o : Ordering) → order k r.0 ≡ o → cond (is_eq o) (Some r.1) (find order k rs) ≡ Some v → (find order k rs ≡ Some v → set_value (is_at (order k)) rs w ≡ put order k w rs)
            → cond (is_eq o) ((r.0, w) ∷ rs) (r ∷ set_value (is_at (order k)) rs w) ≡ by_order o ((k, w) ∷ r ∷ rs) ((r.0, w) ∷ rs) (r ∷ put order k w rs)
        by Less p f i = absurd (some_none v (sym f ∙ find_below order k rs (below_less order total k r.0 rs p (first _ _ h))))
        by Equal p f i = refl
        by Greater p f i = ap (λ l. r ∷ l) (i f)

-- the values that a look-up in lists finds
module _ {K V : Type 0} {order : K → K → Ordering} {by_value : V → V → Ordering} {lists : Table K V} (kept : AreLists order by_value lists) (k : K) (o : Option (List V)) (was : o ≡ lookup (is_at (order k)) lists) where
  pub values_found : unwrap_or o [] ≡ listed order lists k
  values_found = sym (ap (λ r. unwrap_or r []) (found_row order lists k o was))

  pub rising_found : IsRising by_value (unwrap_or o [])
  rising_found = subst (IsRising by_value) (sym values_found) (kept.rising k)

  pub filled_found : has_none_at o ≡ false
  filled_found = sym (ap has_none_at (found_row order lists k o was)) ∙ kept.none_empty k

-- at one key the new row replaces the old row, and each other key has the same row as before
pub record Rewritten {K V : Type 0} (order : K → K → Ordering) (before after : Table K V) (k : K) (old new : Option (List V)) : Type 0 where
  pub was : find order k before ≡ old
  pub in_order : T (is_sorted order after)
  pub at : (q : K) → find order q after ≡ cond (is_eq (order q k)) new (find order q before)

module _ {K V : Type 0} {order : K → K → Ordering} (total : IsTotalOrder order) where
  by_put : (before after : Table K V) (k : K) (o : Option (List V)) (w : List V) → T (is_sorted order before) → find order k before ≡ o → after ≡ put order k w before → Rewritten order before after k o (Some w)
  by_put before after k o w h found same = record {
    was = found;
    in_order = subst (λ (l : Table K V). T (is_sorted order l)) (sym same) (is_sorted-put order total k w before h);
    at = λ q. ap (λ (l : Table K V). find order q l) same ∙ find-put order total q k w before;
  }

  module _ {by_value : V → V → Ordering} {before : Table K V} (kept : AreLists order by_value before) (k : K) where
    -- a list that was changed in place
    pub changed : {after : Table K V} {v : List V} (w : List V) → Some v ≡ lookup (is_at (order k)) before → after ≡ set_value (is_at (order k)) before w → Rewritten order before after k (Some v) (Some w)
    changed {after} {v} w was set =
        let found = found_row order before k (Some v) was in
        by_put before after k (Some v) w kept.in_order found (set ∙ set_is_put order total k w v before kept.in_order found)

    -- a list for a key, its first or in place of another
    pub entered : {after : Table K V} {o : Option (List V)} (w : List V) → o ≡ lookup (is_at (order k)) before → after ≡ insert_entry order before k w → Rewritten order before after k o (Some w)
    entered {after} {o} w was set = by_put before after k o w kept.in_order (found_row order before k o was) (set ∙ insert_is_put order k w before)

    -- a key without a list before and after
    pub untouched : None ≡ lookup (is_at (order k)) before → Rewritten order before before k None None
    untouched was = record { was = none; in_order = kept.in_order; at = λ q. by q (is_eq (order q k)) refl }
      where
        none : find order k before ≡ None
        none = found_row order before k None was

        by : (q : K) (b : Bool) → is_eq (order q k) ≡ b → find order q before ≡ cond b None (find order q before)
        by q true f = sym (find_tied order total q k (equal _ f) before) ∙ none
        by q false f = refl

  module _ {before middle : Table K V} {k : K} {o w : Option (List V)} (row : Rewritten order before middle k o w) where
    -- a list that was changed and then removed
    pub ended : {after : Table K V} → after ≡ remove_entry (is_at (order k)) middle → Rewritten order before after k o None
    ended {after} gone =
        let same = gone ∙ remove_is_without order total k middle row.in_order in
        record {
          was = row.was;
          in_order = subst (λ (l : Table K V). T (is_sorted order l)) (sym same) (is_sorted-where_key order (λ z. not (is_eq (order k z))) middle row.in_order);
          at = λ q. ap (λ (l : Table K V). find order q l) same
              ∙ find-where_key order (λ z. not (is_eq (order k z))) q (λ z e. ap (λ r. not (is_eq r)) (sym (alike_right total q z k e))) middle
              ∙ ap (λ r. cond (not (is_eq (order k q))) r None) (row.at q) ∙ ap (λ b. cond (not b) (cond (is_eq (order q k)) w (find order q before)) None) ((eq_by_cmp_equiv total).symm k q)
              ∙ by q (is_eq (order q k));
        }
      where
        by : (q : K) (b : Bool) → cond (not b) (cond b w (find order q before)) None ≡ cond b None (find order q before)
        by q true = refl
        by q false = refl

  module _ {before after : Table K V} {k : K} {o w : Option (List V)} (row : Rewritten order before after k o w) where
    -- the row before, at a key that is equal to k
    was_at : (q : K) → is_eq (order q k) ≡ true → find order q before ≡ o
    was_at q f = sym (find_tied order total q k (equal _ f) before) ∙ row.was

    listed-rewritten : (q : K) → listed order after q ≡ cond (is_eq (order q k)) (unwrap_or w []) (listed order before q)
    listed-rewritten q = ap (λ r. unwrap_or r []) (row.at q) ∙ by (is_eq (order q k))
      where
        by : (b : Bool) → unwrap_or (cond b w (find order q before)) [] ≡ cond b (unwrap_or w []) (listed order before q)
        by true = refl
        by false = refl

    pub keeps_lists : {by_value : V → V → Ordering} → AreLists order by_value before → IsRising by_value (unwrap_or w []) → has_none_at w ≡ false → AreLists order by_value after
    keeps_lists {by_value} h rises some = record {
      in_order = row.in_order;
      rising = λ q. subst (IsRising by_value) (sym (listed-rewritten q)) (rising q (is_eq (order q k)));
      none_empty = λ q. ap has_none_at (row.at q) ∙ filled q (is_eq (order q k));
    }
      where
        rising : (q : K) (b : Bool) → IsRising by_value (cond b (unwrap_or w []) (listed order before q))
        rising q true = rises
        rising q false = h.rising q

        filled : (q : K) (b : Bool) → has_none_at (cond b w (find order q before)) ≡ false
        filled q true = some
        filled q false = h.none_empty q

    module _ {by_value : V → V → Ordering} (values_total : IsTotalOrder by_value) where
      pub same_lists : unwrap_or w [] ≡ unwrap_or o [] → SameLists order by_value before after
      same_lists is q v = ap (λ values. is_among by_value values v) (listed-rewritten q) ∙ by (is_eq (order q k)) refl
        where
          by : (b : Bool) → is_eq (order q k) ≡ b → is_among by_value (cond b (unwrap_or w []) (listed order before q)) v ≡ has order by_value before q v
          by true f = ap (λ values. is_among by_value values v) is ∙ sym (ap (λ r. is_among by_value (unwrap_or r []) v) (was_at q f))
          by false f = refl

      module _ (x : V) where
        pub gains : unwrap_or w [] ≡ with_value by_value x (unwrap_or o []) → Gains order by_value before after (k ∷ []) x
        gains is q v = ap (λ values. is_among by_value values v) (listed-rewritten q) ∙ by (is_eq (order q k)) refl
          where
            by : (b : Bool) → is_eq (order q k) ≡ b
                → is_among by_value (cond b (unwrap_or w []) (listed order before q)) v ≡ (((b || false) && is_eq (by_value v x)) || has order by_value before q v)
            by true f =
                ap (λ values. is_among by_value values v) is ∙ is_among-with_value by_value values_total x (unwrap_or o []) v
                ∙ sym (ap (λ r. is_eq (by_value v x) || is_among by_value (unwrap_or r []) v) (was_at q f))
            by false f = refl

        pub loses : unwrap_or w [] ≡ but by_value x (unwrap_or o []) → Loses order by_value before after (k ∷ []) x
        loses is q v = ap (λ values. is_among by_value values v) (listed-rewritten q) ∙ by (is_eq (order q k)) refl
          where
            by : (b : Bool) → is_eq (order q k) ≡ b
                → is_among by_value (cond b (unwrap_or w []) (listed order before q)) v ≡ (not ((b || false) && is_eq (by_value v x)) && has order by_value before q v)
            by true f =
                ap (λ values. is_among by_value values v) is ∙ is_among-but by_value values_total x (unwrap_or o []) v
                ∙ sym (ap (λ r. not (is_eq (by_value v x)) && is_among by_value (unwrap_or r []) v) (was_at q f))
            by false f = refl

-- a list with a value is not empty
pub filled_with_value : {V : Type 0} (by_value : V → V → Ordering) (x : V) (values : List V) → has_none (with_value by_value x values) ≡ false
filled_with_value by_value x [] = refl
filled_with_value by_value x (y ∷ ys) = by (by_value x y)
  where
    by : (o : Ordering) → has_none (match_ordering o (x ∷ y ∷ ys) (y ∷ ys) (y ∷ with_value by_value x ys)) ≡ false
    by Less = refl
    by Equal = refl
    by Greater = refl

pub none_is : {V : Type 0} (values : List V) → has_none values ≡ true → values ≡ []
none_is [] e = refl
none_is (y ∷ ys) e = absurd (cc)

-- after adding a value, whether it succeeds or not, a list rises and is not empty
pub add_keeps : {X E V : Type 0} (r : Result X E) (by_value : V → V → Ordering) → IsTotalOrder by_value → (x : V) (v w : List V) → OnOk r (w ≡ with_value by_value x v) → OnErr r (w ≡ v)
    → IsRising by_value v → has_none v ≡ false → IsRising by_value w × (has_none w ≡ false)
add_keeps (Ok y) by_value total x v w ok err rises some = (subst (IsRising by_value) (sym ok) (IsRising-with_value by_value total x v rises), ap has_none ok ∙ filled_with_value by_value x v)
add_keeps (Err e) by_value total x v w ok err rises some = (subst (IsRising by_value) (sym err) rises, ap has_none err ∙ some)

pub OnOk-map : {X E P Q : Type 0} (r : Result X E) → (P → Q) → OnOk r P → OnOk r Q
OnOk-map (Ok x) f p = f p
OnOk-map (Err e) f p = tt

pub OnErr-map : {X E P Q : Type 0} (r : Result X E) → (P → Q) → OnErr r P → OnErr r Q
OnErr-map (Ok x) f p = tt
OnErr-map (Err e) f p = f p
