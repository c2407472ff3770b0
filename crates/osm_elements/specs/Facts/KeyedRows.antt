-- The conditions of rows under keys, which a put and a removal keep.
use Rattle.std.proofs.Common.{sym, ap, subst, ◌∙◌, arith}
use Rattle.std.specs.Prelude.{◌≡◌, ℕ, zero, suc, ◌+◌, ◌<◌, ◌≤◌, List, [], ◌∷◌, length, map, get_or, refl, true, false, Bool, not, ◌&&◌, T, is_some, cond, nat_eq, nat_lt, nat_le, filter}
use Rattle.std.specs.Bool.{passes}
use Rattle.std.specs.declared.cmp.Ordering.TheVariants.{Less, Equal, Greater}
use Rattle.std.specs.List.{list_all}
use Rattle.std.specs.Ordering.{is_eq}
use Rattle.std.specs.Cmp.{IsTotalOrder, nat_cmp_total}
use Rattle.std.specs.Cmp.Lexicographic.{lists_total}
use Rattle.std.specs.FinMap.Entries.{put, by_order, is_sorted, is_sorted-put, length-put, is_sorted-where_key}
use Rattle.std.proofs.lemmas.Bool.Decides.{nat_tests}
use Rattle.osm_elements.specs.KeyedRows.{keyed_pair, text_cmp, is_row, AreRows, value_at, without_key}
use Rattle.osm_elements.specs.declared.keyed.Keyed.{Keyed}
use Rattle.osm_elements.specs.Texts.{is_long}
use Rattle.osm_elements.specs.Facts.Entries.{both, first, second}
use Rattle.osm_elements.specs.Facts.Tests.{is_true}

pub text_total : IsTotalOrder text_cmp
text_total = lists_total nat_cmp_total

-- the three conditions of rows under keys
module _ {V : Type 0} (keeps : V → Bool) where
  pub sorted_rows : (rows : List (List ℕ × V)) → AreRows keeps rows → T (is_sorted text_cmp rows)
  sorted_rows rows h = first (is_sorted text_cmp rows) (nat_le (length rows) 1000 && list_all (is_row keeps) rows) h

  pub few_rows : (rows : List (List ℕ × V)) → AreRows keeps rows → T (nat_le (length rows) 1000)
  few_rows rows h = first (nat_le (length rows) 1000) (list_all (is_row keeps) rows) (second (is_sorted text_cmp rows) (nat_le (length rows) 1000 && list_all (is_row keeps) rows) h)

  pub each_row : (rows : List (List ℕ × V)) → AreRows keeps rows → T (list_all (is_row keeps) rows)
  each_row rows h = second (nat_le (length rows) 1000) (list_all (is_row keeps) rows) (second (is_sorted text_cmp rows) (nat_le (length rows) 1000 && list_all (is_row keeps) rows) h)

put_fits : (b : Bool) (n : ℕ) → n ≤ 1000 → (b ≡ false → n < 1000) → cond b n (n + 1) ≤ 1000
put_fits true n h room = h
put_fits false n h room = omega (arith, room refl)

not_both : {X : Type 0} (b : Bool) → b ≡ true → b ≡ false → X
not_both true t f = absurd (subst T f tt)
not_both false t f = absurd (subst T (sym t) tt)

module _ {V : Type 0} (keeps : V → Bool) where
  pub at_most_1000 : (rows : List (List ℕ × V)) → AreRows keeps rows → length rows ≤ 1000
  at_most_1000 rows h = let t = is_true (nat_le (length rows) 1000) (few_rows keeps rows h) in grind (arith, nat_tests)

  pub not_over_1000 : (rows : List (List ℕ × V)) → AreRows keeps rows → nat_lt 1000 (length rows) ≡ false
  not_over_1000 rows h = let few = at_most_1000 rows h in grind (arith, nat_tests)

  pub rows_from : (rows : List (List ℕ × V)) → T (is_sorted text_cmp rows) → length rows ≤ 1000 → T (list_all (is_row keeps) rows) → AreRows keeps rows
  rows_from rows sorted few each =
      let t : nat_le (length rows) 1000 ≡ true = grind (arith, nat_tests) in
      both (is_sorted text_cmp rows) (nat_le (length rows) 1000 && list_all (is_row keeps) rows) sorted (both (nat_le (length rows) 1000) (list_all (is_row keeps) rows) (passes _ t) each)

  -- a row may have another value
  other_value : (key : List ℕ) (value old : V) → T (is_row keeps (key, old)) → T (keeps value) → T (is_row keeps (key, value))
  other_value key value old h kept =
      let some = not (nat_eq (length key) 0) in
      let key_short = not (is_long key) in
      both some (key_short && keeps value) (first some (key_short && keeps old) h)
      (both key_short (keeps value) (first key_short (keeps old) (second some (key_short && keeps old) h)) kept)

  -- rows keep their limits after a put and after a removal
  pub each_row-put : (key : List ℕ) (value : V) → T (is_row keeps (key, value)) → (rows : List (List ℕ × V)) → T (list_all (is_row keeps) rows) → T (list_all (is_row keeps) (put text_cmp key value rows))
  each_row-put key value h [] all = both (is_row keeps (key, value)) true h tt
  each_row-put key value h (e ∷ rows) all =
      let here = first (is_row keeps e) (list_all (is_row keeps) rows) all in
      let rest = second (is_row keeps e) (list_all (is_row keeps) rows) all in
      let kept = second (not (is_long key)) (keeps value) (second (not (nat_eq (length key) 0)) (not (is_long key) && keeps value) h) in
      elim (text_cmp key e.0) as (λ o. T (list_all (is_row keeps) (by_order o ((key, value) ∷ e ∷ rows) ((e.0, value) ∷ rows) (e ∷ put text_cmp key value rows)))) [
        | Less ↦ both (is_row keeps (key, value)) (list_all (is_row keeps) (e ∷ rows)) h all
        | Equal ↦ both (is_row keeps (e.0, value)) (list_all (is_row keeps) rows) (other_value e.0 value e.1 here kept) rest
        | Greater ↦ both (is_row keeps e) (list_all (is_row keeps) (put text_cmp key value rows)) here (each_row-put key value h rows rest)
      ]

  pub each_row-filter : (p : List ℕ × V → Bool) (rows : List (List ℕ × V)) → T (list_all (is_row keeps) rows) → T (list_all (is_row keeps) (filter p rows))
  each_row-filter p [] all = tt
  each_row-filter p (e ∷ rows) all =
      let rest = each_row-filter p rows (second (is_row keeps e) (list_all (is_row keeps) rows) all) in
      elim (p e) as (λ b. T (list_all (is_row keeps) (cond b (e ∷ filter p rows) (filter p rows)))) [
        | true ↦ both (is_row keeps e) (list_all (is_row keeps) (filter p rows)) (first (is_row keeps e) (list_all (is_row keeps) rows) all) rest
        | false ↦ rest
      ]

  length-filter-le : (p : List ℕ × V → Bool) (rows : List (List ℕ × V)) → length (filter p rows) ≤ length rows
  length-filter-le p [] = omega arith
  length-filter-le p (e ∷ rows) =
      let rest = length-filter-le p rows in
      elim (p e) as (λ b. length (cond b (e ∷ filter p rows) (filter p rows)) ≤ length (e ∷ rows)) [ true ↦ omega arith | false ↦ omega arith ]

  pub AreRows-without_key : (rows : List (List ℕ × V)) (key : List ℕ) → AreRows keeps rows → AreRows keeps (without_key rows key)
  AreRows-without_key rows key h =
      let p = λ (e : List ℕ × V). not (is_eq (text_cmp key e.0)) in
      rows_from (without_key rows key) (is_sorted-where_key text_cmp (λ k. not (is_eq (text_cmp key k))) rows (sorted_rows keeps rows h))
      (omega (arith, length-filter-le p rows, at_most_1000 rows h))
      (each_row-filter p rows (each_row keeps rows h))

  -- a put keeps the conditions if its key is there, or if there is room for a new row
  AreRows-put : (rows : List (List ℕ × V)) (key : List ℕ) (value : V) → AreRows keeps rows → T (is_row keeps (key, value)) → (is_some (value_at rows key) ≡ false → length rows < 1000) → AreRows keeps (put text_cmp key value rows)
  AreRows-put rows key value h row room =
      rows_from (put text_cmp key value rows) (is_sorted-put text_cmp text_total key value rows (sorted_rows keeps rows h))
      (rw (length-put text_cmp text_total key value rows (sorted_rows keeps rows h)) (put_fits (is_some (value_at rows key)) (length rows) (at_most_1000 rows h) room))
      (each_row-put key value row rows (each_row keeps rows h))

  pub AreRows-put_over : (rows : List (List ℕ × V)) (key : List ℕ) (value : V) → AreRows keeps rows → T (is_row keeps (key, value)) → is_some (value_at rows key) ≡ true → AreRows keeps (put text_cmp key value rows)
  AreRows-put_over rows key value h row there = AreRows-put rows key value h row (not_both (is_some (value_at rows key)) there)

  pub AreRows-put_new : (rows : List (List ℕ × V)) (key : List ℕ) (value : V) → AreRows keeps rows → T (is_row keeps (key, value)) → length rows < 1000 → AreRows keeps (put text_cmp key value rows)
  AreRows-put_new rows key value h row small = AreRows-put rows key value h row (λ _. small)

  -- a key with 1 to 255 characters, and a value that keeps its type's invariant, make a row
  pub is_row-made : (key : List ℕ) (value : V) → nat_eq (length key) 0 ≡ false → is_long key ≡ false → keeps value ≡ true → T (is_row keeps (key, value))
  is_row-made key value some short kept = rw (some, short, kept) tt

-- a put does not shorten the list
pub longer-put : {V : Type 0} (key : List ℕ) (value : V) (rows : List (List ℕ × V)) → T (is_sorted text_cmp rows) → length rows ≤ length (put text_cmp key value rows)
longer-put key value rows h = subst (λ n. length rows ≤ n) (sym (length-put text_cmp text_total key value rows h)) (by (is_some (value_at rows key)))
  where
    by : (b : Bool) → length rows ≤ cond b (length rows) (length rows + 1)
    by true = omega arith
    by false = omega arith

-- no key is empty
some_key : {V : Type 0} (keeps : V → Bool) (key : List ℕ) (value : V) → T (is_row keeps (key, value)) → nat_eq (length key) 0 ≡ false
some_key keeps key value h = by (nat_eq (length key) 0) (first (not (nat_eq (length key) 0)) (not (is_long key) && keeps value) h)
  where
    by : (b : Bool) → T (not b) → b ≡ false
    by true t = absurd t
    by false t = refl

module _ {V A : Type 0} (keeps : V → Bool) where
  key_at : (rows : List (Keyed V A)) → T (list_all (is_row keeps) (map keyed_pair rows)) → (i : ℕ) (x : Keyed V A) → i < length rows → x ≡ get_or rows i x → nat_eq (length x.key) 0 ≡ false
  key_at [] h i x l is = absurd (omega (arith, l))
  key_at (r ∷ rows) h zero x l is = ap (λ (z : Keyed V A). nat_eq (length z.key) 0) is ∙ some_key keeps r.key r.value (first (is_row keeps (keyed_pair r)) (list_all (is_row keeps) (map keyed_pair rows)) h)
  key_at (r ∷ rows) h (suc i) x l is = key_at rows (second (is_row keeps (keyed_pair r)) (list_all (is_row keeps) (map keyed_pair rows)) h) i x (omega (arith, l)) is

  pub each_key : (rows : List (Keyed V A)) → AreRows keeps (map keyed_pair rows) → (i : ℕ) (x : Keyed V A) → i < length rows → x ≡ get_or rows i x → nat_eq (length x.key) 0 ≡ false
  each_key rows h = key_at rows (each_row keeps (map keyed_pair rows) h)
