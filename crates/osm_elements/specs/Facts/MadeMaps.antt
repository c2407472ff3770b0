-- A map made by putting rows in order.
use Rattle.std.proofs.Common.{sym, subst, ap, ◌∙◌, arith}
use Rattle.std.specs.Prelude.{◌≡◌, Bool, true, false, T, List, [], ◌∷◌, ◌++◌, Option, Some, None, length, map, refl, cond, fold}
use Rattle.std.specs.Cmp.{tied_itself}
use Rattle.std.specs.FinMap.Entries.{below_all, is_sorted}
use Rattle.std.specs.Ordering.{is_lt}
use Rattle.std.proofs.lemmas.List.{map-append}
use Rattle.std.proofs.lemmas.List.Sums.{fold-append}
use Rattle.osm_elements.specs.declared.element.Element.{Element}
use Rattle.osm_elements.specs.declared.map.Row.{Row}
use Rattle.osm_elements.specs.RowPairs.{row_pair}
use Rattle.osm_elements.specs.declared.name.Name.{Name}
use Rattle.osm_elements.specs.Maps.{Rows, is_same}
use Rattle.osm_elements.specs.NameOrder.{name_cmp}
use Rattle.osm_elements.specs.Rows.{AreInOrder, row_at, put_row}
use Rattle.osm_elements.specs.Facts.Entries.{first, second, find_below}
use Rattle.osm_elements.specs.Facts.Names.{name_cmp_total}
use Rattle.osm_elements.specs.Facts.Rows.{same_names, same_rows, row_at_is_find, row_at-put_row, AreInOrder-put_row}

module _ {A : Type 0} where
  abbrev pub put_all : Rows A → Rows A → Rows A
  put_all m rows = fold (λ n (r : Name × Element A). put_row n r.0 r.1) m rows

  pub AreInOrder-put_all : (rows m : Rows A) → AreInOrder m → AreInOrder (put_all m rows)
  AreInOrder-put_all [] m h = h
  AreInOrder-put_all (r ∷ rs) m h = AreInOrder-put_all rs (put_row m r.0 r.1) (AreInOrder-put_row m r.0 r.1 h)

  -- an element if there is one, otherwise a second element if there is one
  abbrev pub or_else : Option (Element A) → Option (Element A) → Option (Element A)
  or_else None p = p
  or_else (Some v) p = Some v

  pub row_at-put_all : (rows m : Rows A) (x : Name) → AreInOrder rows → row_at (put_all m rows) x ≡ or_else (row_at rows x) (row_at m x)
  row_at-put_all [] m x h = refl
  row_at-put_all (r ∷ rs) m x h =
      row_at-put_all rs (put_row m r.0 r.1) x (second (below_all name_cmp r.0 rs) (is_sorted name_cmp rs) h)
      ∙ ap (or_else (row_at rs x)) (row_at-put_row m r.0 r.1 x) ∙ by (is_same x r.0) refl
    where
      later : (o : Option (Element A)) → o ≡ None → or_else o (Some r.1) ≡ Some r.1
      later None e = refl
      later (Some v) e = absurd (cc)

      by : (b : Bool) → is_same x r.0 ≡ b → or_else (row_at rs x) (cond b (Some r.1) (row_at m x)) ≡ or_else (cond b (Some r.1) (row_at rs x)) (row_at m x)
      by true e = later (row_at rs x) (ap (row_at rs) (same_names x r.0 e) ∙ row_at_is_find rs r.0 ∙ find_below name_cmp r.0 rs (first (below_all name_cmp r.0 rs) (is_sorted name_cmp rs) h))
      by false e = refl

  pub or_none : (o : Option (Element A)) → or_else o None ≡ o
  or_none None = refl
  or_none (Some v) = refl

  -- a map made of rows in order has exactly these rows
  pub put_all_is : (rows : Rows A) → AreInOrder rows → put_all [] rows ≡ rows
  put_all_is rows h = same_rows (put_all [] rows) rows (AreInOrder-put_all rows [] tt) h (λ x. row_at-put_all rows [] x h ∙ or_none (row_at rows x))

  -- the map after one more row is put
  pub put_more : (done : List (Row A)) (r : Row A) → put_all [] (map row_pair (done ++ r ∷ [])) ≡ put_row (put_all [] (map row_pair done)) r.name r.element
  put_more done r = ap (put_all []) (map-append row_pair done (r ∷ [])) ∙ fold-append (λ n (r : Name × Element A). put_row n r.0 r.1) [] (map row_pair done) (row_pair r ∷ [])

  -- in rows in order, a later name differs from an earlier name
  pub later_differs : (r : Name × Element A) (rs : Rows A) (x : Name) (v : Element A) (later : Rows A) → AreInOrder (r ∷ rs ++ (x, v) ∷ later) → is_same x r.0 ≡ false
  later_differs r rs x v later h = by (is_same x r.0) refl
    where
      below : (ss : Rows A) → T (below_all name_cmp r.0 (ss ++ (x, v) ∷ later)) → T (is_lt (name_cmp r.0 x))
      below [] k = first (is_lt (name_cmp r.0 x)) (below_all name_cmp r.0 later) k
      below (s ∷ ss) k = below ss (second (is_lt (name_cmp r.0 s.0)) (below_all name_cmp r.0 (ss ++ (x, v) ∷ later)) k)

      lesser : T (is_lt (name_cmp r.0 x))
      lesser = below rs (first (below_all name_cmp r.0 (rs ++ (x, v) ∷ later)) (is_sorted name_cmp (rs ++ (x, v) ∷ later)) h)

      not_itself : is_lt (name_cmp x x) ≡ false
      not_itself = ap is_lt (tied_itself name_cmp_total x)

      by : (b : Bool) → is_same x r.0 ≡ b → b ≡ false
      by true e = absurd (subst T (ap (λ y. is_lt (name_cmp y x)) (sym (same_names x r.0 e)) ∙ not_itself) lesser)
      by false e = refl

  in_order_behind : (r : Name × Element A) (rs : Rows A) → AreInOrder (r ∷ rs) → AreInOrder rs
  in_order_behind r rs h = second (below_all name_cmp r.0 rs) (is_sorted name_cmp rs) h

  -- the map does not yet have a name that comes after all names that were put
  pub not_yet_put : (done m : Rows A) (x : Name) (v : Element A) (later : Rows A) → AreInOrder (done ++ (x, v) ∷ later) → row_at (put_all m done) x ≡ row_at m x
  not_yet_put [] m x v later h = refl
  not_yet_put (r ∷ rs) m x v later h =
      not_yet_put rs (put_row m r.0 r.1) x v later (in_order_behind r (rs ++ (x, v) ∷ later) h)
      ∙ row_at-put_row m r.0 r.1 x ∙ ap (λ b. cond b (Some r.1) (row_at m x)) (later_differs r rs x v later h)

pub nothing_left : {X : Type 0} (xs : List X) → length xs ≡ 0 → xs ≡ []
nothing_left [] e = refl
nothing_left (x ∷ xs) e = absurd (omega arith)
