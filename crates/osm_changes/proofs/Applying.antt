-- Putting the rows after changes in two passes, the new rows first, leads to the map after them. Rows that were put can
-- be taken out again.
use Rattle.std.proofs.Common.{◌≡◌, ◌||◌, ◌&&◌, ◌<◌, ◌+◌, ℕ, Bool, true, false, not, T, List, [], ◌∷◌, ◌++◌, Option, Some, None, is_some, is_none, length, take, drop, map, refl, cond, get_or, sym, ap, subst, ◌∙◌, arith, filter, fold}
use Rattle.std.proofs.lemmas.List.{get_or-drop, get_or_default, map_more, take_more}
use Rattle.std.proofs.lemmas.List.Sums.{fold-append}
use Rattle.std.proofs.lemmas.List.Elements.{All-nil, All-cons, All-tail, All-take}
use Rattle.osm_changes.specs.Prelude.{Name, Element, AreInOrder, row_at, without_row, row_at-rows_but, AreInOrder-rows_but, same_names, same_rows, without_row_is_filter, Rows, is_same, is_among, rows_but, are_rising, Change, RowAfter, changed, changed_names, AreInOrder-changed, kept}
use Rattle.osm_changes.specs.Inner.Applying.{is_new, row_in, rows_after, with_entered, AreNew, NoneIsNew}
use Rattle.osm_changes.proofs.RowsEntered.{AreOf, names_entered, names-rows_in, AreOf-rows_in, AreOf-filter, AreInOrder-entered, row_at-entered, row_at-not_entered, earlier}

-- the rest of a list is still the same if only items in front of it changed
pub waits_still : {X : Type 0} (xs ys : List X) (i : ℕ) (d e : X) → i < length xs → drop i ys ≡ drop i xs
    → get_or ys i e ≡ get_or xs i d
waits_still xs ys i d e l same =
    let here : get_or (drop i ys) 0 e ≡ get_or ys (i + 0) e = get_or-drop i ys 0 e in
    let there : get_or (drop i xs) 0 e ≡ get_or xs (i + 0) e = get_or-drop i xs 0 e in
    let zero_more : i + 0 ≡ i = omega arith in
    ap (λ k. get_or ys k e) (sym zero_more) ∙ sym here ∙ ap (λ zs. get_or zs 0 e) same ∙ there
    ∙ ap (λ k. get_or xs k e) zero_more ∙ get_or_default xs i e d l

module _ {A : Type 0} where
  pub entered_one_more : (rs : List (RowAfter A)) (i : ℕ) (d : RowAfter A) (m : Rows A) → i < length rs
      → fold with_entered m (take (i + 1) rs) ≡ with_entered (fold with_entered m (take i rs)) (get_or rs i d)
  entered_one_more rs i d m l = ap (fold with_entered m) (take_more rs i d l)
      ∙ fold-append with_entered m (take i rs) (get_or rs i d ∷ [])

  pub out_one_more : (rs : List (RowAfter A)) (i : ℕ) (d : RowAfter A) (m : Rows A) → i < length rs
      → fold (λ n x. rows_but x n) m (names_entered (take (i + 1) rs))
      ≡ rows_but (get_or rs i d).name (fold (λ n x. rows_but x n) m (names_entered (take i rs)))
  out_one_more rs i d m l =
      ap (fold (λ n x. rows_but x n) m) (map_more (λ (r : RowAfter A). r.name) rs i d l)
      ∙ fold-append (λ n x. rows_but x n) m (names_entered (take i rs)) ((get_or rs i d).name ∷ [])

  pub taken_out : (m : Rows A) (x : Name) → AreInOrder m → without_row m x ≡ rows_but x m
  taken_out = without_row_is_filter

  -- ---- the two passes

  either : (p : RowAfter A → Bool) (rs : List (RowAfter A)) (y : Name)
      → is_among (names_entered rs) y ≡
      (is_among (names_entered (filter (λ r. not (p r)) rs)) y || is_among (names_entered (filter p rs)) y)
  either p [] y = refl
  either p (r ∷ rs) y = ap (λ b. is_same y r.name || b) (either p rs y)
      ∙ by (p r) (is_same y r.name) (is_among (names_entered (filter (λ r. not (p r)) rs)) y)
      (is_among (names_entered (filter p rs)) y)
    where
      one : Bool → List (RowAfter A) → List (RowAfter A)
      one b others = cond b (r ∷ others) others

      swap : (s a b : Bool) → (s || (a || b)) ≡ (a || (s || b))
      swap true true b = refl
      swap true false b = refl
      swap false a b = refl

      assoc : (s a b : Bool) → (s || (a || b)) ≡ ((s || a) || b)
      assoc true a b = refl
      assoc false a b = refl

      by : (t : Bool) (s a b : Bool)
          → (is_same y r.name || (is_among (names_entered (filter (λ r. not (p r)) rs)) y || is_among
          (names_entered (filter p rs)) y))
          ≡ (is_among (names_entered (cond (not t) (r ∷ filter (λ r. not (p r)) rs)
          (filter (λ r. not (p r)) rs))) y || is_among (names_entered (cond t (r ∷ filter p rs) (filter p rs))) y)
      by true s a b = swap (is_same y r.name) (is_among (names_entered (filter (λ r. not (p r)) rs)) y)
          (is_among (names_entered (filter p rs)) y)
      by false s a b = assoc (is_same y r.name) (is_among (names_entered (filter (λ r. not (p r)) rs)) y)
          (is_among (names_entered (filter p rs)) y)

  module _ (m : Rows A) (order : AreInOrder m) (cs : List (Change A)) where
    abbrev entered : List (RowAfter A)
    entered = rows_after m cs

    abbrev new : List (RowAfter A)
    new = filter (is_new m) entered

    abbrev others : List (RowAfter A)
    others = filter (λ r. not (is_new m r)) entered

    of_target : AreOf (changed m cs) entered
    of_target = AreOf-rows_in (changed m cs) (changed_names cs)

    pub leads_to_changed : fold with_entered (fold with_entered m new) others ≡ changed m cs
    leads_to_changed =
        same_rows (fold with_entered (fold with_entered m new) others) (changed m cs)
        (AreInOrder-entered others (fold with_entered m new) (AreInOrder-entered new m order))
        (AreInOrder-changed m cs order)
        (λ y. row_at-entered (changed m cs) others (fold with_entered m new)
        (AreOf-filter (λ r. not (is_new m r)) (changed m cs) entered of_target) y
        ∙ ap (cond (is_among (names_entered others) y) (row_at (changed m cs) y))
        (row_at-entered (changed m cs) new m (AreOf-filter (is_new m) (changed m cs) entered of_target) y)
        ∙ by y (is_among (names_entered others) y) refl (is_among (names_entered new) y) refl)
      where
        by : (y : Name) (a : Bool) → is_among (names_entered others) y ≡ a → (b : Bool) → is_among (names_entered new) y ≡ b
            → cond a (row_at (changed m cs) y) (cond b (row_at (changed m cs) y) (row_at m y)) ≡ row_at (changed m cs) y
        by y true e b f = refl
        by y false e true f = refl
        by y false e false f =
            sym (kept m cs y (ap (λ names. is_among names y) (sym (names-rows_in (changed m cs) (changed_names cs)))
            ∙ either (is_new m) entered y ∙ (λ i. e i || f i)))

    -- after the first pass, none of the other rows is new
    pub none_is_new : NoneIsNew (fold with_entered m new) others
    none_is_new = over (changed_names cs)
      where
        still : (r : RowAfter A) → row_at (changed m cs) r.name ≡ r.element → is_new m r ≡ false
            → is_new (fold with_entered m new) r ≡ false
        still r is old = by r.element refl old
          where
            neither : (o : Option (Element A)) → (is_none o && false) ≡ false
            neither None = refl
            neither (Some v) = refl

            here : (b : Bool) (o p : Option (Element A)) → is_some p ≡ true → (is_none o && true) ≡ false
                → (is_none (cond b p o) && true) ≡ false
            here true o None e f = absurd (cc)
            here true o (Some w) e f = refl
            here false o p e f = f

            by : (o : Option (Element A)) → r.element ≡ o → (is_none (row_at m r.name) && is_some o) ≡ false
                → (is_none (row_at (fold with_entered m new) r.name) && is_some o) ≡ false
            by None e f = neither (row_at (fold with_entered m new) r.name)
            by (Some v) e f =
                ap (λ o. is_none o && true) (row_at-entered (changed m cs) new m
                (AreOf-filter (is_new m) (changed m cs) entered of_target) r.name)
                ∙ here (is_among (names_entered new) r.name) (row_at m r.name) (row_at (changed m cs) r.name)
                (ap is_some (is ∙ e)) f

        over : (xs : List Name) → NoneIsNew (fold with_entered m new)
            (filter (λ r. not (is_new m r)) (map (row_in (changed m cs)) xs))
        over [] = All-nil (λ (r : RowAfter A). is_new (fold with_entered m new) r ≡ false)
        over (x ∷ xs) = by (is_new m (row_in (changed m cs) x)) refl (over xs)
          where
            by : (b : Bool) → is_new m (row_in (changed m cs) x) ≡ b
                → NoneIsNew (fold with_entered m new) (filter (λ r. not (is_new m r)) (map (row_in (changed m cs)) xs))
                → NoneIsNew (fold with_entered m new)
                (cond (not b) (row_in (changed m cs) x ∷ filter (λ r. not (is_new m r))
                (map (row_in (changed m cs)) xs)) (filter (λ r. not (is_new m r)) (map (row_in (changed m cs)) xs)))
            by true e i = i
            by false e i =
                All-cons (λ (r : RowAfter A). is_new (fold with_entered m new) r ≡ false) (row_in (changed m cs) x)
                (filter (λ r. not (is_new m r)) (map (row_in (changed m cs)) xs))
                (still (row_in (changed m cs) x) refl e) i

  pub are_new : (m : Rows A) (rs : List (RowAfter A)) → AreNew m (filter (is_new m) rs)
  are_new m [] = All-nil (λ (r : RowAfter A). is_new m r ≡ true)
  are_new m (r ∷ rs) = by (is_new m r) refl (are_new m rs)
    where
      by : (b : Bool) → is_new m r ≡ b → AreNew m (filter (is_new m) rs)
          → AreNew m (cond b (r ∷ filter (is_new m) rs) (filter (is_new m) rs))
      by true e i = All-cons (λ (r : RowAfter A). is_new m r ≡ true) r (filter (is_new m) rs) e i
      by false e i = i

  -- the next row is as new as it was at the start, because the rows in front of it have other names
  pub none_newer : (rs : List (RowAfter A)) (now : Rows A) (done : List (RowAfter A)) (r : RowAfter A)
      (rest : List (RowAfter A)) → rs ≡ done ++ r ∷ rest
      → T (are_rising (names_entered rs)) → is_new (fold with_entered now done) r ≡ is_new now r
  none_newer rs now done r rest is rising =
      ap (λ o. is_none o && is_some r.element) (row_at-not_entered done now r.name
      (earlier (names_entered done) r.name (names_entered rest)
      (subst (λ names. T (are_rising names)) (ap names_entered is ∙ cut done) rising)))
    where
      cut : (xs : List (RowAfter A)) → names_entered (xs ++ r ∷ rest) ≡ names_entered xs ++ r.name ∷ names_entered rest
      cut [] = refl
      cut (x ∷ xs) = ap (λ names. x.name ∷ names) (cut xs)

  -- so it is not new if no row was new at the start
  pub none_is_new_then : (rs : List (RowAfter A)) (now : Rows A) (done : List (RowAfter A)) (r : RowAfter A)
      (rest : List (RowAfter A)) → rs ≡ done ++ r ∷ rest
      → T (are_rising (names_entered rs)) → NoneIsNew now rs → is_new (fold with_entered now done) r ≡ false
  none_is_new_then rs now done r rest is rising none = none_newer rs now done r rest is rising
      ∙ among done (subst (NoneIsNew now) is none)
    where
      among : (xs : List (RowAfter A)) → NoneIsNew now (xs ++ r ∷ rest) → is_new now r ≡ false
      among [] h = h 0 r (omega arith)
      among (x ∷ xs) h = among xs (All-tail (λ (s : RowAfter A). is_new now s ≡ false) x (xs ++ r ∷ rest) h)

  -- ---- taking the rows out again

  row_at-out : (xs : List Name) (now : Rows A) (y : Name)
      → row_at (fold (λ n x. rows_but x n) now xs) y ≡ cond (is_among xs y) None (row_at now y)
  row_at-out [] now y = refl
  row_at-out (x ∷ xs) now y = row_at-out xs (rows_but x now) y
      ∙ ap (cond (is_among xs y) None) (row_at-rows_but now x y) ∙ by (is_among xs y) (is_same y x)
    where
      by : (a s : Bool) → cond a None (cond s None (row_at now y)) ≡ cond (s || a) None (row_at now y)
      by true true = refl
      by true false = refl
      by false true = refl
      by false false = refl

  AreInOrder-out : (xs : List Name) (now : Rows A) → AreInOrder now → AreInOrder (fold (λ n x. rows_but x n) now xs)
  AreInOrder-out [] now h = h
  AreInOrder-out (x ∷ xs) now h = AreInOrder-out xs (rows_but x now) (AreInOrder-rows_but now x h)

  absent : (m : Rows A) (rs : List (RowAfter A)) → AreNew m rs → (y : Name) → is_among (names_entered rs) y ≡ true
      → row_at m y ≡ None
  absent m [] fresh y e = absurd (cc)
  absent m (r ∷ rs) fresh y e = by (is_same y r.name) refl e
      (absent m rs (All-tail (λ (r : RowAfter A). is_new m r ≡ true) r rs fresh) y)
    where
      none : (o p : Option (Element A)) → (is_none o && is_some p) ≡ true → o ≡ None
      none None p f = refl
      none (Some v) p f = absurd (cc)

      by : (s : Bool) → is_same y r.name ≡ s → (s || is_among (names_entered rs) y) ≡ true
          → (is_among (names_entered rs) y ≡ true → row_at m y ≡ None) → row_at m y ≡ None
      by true f g later = ap (row_at m) (same_names y r.name f)
          ∙ none (row_at m r.name) r.element (fresh 0 r (omega arith))
      by false f g later = later g

  AreNew-take : (m : Rows A) (i : ℕ) (rs : List (RowAfter A)) → AreNew m rs → AreNew m (take i rs)
  AreNew-take m i rs = All-take (λ (r : RowAfter A). is_new m r ≡ true) i rs

  pub taken_out_again : (m : Rows A) (rs : List (RowAfter A)) (i : ℕ) → AreInOrder m → AreNew m rs
      → fold (λ n x. rows_but x n) (fold with_entered m (take i rs)) (names_entered (take i rs)) ≡ m
  taken_out_again m rs i order fresh =
      same_rows (fold (λ n x. rows_but x n) (fold with_entered m (take i rs)) (names_entered (take i rs))) m
      (AreInOrder-out (names_entered (take i rs)) (fold with_entered m (take i rs))
      (AreInOrder-entered (take i rs) m order)) order
      (λ y. row_at-out (names_entered (take i rs)) (fold with_entered m (take i rs)) y
      ∙ by y (is_among (names_entered (take i rs)) y) refl)
    where
      by : (y : Name) (b : Bool) → is_among (names_entered (take i rs)) y ≡ b
          → cond b None (row_at (fold with_entered m (take i rs)) y) ≡ row_at m y
      by y true e = sym (absent m (take i rs) (AreNew-take m i rs fresh) y e)
      by y false e = row_at-not_entered (take i rs) m y e
