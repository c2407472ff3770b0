-- Empty rows put at absent names, and removed again.
use Rattle.std.proofs.Common.{◌≡◌, ◌||◌, ℕ, zero, suc, Bool, true, false, not, List, [], ◌∷◌, Option, Some, None, is_some, take, refl, cond, sym, ap, ◌∙◌, filter, fold}
use Rattle.room_mirror.specs.Prelude.{Element, Relation, Name, Rows, is_absent, is_among, is_present, is_same, AreInOrder, without_row, is_among-filter, same_either_way, same_names, same_rows, row_at-put_row, row_at-without_row, AreInOrder-put_row, AreInOrder-without_row}
use Rattle.osm_elements.specs.Rows.{row_at}
use Rattle.room_mirror.specs.Inner.Replacing.{with_empty, absent_names, AreAbsent, ArePresent}

clash : {X : Type 0} → false ≡ true → X
clash e = absurd (cc)

-- the first names of a list are among all its names
among_front : (x : Name) (i : ℕ) (names : List Name) → is_among (take i names) x ≡ true → is_among names x ≡ true
among_front x zero names h = clash h
among_front x (suc i) [] h = clash h
among_front x (suc i) (y ∷ ys) h = by (is_same x y) h (among_front x i ys)
  where
    by : (b : Bool) → (b || is_among (take i ys) x) ≡ true → (is_among (take i ys) x ≡ true → is_among ys x ≡ true) → (b || is_among ys x) ≡ true
    by true e go = refl
    by false e go = go e

-- each name that a filter keeps passes its test
among_passes : (p : Name → Bool) (x : Name) (names : List Name) → is_among (filter p names) x ≡ true → p x ≡ true
among_passes p x [] h = clash h
among_passes p x (y ∷ ys) h = by (p y) refl (is_same x y) refl h (among_passes p x ys)
  where
    by : (b : Bool) → p y ≡ b → (s : Bool) → is_same x y ≡ s → is_among (cond b (y ∷ filter p ys) (filter p ys)) x ≡ true → (is_among (filter p ys) x ≡ true → p x ≡ true) → p x ≡ true
    by true e true s h go = ap p (same_names x y s) ∙ e
    by true e false s h go = go (ap (λ c. c || is_among (filter p ys) x) (sym s) ∙ h)
    by false e s t h go = go h

-- a name that is not in a list is not in the filtered list
pub not_passed : (p : Name → Bool) (x : Name) (names : List Name) → is_among names x ≡ false → is_among (filter p names) x ≡ false
not_passed p x [] h = refl
not_passed p x (y ∷ ys) h = by (p y) (is_same x y) refl h (not_passed p x ys)
  where
    by : (b s : Bool) → is_same x y ≡ s → (s || is_among ys x) ≡ false → (is_among ys x ≡ false → is_among (filter p ys) x ≡ false) → is_among (cond b (y ∷ filter p ys) (filter p ys)) x ≡ false
    by b true s h go = clash (sym h)
    by true false s h go = ap (λ c. c || is_among (filter p ys) x) s ∙ go h
    by false false s h go = go h

module _ {A : Type 0} where
  abbrev empty_row : Option (Element A)
  empty_row = Some (Relation [] [])

  either : (a s : Bool) (o p : Option (Element A)) → cond a o (cond s o p) ≡ cond (s || a) o p
  either true true o p = refl
  either true false o p = refl
  either false s o p = ap (λ b. cond b o p) (or_false s)
    where
      or_false : (s : Bool) → s ≡ (s || false)
      or_false true = refl
      or_false false = refl

  pub row_at-with_empties : (names : List Name) (m : Rows A) (x : Name) → row_at (fold with_empty m names) x ≡ cond (is_among names x) empty_row (row_at m x)
  row_at-with_empties [] m x = refl
  row_at-with_empties (y ∷ ys) m x =
      row_at-with_empties ys (with_empty m y) x ∙ ap (cond (is_among ys x) empty_row) (row_at-put_row m y (Relation [] []) x)
      ∙ either (is_among ys x) (is_same x y) empty_row (row_at m x)

  pub order-with_empties : (names : List Name) (m : Rows A) → AreInOrder m → AreInOrder (fold with_empty m names)
  order-with_empties [] m h = h
  order-with_empties (y ∷ ys) m h = order-with_empties ys (with_empty m y) (AreInOrder-put_row m y (Relation [] []) h)

  order-without : (names : List Name) (m : Rows A) → AreInOrder m → AreInOrder (fold without_row m names)
  order-without [] m h = h
  order-without (y ∷ ys) m h = order-without ys (without_row m y) (AreInOrder-without_row m y h)

  row_at-without : (names : List Name) (m : Rows A) (x : Name) → AreInOrder m → row_at (fold without_row m names) x ≡ cond (is_among names x) None (row_at m x)
  row_at-without [] m x h = refl
  row_at-without (y ∷ ys) m x h =
      row_at-without ys (without_row m y) x (AreInOrder-without_row m y h)
      ∙ ap (cond (is_among ys x) None) (row_at-without_row m y x h ∙ turned (is_same y x) (is_same x y) (same_either_way y x))
      ∙ either (is_among ys x) (is_same x y) None (row_at m x)
    where
      turned : (a b : Bool) → a ≡ b → cond (not a) (row_at m x) None ≡ cond b None (row_at m x)
      turned true true e = refl
      turned true false e = clash (sym e)
      turned false true e = clash e
      turned false false e = refl

  -- putting rows at absent names and removing them again restores the map
  pub taken_out_again : (m : Rows A) (names : List Name) (i : ℕ) → AreInOrder m → AreAbsent m names → fold without_row (fold with_empty m (take i names)) (take i names) ≡ m
  taken_out_again m names i order absent =
      same_rows (fold without_row n done) m (order-without done n filled) order
      (λ x. row_at-without done n x filled ∙ ap (cond (is_among done x) None) (row_at-with_empties done m x) ∙ by x (is_among done x) refl)
    where
      done : List Name
      done = take i names

      n : Rows A
      n = fold with_empty m done

      filled : AreInOrder n
      filled = order-with_empties done m order

      by : (x : Name) (b : Bool) → is_among done x ≡ b → cond b None (cond b empty_row (row_at m x)) ≡ row_at m x
      by x true e = sym (absent x (among_front x i names e))
      by x false e = refl

  -- the names that are absent are so
  pub absent_are : (m : Rows A) (names : List Name) → AreAbsent m (absent_names m names)
  absent_are m names x h = none (row_at m x) (among_passes (is_absent m) x names h)
    where
      none : (o : Option (Element A)) → not (is_some o) ≡ true → o ≡ None
      none None e = refl
      none (Some v) e = clash e

  -- after absent names get empty rows, all names are present
  pub all_present : (m : Rows A) (names : List Name) → ArePresent (fold with_empty m (absent_names m names)) names
  all_present m names x h = ap is_some (row_at-with_empties (absent_names m names) m x) ∙ by (is_among (absent_names m names) x) refl (is_present m x) refl
    where
      by : (a : Bool) → is_among (absent_names m names) x ≡ a → (b : Bool) → is_present m x ≡ b → is_some (cond a empty_row (row_at m x)) ≡ true
      by true e b f = refl
      by false e true f = f
      by false e false f = let told : is_among (absent_names m names) x ≡ is_among names x = is_among-filter (is_absent m) x (ap not f) names in clash (sym e ∙ told ∙ h)
