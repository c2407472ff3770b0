-- News applied to a map row by row.
use Rattle.std.proofs.Common.{◌≡◌, ◌||◌, ◌+◌, ◌<◌, ℕ, Bool, true, false, T, List, [], ◌∷◌, ◌++◌, Some, is_some, length, take, refl, cond, get_or, sym, ap, subst, ◌∙◌, append-nil, arith, filter, fold}
use Rattle.std.proofs.lemmas.List.{take_more}
use Rattle.std.proofs.lemmas.List.Sums.{fold-append}
use Rattle.std.proofs.lemmas.List.Elements.{filter-append}
use Rattle.room_mirror.specs.Prelude.{Relation, Name, Rows, is_absent, is_among, is_present, is_same, are_rising, AreInOrder, is_eq-name_cmp_itself, same_rows, with_row, row_at-with_row, AreInOrder-with_row, NewsRow, mirrored, told_names}
use Rattle.osm_elements.specs.Rows.{row_at}
use Rattle.room_mirror.specs.Inner.Replacing.{with_empty, absent_names, ArePresent}
use Rattle.room_mirror.proofs.Rising.{earlier}
use Rattle.room_mirror.proofs.Rooming.{not_passed, row_at-with_empties, order-with_empties}

or_left : (a b : Bool) → (a || b) ≡ false → a ≡ false
or_left true b e = e
or_left false b e = refl

or_right : (a b : Bool) → (a || b) ≡ false → b ≡ false
or_right true b e = absurd (cc)
or_right false b e = e

pub nothing_left : {X : Type 0} (xs : List X) → length xs ≡ 0 → xs ≡ []
nothing_left [] e = refl
nothing_left (x ∷ xs) e = absurd (omega arith)

module _ {A : Type 0} where
  -- one row more
  pub mirrored_more : (m : Rows A) (done : List (NewsRow A)) (r : NewsRow A) → mirrored m (done ++ r ∷ []) ≡ with_row (mirrored m done) r.name r.element
  mirrored_more m done r = fold-append (λ n (r : NewsRow A). with_row n r.name r.element) m done (r ∷ [])

  pub AreInOrder-mirrored : (told : List (NewsRow A)) (m : Rows A) → AreInOrder m → AreInOrder (mirrored m told)
  AreInOrder-mirrored [] m h = h
  AreInOrder-mirrored (r ∷ rs) m h = AreInOrder-mirrored rs (with_row m r.name r.element) (AreInOrder-with_row m r.name r.element h)

  -- a name without news keeps its row
  kept : (told : List (NewsRow A)) (m : Rows A) (x : Name) → is_among (told_names told) x ≡ false → row_at (mirrored m told) x ≡ row_at m x
  kept [] m x h = refl
  kept (r ∷ rs) m x h =
      kept rs (with_row m r.name r.element) x (or_right (is_same x r.name) (is_among (told_names rs) x) h) ∙ row_at-with_row m r.name r.element x
      ∙ ap (λ b. cond b r.element (row_at m x)) (or_left (is_same x r.name) (is_among (told_names rs) x) h)

  -- two maps that differ only at names of the news
  same_told : (told : List (NewsRow A)) (m n : Rows A) → ((x : Name) → is_among (told_names told) x ≡ false → row_at m x ≡ row_at n x) → (x : Name) → row_at (mirrored m told) x ≡ row_at (mirrored n told) x
  same_told [] m n h x = h x refl
  same_told (r ∷ rs) m n h x =
      same_told rs (with_row m r.name r.element) (with_row n r.name r.element)
      (λ y e. row_at-with_row m r.name r.element y ∙ by y e (is_same y r.name) refl ∙ sym (row_at-with_row n r.name r.element y)) x
    where
      by : (y : Name) → is_among (told_names rs) y ≡ false → (b : Bool) → is_same y r.name ≡ b → cond b r.element (row_at m y) ≡ cond b r.element (row_at n y)
      by y e true s = refl
      by y e false s = h y (ap (λ b. b || is_among (told_names rs) y) s ∙ e)

  -- the empty rows are replaced, so they are not in the result
  pub room_is_filled : (m : Rows A) (told : List (NewsRow A)) → AreInOrder m → mirrored (fold with_empty m (absent_names m (told_names told))) told ≡ mirrored m told
  room_is_filled m told order =
      same_rows (mirrored n told) (mirrored m told) (AreInOrder-mirrored told n (order-with_empties names m order)) (AreInOrder-mirrored told m order) (same_told told n m untold)
    where
      names : List Name
      names = absent_names m (told_names told)

      n : Rows A
      n = fold with_empty m names

      untold : (x : Name) → is_among (told_names told) x ≡ false → row_at n x ≡ row_at m x
      untold x e = row_at-with_empties names m x ∙ ap (λ b. cond b (Some (Relation [] [])) (row_at m x)) (not_passed (is_absent m) x (told_names told) e)

  names-append : (xs ys : List (NewsRow A)) → told_names (xs ++ ys) ≡ told_names xs ++ told_names ys
  names-append [] ys = refl
  names-append (x ∷ xs) ys = ap (λ zs. x.name ∷ zs) (names-append xs ys)

  among_later : (done rest : List (NewsRow A)) (r : NewsRow A) → is_among (told_names (done ++ r ∷ rest)) r.name ≡ true
  among_later [] rest r = ap (λ b. b || is_among (told_names rest) r.name) (is_eq-name_cmp_itself r.name)
  among_later (d ∷ done) rest r = ap (λ b. is_same r.name d.name || b) (among_later done rest r) ∙ or_true (is_same r.name d.name)
    where
      or_true : (b : Bool) → (b || true) ≡ true
      or_true true = refl
      or_true false = refl

  -- a name that was present is present when it is replaced
  pub still_there : (m : Rows A) (all done rest : List (NewsRow A)) (r : NewsRow A) → done ++ r ∷ rest ≡ all → T (are_rising (told_names all)) → ArePresent m (told_names all) → is_present (mirrored m done) r.name ≡ true
  still_there m all done rest r is rising there =
      ap is_some (kept done m r.name (earlier (told_names done) r.name (told_names rest) (subst (λ names. T (are_rising names)) (ap told_names (sym is) ∙ names-append done (r ∷ rest)) rising)))
      ∙ there r.name (ap (λ rows. is_among (told_names rows) r.name) (sym is) ∙ among_later done rest r)

  one_more : (p : Name → Bool) (told : List (NewsRow A)) (i : ℕ) (d : NewsRow A) → i < length told → d ≡ get_or told i d
      → filter p (told_names (take i told)) ++ cond (p d.name) (d.name ∷ []) [] ≡ filter p (told_names (take (i + 1) told))
  one_more p told i d l is =
      (λ k. filter p (told_names (take i told)) ++ filter p ((is k).name ∷ []))
      ∙ sym (filter-append p (told_names (take i told)) ((get_or told i d).name ∷ []))
      ∙ ap (filter p) (sym (names-append (take i told) (get_or told i d ∷ [])))
      ∙ ap (λ rows. filter p (told_names rows)) (sym (take_more told i d l))

  -- the absent names of one row more
  pub absent_more : (p : Name → Bool) (told : List (NewsRow A)) (i : ℕ) (d : NewsRow A) (names : List Name) → i < length told → d ≡ get_or told i d → true ≡ p d.name
      → names ≡ filter p (told_names (take i told)) → names ++ d.name ∷ [] ≡ filter p (told_names (take (i + 1) told))
  absent_more p told i d names l is passes before =
      (λ k. before k ++ cond (passes k) (d.name ∷ []) []) ∙ one_more p told i d l is

  pub absent_as_before : (p : Name → Bool) (told : List (NewsRow A)) (i : ℕ) (d : NewsRow A) (names : List Name) → i < length told → d ≡ get_or told i d → false ≡ p d.name
      → names ≡ filter p (told_names (take i told)) → names ≡ filter p (told_names (take (i + 1) told))
  absent_as_before p told i d names l is passes before =
      sym (append-nil names) ∙ (λ k. before k ++ cond (passes k) (d.name ∷ []) []) ∙ one_more p told i d l is
