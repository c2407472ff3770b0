-- The rows and the users of a draft, and the draft after one more row.
use Rattle.std.proofs.Common.{sym, ap, subst, ◌∙◌}
use Rattle.std.specs.Prelude.{◌≡◌, ◌||◌, ◌&&◌, ◌++◌, Bool, true, false, not, cond, List, [], ◌∷◌, Option, Some, None, is_some, refl, filter, flat_map}
use Rattle.osm_changes.specs.Prelude.{insert_key, find-where_key, is_sorted-where_key, match_ordering, Ordering, Less, Equal, Greater, Rows, is_same, is_among, is_present, name_set, name_cmp, AreInOrder, row_at, is_among-append, or_else, or_none, row_at-put_all, AreInOrder-put_all, name_cmp-IsAntisymmetric, same_names, same_rows, row_at_is_find, row_references, refers_to, users, names_but, Table, references_at, referring, table_of, gained, new_names, IsTable-table_of, references_at-table_of, table_of-put_row, table_of-rows_but, IsRising-name_set, same_as_name_set, with_row, row_at-with_row, AreInOrder-with_row, passes_at, rising_names, among_rows}
use Rattle.osm_refs.specs.Facts.Changes.{changed}
use Rattle.osm_elements.specs.declared.name.Name.{Name}
use Rattle.osm_elements.specs.declared.element.Element.{Element}
use Rattle.osm_drafts.specs.Drafts.{unwritten, drafted, IsDraft}

or_nothing : (b : Bool) → (b || false) ≡ b
or_nothing true = refl
or_nothing false = refl

-- the names that were not written
pub among_unwritten : (w : List Name) (xs : List Name) (q : Name) → is_among (flat_map (unwritten w) xs) q ≡ (not (is_among w q) && is_among xs q)
among_unwritten w [] q = none (is_among w q)
  where
    none : (b : Bool) → false ≡ (not b && false)
    none true = refl
    none false = refl
among_unwritten w (x ∷ xs) q = by (is_same q x) refl (is_among w x) refl (among_unwritten w xs q)
  where
    by : (s : Bool) → is_same q x ≡ s → (b : Bool) → is_among w x ≡ b → is_among (flat_map (unwritten w) xs) q ≡ (not (is_among w q) && is_among xs q)
        → is_among (cond b [] (x ∷ []) ++ flat_map (unwritten w) xs) q ≡ (not (is_among w q) && (s || is_among xs q))
    by true e true f i = i ∙ ap (λ t. not t && is_among xs q) (ap (is_among w) (same_names q x e) ∙ f) ∙ sym (ap (λ t. not t && true) (ap (is_among w) (same_names q x e) ∙ f))
    by true e false f i = ap (λ b. b || is_among (flat_map (unwritten w) xs) q) e ∙ sym (ap (λ t. not t && true) (ap (is_among w) (same_names q x e) ∙ f))
    by false e true f i = i
    by false e false f i = ap (λ b. b || is_among (flat_map (unwritten w) xs) q) e ∙ i

swap : (a b c : Bool) → (a || (b || c)) ≡ (b || (a || c))
swap true true c = refl
swap true false c = refl
swap false b c = refl

twice : (a b : Bool) → (a || b) ≡ (a || (a || b))
twice true b = refl
twice false b = refl

among_put : (x : Name) (xs : List Name) (q : Name) → is_among (insert_key name_cmp xs x) q ≡ (is_same q x || is_among xs q)
among_put x [] q = refl
among_put x (y ∷ ys) q = by (name_cmp x y) refl (among_put x ys q)
  where
    by : (o : Ordering) → name_cmp x y ≡ o → is_among (insert_key name_cmp ys x) q ≡ (is_same q x || is_among ys q)
        → is_among (match_ordering o (x ∷ y ∷ ys) (y ∷ ys) (y ∷ insert_key name_cmp ys x)) q ≡ (is_same q x || (is_same q y || is_among ys q))
    by Less e i = refl
    by Equal e i = twice (is_same q y) (is_among ys q) ∙ ap (λ z. is_same q z || (is_same q y || is_among ys q)) (sym (name_cmp-IsAntisymmetric x y e))
    by Greater e i = ap (λ b. is_same q y || b) i ∙ swap (is_same q y) (is_same q x) (is_among ys q)

-- the written names after one more name
pub among_inserted : (cmp : Name → Name → Ordering) → cmp ≡ name_cmp → (x : Name) (xs : List Name) (q : Name) → is_among (insert_key cmp xs x) q ≡ (is_same q x || is_among xs q)
among_inserted cmp is x xs q = ap (λ (c : Name → Name → Ordering). is_among (insert_key c xs x) q) is ∙ among_put x xs q

module _ {A : Type 0} where
  row_at-left : (m : Rows A) (w : List Name) (x : Name) → row_at (filter (λ r. not (is_among w r.0)) m) x ≡ cond (not (is_among w x)) (row_at m x) None
  row_at-left m w x =
      row_at_is_find (filter (λ r. not (is_among w r.0)) m) x
      ∙ find-where_key name_cmp (λ z. not (is_among w z)) x (λ z e. ap (λ y. not (is_among w y)) (sym (name_cmp-IsAntisymmetric x z e))) m
      ∙ ap (λ o. cond (not (is_among w x)) o None) (sym (row_at_is_find m x))

  AreInOrder-left : (m : Rows A) (w : List Name) → AreInOrder m → AreInOrder (filter (λ r. not (is_among w r.0)) m)
  AreInOrder-left m w h = is_sorted-where_key name_cmp (λ z. not (is_among w z)) m h

  pub AreInOrder-drafted : (m : Rows A) (w : List Name) (here : Rows A) → AreInOrder m → AreInOrder (drafted m w here)
  AreInOrder-drafted m w here h = AreInOrder-put_all here (filter (λ r. not (is_among w r.0)) m) (AreInOrder-left m w h)

  -- each row that is there was written
  abbrev pub AreInside : List Name → Rows A → Type 0
  AreInside w here = (x : Name) → is_present here x ≡ true → is_among w x ≡ true

  not_here : (here : Rows A) (w : List Name) (x : Name) → AreInside w here → is_among w x ≡ false → row_at here x ≡ None
  not_here here w x inside out = by (row_at here x) refl
    where
      by : (o : Option (Element A)) → row_at here x ≡ o → row_at here x ≡ None
      by None e = e
      by (Some v) e = absurd (cc (inside x (ap is_some e), out))

  -- a written name has its written row, and any other name has the map's row
  pub row_at-drafted : (m : Rows A) (w : List Name) (here : Rows A) (x : Name) → AreInOrder here → AreInside w here → row_at (drafted m w here) x ≡ cond (is_among w x) (row_at here x) (row_at m x)
  row_at-drafted m w here x h inside =
      row_at-put_all here (filter (λ r. not (is_among w r.0)) m) x h ∙ ap (or_else (row_at here x)) (row_at-left m w x) ∙ by (is_among w x) refl
    where
      by : (b : Bool) → is_among w x ≡ b → or_else (row_at here x) (cond (not b) (row_at m x) None) ≡ cond b (row_at here x) (row_at m x)
      by true e = or_none (row_at here x)
      by false e = ap (λ o. or_else o (row_at m x)) (not_here here w x inside e)

  pub row_written : (m : Rows A) (w : List Name) (here : Rows A) (x : Name) → AreInOrder here → AreInside w here → true ≡ is_among w x → row_at here x ≡ row_at (drafted m w here) x
  row_written m w here x h inside is = sym (row_at-drafted m w here x h inside ∙ ap (λ b. cond b (row_at here x) (row_at m x)) (sym is))

  pub row_unwritten : (m : Rows A) (w : List Name) (here : Rows A) (x : Name) → AreInOrder here → AreInside w here → false ≡ is_among w x → row_at m x ≡ row_at (drafted m w here) x
  row_unwritten m w here x h inside is = sym (row_at-drafted m w here x h inside ∙ ap (λ b. cond b (row_at here x) (row_at m x)) (sym is))

  -- a draft with nothing written has the map's rows
  pub drafted_itself : (m : Rows A) → AreInOrder m → drafted m [] [] ≡ m
  drafted_itself m h = same_rows (drafted m [] []) m (AreInOrder-drafted m [] [] h) h (λ q. row_at-drafted m [] [] q tt (λ x e. absurd (cc)))

  is_among-users : (m : Rows A) → AreInOrder m → (e y : Name) → is_among (users m e) y ≡ is_among (row_references (row_at m y)) e
  is_among-users m h e y = among_rows (λ r. refers_to r.1 e) m h y ∙ by (row_at m y)
    where
      by : (o : Option (Element A)) → passes_at (λ r. refers_to r.1 e) y o ≡ is_among (row_references o) e
      by None = refl
      by (Some v) = refl

  -- the users of a name: those of the map that were not written, and those among the written rows
  pub users-drafted : (m : Rows A) (w : List Name) (here : Rows A) (e : Name) → AreInOrder m → AreInOrder here → AreInside w here
      → name_set (flat_map (unwritten w) (users m e) ++ users here e) ≡ users (drafted m w here) e
  users-drafted m w here e g h inside =
      sym (same_as_name_set (users (drafted m w here) e) (flat_map (unwritten w) (users m e) ++ users here e)
      (rising_names (λ r. refers_to r.1 e) (drafted m w here) order)
      (λ q. is_among-users (drafted m w here) order e q ∙ ap (λ o. is_among (row_references o) e) (row_at-drafted m w here q h inside) ∙ by q (is_among w q) refl
      ∙ sym (is_among-append q (flat_map (unwritten w) (users m e)) (users here e) ∙ ap (λ b. b || is_among (users here e) q) (among_unwritten w (users m e) q))))
    where
      order : AreInOrder (drafted m w here)
      order = AreInOrder-drafted m w here g

      by : (q : Name) (b : Bool) → is_among w q ≡ b → is_among (row_references (cond b (row_at here q) (row_at m q))) e ≡ ((not (is_among w q) && is_among (users m e) q) || is_among (users here e) q)
      by q true i = sym (is_among-users here h e q) ∙ ap (λ b. (not b && is_among (users m e) q) || is_among (users here e) q) (sym i)
      by q false i =
          sym (is_among-users m g e q) ∙ sym (or_nothing (is_among (users m e) q))
          ∙ ap (λ b. is_among (users m e) q || b) (sym (is_among-users here h e q ∙ ap (λ o. is_among (row_references o) e) (not_here here w q inside i)))
          ∙ ap (λ b. (not b && is_among (users m e) q) || is_among (users here e) q) (sym i)

  -- one more written row
  pub inside_with : (w more : List Name) (here : Rows A) (x : Name) (o : Option (Element A)) → AreInside w here → ((q : Name) → is_among more q ≡ (is_same q x || is_among w q)) → AreInside more (with_row here x o)
  inside_with w more here x o inside is q there = is q ∙ by (is_same q x) (ap is_some (sym (row_at-with_row here x o q)) ∙ there)
    where
      by : (b : Bool) → is_some (cond b o (row_at here q)) ≡ true → (b || is_among w q) ≡ true
      by true e = refl
      by false e = inside q e

  module _ (m : Rows A) (w more : List Name) (here : Rows A) (x : Name) (o : Option (Element A)) (g : AreInOrder m) (h : AreInOrder here) (inside : AreInside w here)
      (is : (q : Name) → is_among more q ≡ (is_same q x || is_among w q)) where
    pub drafted_with : drafted m more (with_row here x o) ≡ with_row (drafted m w here) x o
    drafted_with =
        same_rows (drafted m more (with_row here x o)) (with_row (drafted m w here) x o) (AreInOrder-drafted m more (with_row here x o) g) (AreInOrder-with_row (drafted m w here) x o (AreInOrder-drafted m w here g))
        (λ q. row_at-drafted m more (with_row here x o) q (AreInOrder-with_row here x o h) (inside_with w more here x o inside is)
        ∙ (λ i. cond (is q i) (row_at-with_row here x o q i) (row_at m q)) ∙ by q (is_same q x)
        ∙ ap (cond (is_same q x) o) (sym (row_at-drafted m w here q h inside)) ∙ sym (row_at-with_row (drafted m w here) x o q))
      where
        by : (q : Name) (b : Bool) → cond (b || is_among w q) (cond b o (row_at here q)) (row_at m q) ≡ cond b o (cond (is_among w q) (row_at here q) (row_at m q))
        by q true = refl
        by q false = refl

  -- the users among the written rows, after one more row
  users_with : (here : Rows A) (x : Name) (o : Option (Element A)) → AreInOrder here → referring (table_of here) x (name_set (row_references o)) ≡ table_of (with_row here x o)
  users_with here x None h = sym (table_of-rows_but here x h)
  users_with here x (Some v) h = sym (table_of-put_row here x v h)

  -- the references that begin and cease with a written row
  module _ (here : Rows A) (x : Name) (o : Option (Element A)) (order : AreInOrder here) where
    abbrev before : List Name
    before = name_set (row_references (row_at here x))

    abbrev after : List Name
    after = name_set (row_references o)

    pub begun_is_new : (users : Table) → users ≡ table_of here → names_but (names_but after before) (references_at users x) ≡ names_but after before
    begun_is_new users are = ap (λ t. names_but (names_but after before) (references_at t x)) are ∙ ap (names_but (names_but after before)) (references_at-table_of here x order) ∙ new_names before after (IsRising-name_set (row_references o))

    pub users_changed : (users gains loses : Table) → users ≡ table_of here → gains ≡ referring users x (name_set (references_at users x ++ names_but after before))
        → loses ≡ referring gains x (names_but (references_at gains x) (names_but before after)) → loses ≡ table_of (with_row here x o)
    users_changed users gains loses are gained_is lost_is =
        let was : references_at (table_of here) x ≡ before = references_at-table_of here x order in
        let came : gains ≡ gained (table_of here) x after (IsTable-table_of here order) (IsRising-name_set (row_references o)) =
        gained_is ∙ ap (λ t. referring t x (name_set (references_at t x ++ names_but after before))) are ∙ ap (λ names. referring (table_of here) x (name_set (references_at (table_of here) x ++ names_but after names))) (sym was) in
        lost_is ∙ ap (λ t. referring t x (names_but (references_at t x) (names_but before after))) came
        ∙ ap (λ names. referring (gained (table_of here) x after (IsTable-table_of here order) (IsRising-name_set (row_references o))) x
        (names_but (references_at (gained (table_of here) x after (IsTable-table_of here order) (IsRising-name_set (row_references o))) x) (names_but names after))) (sym was)
        ∙ changed (table_of here) x after (IsTable-table_of here order) (IsRising-name_set (row_references o)) ∙ users_with here x o order

  -- a draft with one more row is a draft
  pub is_draft_with : (w more : List Name) (here : Rows A) (x : Name) (o : Option (Element A)) (before after : Table) (put : Rows A) → IsDraft w here before
      → ((q : Name) → is_among more q ≡ (is_same q x || is_among w q)) → after ≡ table_of (with_row here x o) → put ≡ with_row here x o → IsDraft more put after
  is_draft_with w more here x o before after put d is users_are put_is =
      subst (λ k. IsDraft more k after) (sym put_is) (record {
        order = AreInOrder-with_row here x o d.order;
        inside = inside_with w more here x o d.inside is;
        users_are = users_are;
      })
