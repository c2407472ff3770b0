-- The first user of a name in a draft: the lesser of the store's first user that was not written and the first user
-- among the written rows.
use Rattle.std.proofs.Common.{◌≡◌, ◌||◌, ◌++◌, Bool, true, false, not, cond, T, List, [], ◌∷◌, Option, Some, None, refl, slice_get, sym, ap, subst, ◌∙◌, filter, find, flat_map, is_eq, is_lt, Ordering, Less, Equal, Greater}
use Rattle.osm_drafts.specs.Prelude.{ord_min, ordering_reverse, below_all, Name, Rows, is_same, is_among, least, lesser, name_cmp, AreInOrder, is_among-append, is_among-name_set, name_cmp_total, name_cmp-IsAntisymmetric, same_names, is_eq-name_cmp_itself, bare_rows, less, refers_to, users, is_among-passing, rising_names, unwritten, drafted, AreInside, among_unwritten, users-drafted}
use Rattle.rising_lists.specs.Facts.Sorted.{first, second}
use Rattle.osm_refs.specs.Facts.RisingNames.{IsRising-filter}
use Rattle.osm_refs.specs.Rising.{IsRising}

not_less : (x y : Name) → T (is_lt (name_cmp x y)) → is_lt (name_cmp y x) ≡ false
not_less x y t = ap is_lt (name_cmp_total.antisymm y x ∙ ap ordering_reverse (less (name_cmp x y) t))

not_less_itself : (x : Name) → is_lt (name_cmp x x) ≡ false
not_less_itself x = by (name_cmp x x) (is_eq-name_cmp_itself x)
  where
    by : (o : Ordering) → is_eq o ≡ true → is_lt o ≡ false
    by Less e = absurd (cc)
    by Equal e = refl
    by Greater e = refl

-- if x is not less than o, and o is not less than y, then x is not less than y
not_less_still : (x y o : Name) → is_lt (name_cmp x o) ≡ false → is_lt (name_cmp o y) ≡ false → is_lt (name_cmp x y) ≡ false
not_less_still x y o p q = by (is_lt (name_cmp x y)) refl
  where
    entered : (r : Ordering) → is_lt r ≡ true → r ≡ Less
    entered Less e = refl
    entered Equal e = absurd (cc)
    entered Greater e = absurd (cc)

    down : (r : Ordering) → name_cmp o y ≡ r → name_cmp x y ≡ Less → name_cmp x o ≡ Less
    down Less e h = absurd (cc (ap is_lt e))
    down Equal e h = ap (name_cmp x) (name_cmp-IsAntisymmetric o y e) ∙ h
    down Greater e h = name_cmp_total.trans x y o h (name_cmp_total.antisymm y o ∙ ap ordering_reverse e)

    by : (b : Bool) → is_lt (name_cmp x y) ≡ b → b ≡ false
    by true e = absurd (cc (ap is_lt (down (name_cmp o y) refl (entered (name_cmp x y) e))))
    by false e = refl

not_less_among : (x : Name) (zs : List Name) → T (below_all name_cmp x (bare_rows zs)) → (q : Name) → is_among zs q ≡ true → is_lt (name_cmp q x) ≡ false
not_less_among x [] low q h = absurd (cc)
not_less_among x (z ∷ zs) low q h = by (is_same q z) refl h (not_less_among x zs (second _ _ low) q)
  where
    by : (b : Bool) → is_same q z ≡ b → (b || is_among zs q) ≡ true → (is_among zs q ≡ true → is_lt (name_cmp q x) ≡ false) → is_lt (name_cmp q x) ≡ false
    by true e h go = ap (λ y. is_lt (name_cmp y x)) (same_names q z e) ∙ not_less x z (first _ _ low)
    by false e h go = go h

-- the name is in the list, and no name of the list is less
record IsLeast (names : List Name) (a : Name) : Type 0 where
  there : is_among names a ≡ true
  low : (q : Name) → is_among names q ≡ true → is_lt (name_cmp q a) ≡ false

itself_among : (x : Name) (xs : List Name) → is_among (x ∷ xs) x ≡ true
itself_among x xs = ap (λ b. b || is_among xs x) (is_eq-name_cmp_itself x)

-- the first of rising names is the least
first_least : (zs : List Name) → IsRising zs → (a : Name) → slice_get zs 0 ≡ Some a → IsLeast zs a
first_least [] rise a e = absurd (cc)
first_least (x ∷ xs) rise a e = subst (IsLeast (x ∷ xs)) is (record { there = itself_among x xs; low = low })
  where
    is : x ≡ a
    is = cc

    low : (q : Name) → is_among (x ∷ xs) q ≡ true → is_lt (name_cmp q x) ≡ false
    low q h = by (is_same q x) refl h
      where
        by : (b : Bool) → is_same q x ≡ b → (b || is_among xs q) ≡ true → is_lt (name_cmp q x) ≡ false
        by true e h = ap (λ y. is_lt (name_cmp y x)) (same_names q x e) ∙ not_less_itself x
        by false e h = not_less_among x xs (first _ _ rise) q h

none_first : (zs : List Name) → slice_get zs 0 ≡ None → zs ≡ []
none_first [] e = refl
none_first (x ∷ xs) e = absurd (cc)

least_among : (xs : List Name) (a : Name) → least xs ≡ Some a → is_among xs a ≡ true
least_among [] a e = absurd (cc)
least_among (x ∷ xs) a e = by (least xs) refl (λ y f. least_among xs y f)
  where
    chosen : (y : Name) (b : Bool) → is_among xs y ≡ true → cond b y x ≡ a → is_among (x ∷ xs) a ≡ true
    chosen y true there is = subst (λ z. is_among (x ∷ xs) z ≡ true) is (ap (λ b. is_same y x || b) there ∙ always (is_same y x))
      where
        always : (b : Bool) → (b || true) ≡ true
        always true = refl
        always false = refl
    chosen y false there is = subst (λ z. is_among (x ∷ xs) z ≡ true) is (itself_among x xs)

    by : (o : Option Name) → least xs ≡ o → ((y : Name) → least xs ≡ Some y → is_among xs y ≡ true) → is_among (x ∷ xs) a ≡ true
    by None f among = subst (λ z. is_among (x ∷ xs) z ≡ true) (let same : Some (lesser x None) ≡ Some a = ap (λ o. Some (lesser x o)) (sym f) ∙ e in cc) (itself_among x xs)
    by (Some y) f among = chosen y (is_lt (name_cmp y x)) (among y f) (let same : Some (lesser x (Some y)) ≡ Some a = ap (λ o. Some (lesser x o)) (sym f) ∙ e in cc)

least_is : (xs : List Name) (a : Name) → IsLeast xs a → least xs ≡ Some a
least_is [] a is = absurd (cc (is.there))
least_is (x ∷ xs) a is = by (is_same a x) refl is.there (λ rest. least_is xs a rest)
  where
    -- a is the first name, and no later name is less
    kept : (o : Option Name) → least xs ≡ o → a ≡ x → Some (lesser x o) ≡ Some a
    kept None f same = ap Some (sym same)
    kept (Some y) f same =
        ap (λ b. Some (cond b y x)) (ap (λ z. is_lt (name_cmp y z)) (sym same) ∙ is.low y (ap (λ b. is_same y x || b) (least_among xs y f) ∙ always (is_same y x)))
        ∙ ap Some (sym same)
      where
        always : (b : Bool) → (b || true) ≡ true
        always true = refl
        always false = refl

    -- a is a later name, and the first name is not less
    other : (r : Ordering) → name_cmp a x ≡ r → is_same a x ≡ false → is_lt (name_cmp x a) ≡ false → cond (is_lt r) a x ≡ a
    other Less e f h = refl
    other Equal e f h = sym (name_cmp-IsAntisymmetric a x e)
    other Greater e f h = absurd (cc (h, ap is_lt (name_cmp_total.antisymm x a ∙ ap ordering_reverse e)))

    by : (b : Bool) → is_same a x ≡ b → (b || is_among xs a) ≡ true → (IsLeast xs a → least xs ≡ Some a) → Some (lesser x (least xs)) ≡ Some a
    by true e h of_rest = kept (least xs) refl (same_names a x e)
    by false e h of_rest =
        ap (λ o. Some (lesser x o)) (of_rest (record { there = h; low = λ q among. is.low q (ap (λ b. is_same q x || b) among ∙ always (is_same q x)) }))
        ∙ ap Some (other (name_cmp a x) refl e (is.low x (itself_among x xs)))
      where
        always : (b : Bool) → (b || true) ≡ true
        always true = refl
        always false = refl

no_least : (xs : List Name) → ((q : Name) → is_among xs q ≡ false) → least xs ≡ None
no_least [] none = refl
no_least (x ∷ xs) none = absurd (cc (itself_among x xs, none x))

-- the lesser of two optional names
abbrev pub lower : Option Name → Option Name → Option Name
lower None own = own
lower (Some a) None = Some a
lower (Some a) (Some b) = Some (ord_min name_cmp a b)

or_nothing : (b : Bool) → (b || false) ≡ b
or_nothing true = refl
or_nothing false = refl

-- the lesser of the first names of two rising lists is the least of all their names
both_firsts : (xs ys us : List Name) → IsRising xs → IsRising ys → ((q : Name) → is_among us q ≡ (is_among xs q || is_among ys q))
    → lower (slice_get xs 0) (slice_get ys 0) ≡ least us
both_firsts xs ys us rise rise' are = by (slice_get xs 0) refl (slice_get ys 0) refl
  where
    -- if no name of either list is less than c, no name of both together is
    low_in_both : (c : Name) → ((q : Name) → is_among xs q ≡ true → is_lt (name_cmp q c) ≡ false) → ((q : Name) → is_among ys q ≡ true → is_lt (name_cmp q c) ≡ false)
        → (q : Name) → is_among us q ≡ true → is_lt (name_cmp q c) ≡ false
    low_in_both c one two q h = split (is_among xs q) refl (is_among ys q) refl (sym (are q) ∙ h)
      where
        split : (a : Bool) → is_among xs q ≡ a → (b : Bool) → is_among ys q ≡ b → (a || b) ≡ true → is_lt (name_cmp q c) ≡ false
        split true i b j k = one q i
        split false i true j k = two q j
        split false i false j k = absurd (cc)

    in_one : (c : Name) → is_among xs c ≡ true → is_among us c ≡ true
    in_one c i = are c ∙ ap (λ b. b || is_among ys c) i

    in_two : (c : Name) → is_among ys c ≡ true → is_among us c ≡ true
    in_two c i = are c ∙ ap (λ b. is_among xs c || b) i ∙ always (is_among xs c)
      where
        always : (b : Bool) → (b || true) ≡ true
        always true = refl
        always false = refl

    none_in : (zs : List Name) → slice_get zs 0 ≡ None → (q : Name) → is_among zs q ≡ false
    none_in zs e q = ap (λ l. is_among l q) (none_first zs e)

    choose : (a b : Name) → IsLeast xs a → IsLeast ys b → (s : Bool) → is_lt (name_cmp b a) ≡ s → IsLeast us (cond s b a)
    choose a b one two true e = record {
      there = in_two b two.there;
      low = low_in_both b (λ q i. not_less_still q b a (one.low q i) (not_less b a (subst T (sym e) tt))) two.low;
    }
    choose a b one two false e = record {
      there = in_one a one.there;
      low = low_in_both a one.low (λ q i. not_less_still q a b (two.low q i) e);
    }

    by : (o : Option Name) → slice_get xs 0 ≡ o → (p : Option Name) → slice_get ys 0 ≡ p → lower o p ≡ least us
    by None e None f = sym (no_least us (λ q. are q ∙ ap (λ b. b || is_among ys q) (none_in xs e q) ∙ none_in ys f q))
    by None e (Some b) f =
        let two = first_least ys rise' b f in
        sym (least_is us b (record { there = in_two b two.there; low = low_in_both b (λ q i. absurd (cc (i, none_in xs e q))) two.low }))
    by (Some a) e None f =
        let one = first_least xs rise a e in
        sym (least_is us a (record { there = in_one a one.there; low = low_in_both a one.low (λ q i. absurd (cc (i, none_in ys f q))) }))
    by (Some a) e (Some b) f = sym (least_is us (ord_min name_cmp a b) (choose a b (first_least xs rise a e) (first_least ys rise' b f) (is_lt (name_cmp b a)) refl))

find_first : (p : Name → Bool) (xs : List Name) → find p xs ≡ slice_get (filter p xs) 0
find_first p [] = refl
find_first p (x ∷ xs) = by (p x) (find_first p xs)
  where
    by : (b : Bool) → find p xs ≡ slice_get (filter p xs) 0 → cond b (Some x) (find p xs) ≡ slice_get (cond b (x ∷ filter p xs) (filter p xs)) 0
    by true i = refl
    by false i = i

module _ {A : Type 0} (m : Rows A) (w : List Name) (here : Rows A) (e : Name) (g : AreInOrder m) (h : AreInOrder here) (inside : AreInside w here) where
  pub first_user_is : (stored own : Option Name) → stored ≡ find (λ x. not (is_among w x)) (users m e) → own ≡ slice_get (users here e) 0
      → lower stored own ≡ least (users (drafted m w here) e)
  first_user_is stored own stored_is own_is =
      (λ i. lower ((stored_is ∙ find_first p (users m e)) i) (own_is i))
      ∙ both_firsts (filter p (users m e)) (users here e) (users (drafted m w here) e)
      (IsRising-filter p (users m e) (rising_names (λ r. refers_to r.1 e) m g)) (rising_names (λ r. refers_to r.1 e) here h) are
    where
      p : Name → Bool
      p x = not (is_among w x)

      are : (q : Name) → is_among (users (drafted m w here) e) q ≡ (is_among (filter p (users m e)) q || is_among (users here e) q)
      are q =
          ap (λ us. is_among us q) (sym (users-drafted m w here e g h inside))
          ∙ is_among-name_set q (flat_map (unwritten w) (users m e) ++ users here e)
          ∙ is_among-append q (flat_map (unwritten w) (users m e)) (users here e)
          ∙ ap (λ b. b || is_among (users here e) q) (among_unwritten w (users m e) q ∙ sym (is_among-passing p (users m e) q))
