-- The inverse of a table.
use Rattle.std.proofs.Common.{◌≡◌, ◌||◌, Bool, true, false, not, cond, T, List, [], ◌∷◌, map, Some, unwrap_or, refl, sym, ap, ◌∙◌, filter, flat_map}
use Rattle.osm_refs.specs.Prelude.{list_all, is_sorted, below_all, find, Name, name_cmp, both, first, second, find_below, same_names, is_eq-name_cmp_itself, is_among-name_set, is_among-append, is_same, is_among, name_set, Table, references_at, users_in, IsRising-name_set, same_rising, IsRising, bare_rows, has_none, is_sorted-filter, IsTable}
use Rattle.osm_refs.specs.Inner.Turned.{turned}

module _ {X : Type 0} where
  below_names : (x : Name) (rows : List (Name × X)) → T (below_all name_cmp x rows) → T (below_all name_cmp x (bare_rows (map (λ r. r.0) rows)))
  below_names x [] h = tt
  below_names x (r ∷ rows) h = both _ _ (first _ _ h) (below_names x rows (second _ _ h))

  IsRising-names : (rows : List (Name × X)) → T (is_sorted name_cmp rows) → IsRising (map (λ r. r.0) rows)
  IsRising-names [] h = tt
  IsRising-names (r ∷ rows) h = both _ _ (below_names r.0 rows (first _ _ h)) (IsRising-names rows (second _ _ h))

pub IsRising-users_in : (t : Table) (e : Name) → T (is_sorted name_cmp t) → IsRising (users_in t e)
IsRising-users_in t e h = IsRising-names (filter (λ r. is_among r.1 e) t) (is_sorted-filter name_cmp (λ r. is_among r.1 e) t h)

-- q is among the users of e if and only if e is among the references of q
pub among_users_in : (t : Table) (e q : Name) → T (is_sorted name_cmp t) → is_among (users_in t e) q ≡ is_among (references_at t q) e
among_users_in [] e q h = refl
among_users_in (r ∷ t) e q h = by (is_same q r.0) refl (is_among r.1 e) refl (among_users_in t e q (second _ _ h))
  where
    none : is_same q r.0 ≡ true → references_at t q ≡ []
    none f = ap (references_at t) (same_names q r.0 f) ∙ ap (λ o. unwrap_or o []) (find_below name_cmp r.0 t (first _ _ h))

    by : (b : Bool) → is_same q r.0 ≡ b → (a : Bool) → is_among r.1 e ≡ a → is_among (users_in t e) q ≡ is_among (references_at t q) e
        → is_among (map (λ s. s.0) (cond a (r ∷ filter (λ s. is_among s.1 e) t) (filter (λ s. is_among s.1 e) t))) q ≡ is_among (unwrap_or (cond b (Some r.1) (find name_cmp q t)) []) e
    by true f true g i = ap (λ c. c || is_among (users_in t e) q) f ∙ sym g
    by true f false g i = i ∙ ap (λ names. is_among names e) (none f) ∙ sym g
    by false f true g i = ap (λ c. c || is_among (users_in t e) q) f ∙ i
    by false f false g i = i

at_names : (f : Name → List Name) (names : List Name) (x : Name) → references_at (map (λ y. (y, f y)) names) x ≡ cond (is_among names x) (f x) []
at_names f [] x = refl
at_names f (y ∷ ys) x = by (is_same x y) refl (at_names f ys x)
  where
    by : (b : Bool) → is_same x y ≡ b → references_at (map (λ z. (z, f z)) ys) x ≡ cond (is_among ys x) (f x) []
        → unwrap_or (cond b (Some (f y)) (find name_cmp x (map (λ z. (z, f z)) ys))) [] ≡ cond (b || is_among ys x) (f x) []
    by true e i = ap f (sym (same_names x y e))
    by false e i = i

abbrev used : Table → List Name
used t = flat_map (λ r. r.1) t

none_used : (t : Table) (x : Name) → is_among (used t) x ≡ false → users_in t x ≡ []
none_used [] x e = refl
none_used (r ∷ t) x e = by (is_among r.1 x) (sym (is_among-append x r.1 (used t)) ∙ e) (none_used t x)
  where
    by : (b : Bool) → (b || is_among (used t) x) ≡ false → (is_among (used t) x ≡ false → users_in t x ≡ []) → map (λ s. s.0) (cond b (r ∷ filter (λ s. is_among s.1 x) t) (filter (λ s. is_among s.1 x) t)) ≡ []
    by true f i = absurd (cc)
    by false f i = i f

some_used : (t : Table) (x : Name) → is_among (used t) x ≡ true → T (not (has_none (users_in t x)))
some_used [] x e = absurd (cc)
some_used (r ∷ t) x e = by (is_among r.1 x) (sym (is_among-append x r.1 (used t)) ∙ e) (some_used t x)
  where
    by : (b : Bool) → (b || is_among (used t) x) ≡ true → (is_among (used t) x ≡ true → T (not (has_none (users_in t x)))) → T (not (has_none (map (λ s. s.0) (cond b (r ∷ filter (λ s. is_among s.1 x) t) (filter (λ s. is_among s.1 x) t)))))
    by true f i = tt
    by false f i = i f

pub references_at-turned : (t : Table) (x : Name) → references_at (turned t) x ≡ users_in t x
references_at-turned t x = at_names (users_in t) (name_set (used t)) x ∙ by (is_among (name_set (used t)) x) refl
  where
    by : (b : Bool) → is_among (name_set (used t)) x ≡ b → cond b (users_in t x) [] ≡ users_in t x
    by true e = refl
    by false e = sym (none_used t x (sym (is_among-name_set x (used t)) ∙ e))

below_map : (f : Name → List Name) (x : Name) (names : List Name) → T (below_all name_cmp x (bare_rows names)) → T (below_all name_cmp x (map (λ y. (y, f y)) names))
below_map f x [] h = tt
below_map f x (y ∷ ys) h = both _ _ (first _ _ h) (below_map f x ys (second _ _ h))

is_sorted-map : (f : Name → List Name) (names : List Name) → IsRising names → T (is_sorted name_cmp (map (λ y. (y, f y)) names))
is_sorted-map f [] h = tt
is_sorted-map f (y ∷ ys) h = both _ _ (below_map f y ys (first _ _ h)) (is_sorted-map f ys (second _ _ h))

or_true : (b : Bool) → (b || true) ≡ true
or_true true = refl
or_true false = refl

all_have : (f : Name → List Name) (names : List Name) → ((y : Name) → is_among names y ≡ true → T (not (has_none (f y)))) → T (list_all {X = Name × List Name} (λ r. not (has_none r.1)) (map (λ y. (y, f y)) names))
all_have f [] h = tt
all_have f (y ∷ ys) h =
    both _ _ (h y (ap (λ b. b || is_among ys y) (is_eq-name_cmp_itself y))) (all_have f ys (λ z e. h z (ap (λ b. is_same z y || b) e ∙ or_true (is_same z y))))

pub IsTable-turned : (t : Table) → IsTable (turned t)
IsTable-turned t = (
  is_sorted-map (users_in t) (name_set (used t)) (IsRising-name_set (used t)),
  all_have (users_in t) (name_set (used t)) (λ y e. some_used t y (sym (is_among-name_set y (used t)) ∙ e)),
)

-- the users in an inverse table are the references in the table
pub users_in-turned : (t : Table) (e : Name) → T (is_sorted name_cmp t) → IsRising (references_at t e) → users_in (turned t) e ≡ references_at t e
users_in-turned t e h rises =
    same_rising (users_in (turned t) e) (references_at t e) (IsRising-users_in (turned t) e (IsTable-turned t).0) rises
    (λ q. among_users_in (turned t) e q (IsTable-turned t).0 ∙ ap (λ names. is_among names e) (references_at-turned t q) ∙ among_users_in t q e h)
