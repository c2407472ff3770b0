-- The plan of a purge: which rows change, and how.
use Rattle.std.proofs.Common.{◌≡◌, ℕ, Bool, true, false, not, ◌&&◌, ◌||◌, List, [], ◌∷◌, Option, Some, None, Ok, length, map, nat_lt, refl, cond, sym, ap, ◌∙◌, filter, flat_map, option_map}
use Rattle.edit_simple.specs.Prelude.{then_some, Name, Element, Node, Way, Relation, Rows, is_same, is_among, is_present, name_set, row_at, is_among-name_set, is_among-append, same_either_way, same_names, first_true, refers_to, users, users_in, table_of, users_in-table_of, IsRising-name_set, is_among-passing, Change, rows_changes, differences, is_sound, sound_in_order, Absent, first_that_holds, nodes_of, with_nodes, with_members, IsPlan, without, falls_short, goes, what_is_left, purge_checks, after_purge, rows_covering, or_left, or_right, is_among_own, row_at-after_purge, x_goes, without_none, passes_at, among_rows}
use Rattle.osm_refs.specs.Tables.{Table}
use Rattle.edit_simple.specs.Inner.Purging.{all_gone, all_reached, purged_row}

-- ---- lists of lists

to_flat_map : (f : Name → List Name) (xs : List Name) (u y : Name) → is_among xs u ≡ true → is_among (f u) y ≡ true → is_among (flat_map f xs) y ≡ true
to_flat_map f [] u y i j = absurd (cc)
to_flat_map f (x ∷ xs) u y i j = is_among-append y (f x) (flat_map f xs) ∙ by (is_same u x) refl i (to_flat_map f xs u y)
  where
    by : (b : Bool) → is_same u x ≡ b → (b || is_among xs u) ≡ true → (is_among xs u ≡ true → is_among (f u) y ≡ true → is_among (flat_map f xs) y ≡ true)
        → (is_among (f x) y || is_among (flat_map f xs) y) ≡ true
    by true s k rest = or_left (is_among (f x) y) (is_among (flat_map f xs) y) (ap (λ z. is_among (f z) y) (sym (same_names u x s)) ∙ j)
    by false s k rest = or_right (is_among (f x) y) (is_among (flat_map f xs) y) (rest k j)

-- if all names pass, a filter keeps all members
members_stay : (p : Name → Bool) (members : List (Name × List ℕ)) → ((e : Name) → is_among (map (λ r. r.0) members) e ≡ true → p e ≡ true) → filter (λ r. p r.0) members ≡ members
members_stay p [] h = refl
members_stay p (r ∷ members) h =
    ap (λ b. cond b (r ∷ filter (λ s. p s.0) members) (filter (λ s. p s.0) members)) (h r.0 (is_among_own r.0 (map (λ s. s.0) members)))
    ∙ ap (λ l. r ∷ l) (members_stay p members (λ e i. h e (or_right (is_same e r.0) (is_among (map (λ s. s.0) members) e) i)))

module _ {A : Type 0} (m : Rows A) (x : Name) (sound : is_sound m ≡ true) where
  -- ---- users

  among_users : (e y : Name) → is_among (users m e) y ≡ passes_at (λ r. refers_to r.1 e) y (row_at m y)
  among_users e y = among_rows (λ r. refers_to r.1 e) m (sound_in_order m sound) y

  -- a way that would be too short is a user
  short_is_user : (e : Name) → falls_short x (nodes_of (row_at m e)) ≡ true → is_among (users m x) e ≡ true
  short_is_user e short = among_users x e ∙ by (row_at m e) short
    where
      by : (o : Option (Element A)) → falls_short x (nodes_of o) ≡ true → passes_at (λ r. refers_to r.1 x) e o ≡ true
      by None h = absurd (cc)
      by (Some (Node lat lon tags)) h = absurd (cc)
      by (Some (Way nodes tags)) h = first_true (is_among nodes x) (nat_lt (length (without x nodes)) 2) h
      by (Some (Relation members tags)) h = absurd (cc)

  -- ---- the removed names

  abbrev gone : List Name
  gone = name_set (all_gone m (users m x) x)

  gone_is : (e : Name) → is_among gone e ≡ goes m x e
  gone_is e =
      is_among-name_set e (all_gone m (users m x) x) ∙ (λ i. same_either_way e x i || is_among-passing (λ u. falls_short x (nodes_of (row_at m u))) (users m x) e i)
      ∙ ap (λ b. is_same x e || b) (by (falls_short x (nodes_of (row_at m e))) refl)
    where
      by : (b : Bool) → falls_short x (nodes_of (row_at m e)) ≡ b → (b && is_among (users m x) e) ≡ b
      by true h = short_is_user e h
      by false h = refl

  row_is : (y : Name) → purged_row m gone x y ≡ row_at (after_purge m x) y
  row_is y =
      (λ i. cond (gone_is y i) None (option_map (λ v. with_nodes (without x) (with_members (filter (λ r. not (gone_is r.0 i))) v)) (row_at m y))) ∙ sym (row_at-after_purge m x y)

  -- ---- the reached names, whose rows change

  abbrev met : Name → List Name
  met u = u ∷ cond (goes m x u) (users m u) []

  abbrev reached : List Name
  reached = x ∷ flat_map met (users m x)

  reached_is : all_reached (table_of m) gone x ≡ reached
  reached_is = λ i. x ∷ flat_map (λ u. u ∷ cond (gone_is u i) (users_in-table_of m u i) []) (users_in-table_of m x i)

  -- the users of removed names are reached
  reaches : (e y : Name) → goes m x e ≡ true → is_among (users m e) y ≡ true → is_among reached y ≡ true
  reaches e y g uses = or_right (is_same y x) (is_among (flat_map met (users m x)) y) (by (is_same x e) refl g)
    where
      by : (b : Bool) → is_same x e ≡ b → (b || falls_short x (nodes_of (row_at m e))) ≡ true → is_among (flat_map met (users m x)) y ≡ true
      by true s h =
          to_flat_map met (users m x) y y (ap (λ z. is_among (users m z) y) (same_names x e s) ∙ uses) (is_among_own y (cond (goes m x y) (users m y) []))
      by false s h =
          to_flat_map met (users m x) e y (short_is_user e h)
          (or_right (is_same y e) (is_among (cond (goes m x e) (users m e) []) y) (ap (λ b. is_among (cond b (users m e) []) y) g ∙ uses))

  -- removed names are reached
  gone_reached : (y : Name) → goes m x y ≡ true → is_among reached y ≡ true
  gone_reached y g = by (is_same x y) refl g
    where
      by : (b : Bool) → is_same x y ≡ b → (b || falls_short x (nodes_of (row_at m y))) ≡ true → is_among reached y ≡ true
      by true s h = or_left (is_same y x) (is_among (flat_map met (users m x)) y) (same_either_way y x ∙ s)
      by false s h = reaches x y (x_goes m x) (short_is_user y h)

  -- ---- all other rows stay

  module _ (y : Name) (out : is_among reached y ≡ false) where
    refers_to_none : (v : Element A) → row_at m y ≡ Some v → (e : Name) → goes m x e ≡ true → refers_to v e ≡ false
    refers_to_none v is e g = by (refers_to v e) refl
      where
        by : (b : Bool) → refers_to v e ≡ b → b ≡ false
        by true r = absurd (cc (sym out ∙ reaches e y g (among_users e y ∙ ap (passes_at (λ r. refers_to r.1 e) y) is ∙ r)))
        by false r = refl

    not_gone : goes m x y ≡ false
    not_gone = by (goes m x y) refl
      where
        by : (b : Bool) → goes m x y ≡ b → b ≡ false
        by true g = absurd (cc (sym out ∙ gone_reached y g))
        by false g = refl

    same_element : (v : Element A) → row_at m y ≡ Some v → what_is_left m x v ≡ v
    same_element (Node lat lon tags) is = refl
    same_element (Way nodes tags) is = ap (λ l. Way l tags) (without_none x nodes (refers_to_none (Way nodes tags) is x (x_goes m x)))
    same_element (Relation members tags) is = ap (λ l. Relation l tags) (members_stay (λ e. not (goes m x e)) members (λ e i. by e i (goes m x e) refl))
      where
        by : (e : Name) → is_among (map (λ r. r.0) members) e ≡ true → (b : Bool) → goes m x e ≡ b → not b ≡ true
        by e i true g = absurd (cc (sym i ∙ refers_to_none (Relation members tags) is e g))
        by e i false g = refl

    stays : row_at (after_purge m x) y ≡ row_at m y
    stays = row_at-after_purge m x y ∙ ap (λ b. cond b None (option_map (what_is_left m x) (row_at m y))) not_gone ∙ by (row_at m y) refl
      where
        by : (o : Option (Element A)) → row_at m y ≡ o → option_map (what_is_left m x) o ≡ o
        by None is = refl
        by (Some v) is = ap Some (same_element v is)

  -- ---- the plan

  module _ (here : is_present m x ≡ true) where
    changes_are : rows_changes m (purged_row m gone x) (name_set reached) ≡ differences m (after_purge m x)
    changes_are = rows_covering m (after_purge m x) (purged_row m gone x) (name_set reached) (IsRising-name_set reached)
        (λ y out. stays y (sym (is_among-name_set y reached) ∙ out)) (λ y i. row_is y)

    -- with the names that the code finds
    module _ (known : Table) (known_is : known ≡ table_of m) (its keys names : List Name) (its_are : its ≡ users_in known x) (keys_are : keys ≡ name_set (all_gone m its x))
        (names_are : names ≡ name_set (all_reached known keys x)) where
      keys_gone : keys ≡ gone
      keys_gone = keys_are ∙ ap (λ l. name_set (all_gone m l x)) (its_are ∙ ap (λ (t : Table). users_in t x) known_is ∙ users_in-table_of m x)

      names_reached : names ≡ name_set reached
      names_reached = names_are ∙ (λ i. name_set (all_reached (known_is i) (keys_gone i) x)) ∙ ap name_set reached_is

      pub purge_planned : (cs : List (Change A)) → cs ≡ rows_changes m (purged_row m keys x) names → IsPlan m (purge_checks m x) (after_purge m x) (Ok cs)
      purge_planned cs is =
          (ap (λ b. first_that_holds (then_some (not b) (Absent x) ∷ [])) here, is ∙ (λ i. rows_changes m (purged_row m (keys_gone i) x) (names_reached i)) ∙ changes_are)
