-- Plans of splits: which rows change, and what they become.
use Rattle.std.proofs.Common.{◌≡◌, ◌+◌, ◌++◌, ℕ, min, Bool, true, false, not, ◌&&◌, ◌||◌, List, [], ◌∷◌, Option, Some, None, Ok, is_some, slice_get, length, take, nat_lt, refl, cond, sym, ap, ◌∙◌, arith, find, filter, option_map}
use Rattle.std.proofs.lemmas.Bool.Decides.{nat_tests}
use Rattle.std.proofs.lemmas.List.{length-take}
use Rattle.edit_topology.specs.Prelude.{then_some, Name, Element, Node, Way, Relation, is_node, Rows, is_same, is_among, is_present, name_set, names_of, least, AreInOrder, row_at, is_among-name_set, same_either_way, same_names, is_eq-name_cmp_itself, second_true, refers_to, row_references, users, IsRising-name_set, is_among-passing, Change, rows_changes, differences, is_sound, most_members, sound_in_order, Refusal, Absent, Present, WrongKind, BadPosition, TooMany, first_that_holds, the_least, passed, is_way, nodes_of, members_of, with_nodes, with_members, IsPlan, rest_decides, rows_covering, first_is_least, told_way, or_left, all_listed, passes_at, rising_names, among_rows, fine, is_inside, split_members, overfull, split_checks, after_split, split_row, split_off, way_fits, or_first, or_second, overfull_are_users, Splits, splits, row_at-after_split, split_leaves}
use Rattle.osm_refs.specs.Facts.RisingNames.{IsRising-filter, same_rising}
use Rattle.edit_topology.specs.Inner.Splitting.{split_length, is_overfull, split_element, row_split, row_of_split}
use Rattle.edit_topology.proofs.SplitLoops.{find_is_first, length_split}

-- ---- tests

and_turned : (a b : Bool) → (a && b) ≡ (b && a)
and_turned true true = refl
and_turned true false = refl
and_turned false true = refl
and_turned false false = refl

-- the part up to an inner position differs from the list
shorter : (i n t : ℕ) → t ≡ min (i + 1) n → nat_lt (i + 1) n ≡ true → t ≡ n → ⊥
shorter i n t a b c = grind (arith, nat_tests)

cut_short : (i : ℕ) (nodes : List Name) → is_inside i nodes ≡ true → length (take (i + 1) nodes) ≡ length nodes → ⊥
cut_short i nodes h e = shorter i (length nodes) (length (take (i + 1) nodes)) (length-take (i + 1) nodes) (second_true (nat_lt 0 i) (nat_lt (i + 1) (length nodes)) h) e

pub passed_ok : {X : Type 0} (u : Unit {0}) (o : Option X) → Ok u ≡ passed o → o ≡ None
passed_ok u None e = refl
passed_ok u (Some x) e = absurd (cc)

module _ {A : Type 0} where
  no_row : (o : Option (Element A)) → is_some o ≡ false → o ≡ None
  no_row None e = refl
  no_row (Some u) e = absurd (cc)

  -- ---- the relation that a split is refused for

  module _ (m : Rows A) (w v : Name) (sound : is_sound m ≡ true) where
    in_order : AreInOrder m
    in_order = sound_in_order m sound

    among_overfull : (y : Name) → is_among (names_of (filter (λ r. refers_to r.1 w && nat_lt most_members (length (split_members w v (members_of (Some r.1))))) m)) y ≡ is_among (filter (is_overfull m w) (users m w)) y
    among_overfull y =
        among_rows (λ r. refers_to r.1 w && nat_lt most_members (length (split_members w v (members_of (Some r.1))))) m in_order y ∙ by (row_at m y)
        ∙ ap (λ b. is_overfull m w y && b) (sym (among_rows (λ r. refers_to r.1 w) m in_order y)) ∙ sym (is_among-passing (is_overfull m w) (users m w) y)
      where
        by : (o : Option (Element A)) → passes_at (λ r. refers_to r.1 w && nat_lt most_members (length (split_members w v (members_of (Some r.1))))) y o
            ≡ (nat_lt most_members (split_length w (members_of o)) && passes_at (λ r. refers_to r.1 w) y o)
        by None = refl
        by (Some u) =
            and_turned (refers_to u w) (nat_lt most_members (length (split_members w v (members_of (Some u)))))
            ∙ ap (λ l. nat_lt most_members l && refers_to u w) (length_split w v (members_of (Some u)))

    overfull_is : overfull m w v ≡ filter (is_overfull m w) (users m w)
    overfull_is =
        overfull_are_users m w v sound
        ∙ same_rising (names_of (filter (λ r. refers_to r.1 w && nat_lt most_members (length (split_members w v (members_of (Some r.1))))) m)) (filter (is_overfull m w) (users m w))
        (rising_names (λ r. refers_to r.1 w && nat_lt most_members (length (split_members w v (members_of (Some r.1))))) m in_order)
        (IsRising-filter (is_overfull m w) (users m w) (rising_names (λ r. refers_to r.1 w) m in_order)) among_overfull

    -- the first user that gets too long is the least such relation
    pub first_overfull_is : (its : List Name) → its ≡ users m w → find (is_overfull m w) its ≡ least (overfull m w v)
    first_overfull_is its e =
        ap (find (is_overfull m w)) e ∙ find_is_first (is_overfull m w) (users m w) ∙ ap (λ l. slice_get l 0) (sym overfull_is)
        ∙ first_is_least (λ r. nat_lt most_members (length (split_members w v (members_of (Some r.1))))) m in_order

  -- ---- the first checks, which need only the names and the way

  pub none_early : (m : Rows A) (w : Name) (i : ℕ) (v : Name) (way : Element A) → is_way w.kind ≡ true → is_way v.kind ≡ true → row_at m w ≡ Some way → is_present m v ≡ false → is_inside i (nodes_of (Some way)) ≡ true
      → Ok tt ≡ passed (first_that_holds (take 5 (split_checks m w i v)))
  none_early m w i v way way_w way_v row new inside =
      λ j. passed (first_that_holds {X = Refusal A} (
      then_some (not (sym way_w j)) (WrongKind w)
      ∷ then_some (not (sym way_v j)) (WrongKind v)
      ∷ then_some (not (is_some (sym row j))) (Absent w)
      ∷ then_some (sym new j) (Present v)
      ∷ then_some (not (sym (ap (λ o. is_inside i (nodes_of o)) row ∙ inside) j)) BadPosition
      ∷ []))

  -- ---- the last check, if no other holds

  module _ (m : Rows A) (w : Name) (i : ℕ) (v : Name) (its : List Name) (sound : is_sound m ≡ true) (its_are : its ≡ users m w) (early : first_that_holds (take 5 (split_checks m w i v)) ≡ None) where
    abbrev last_check : Option Name → Option (Refusal A)
    last_check o = first_that_holds (option_map TooMany o ∷ [])

    last_left : first_that_holds (split_checks m w i v) ≡ last_check (find (is_overfull m w) its)
    last_left = rest_decides (take 5 (split_checks m w i v)) (the_least TooMany (overfull m w v) ∷ []) early ∙ ap last_check (sym (first_overfull_is m w v sound its its_are))

    pub relation_told : (relation : Name) → Some relation ≡ find (is_overfull m w) its → first_that_holds (split_checks m w i v) ≡ Some (TooMany relation)
    relation_told relation found = last_left ∙ ap last_check (sym found)

    pub nothing_told : None ≡ find (is_overfull m w) its → first_that_holds (split_checks m w i v) ≡ None
    nothing_told found = last_left ∙ ap last_check (sym found)

  -- ---- an accepted split

  module _ (m : Rows A) (w : Name) (i : ℕ) (v : Name) (sound : is_sound m ≡ true) (ok : first_that_holds (split_checks m w i v) ≡ None) where
    s : Splits m w i v
    s = splits m w i v sound ok

    abbrev changing : List Name
    changing = w ∷ v ∷ users m w

    named : (y : Name) → is_among (users m w) y ≡ is_among (row_references (row_at m y)) w
    named y = among_rows (λ r. refers_to r.1 w) m (sound_in_order m sound) y ∙ by (row_at m y)
      where
        by : (o : Option (Element A)) → passes_at (λ r. refers_to r.1 w) y o ≡ is_among (row_references o) w
        by None = refl
        by (Some u) = refl

    no_node : is_node w.kind ≡ true → ⊥
    no_node h = cc (sym h ∙ ap is_node (told_way w.kind s.way_w))

    -- ---- what rows become

    fresh : row_at m v ≡ None
    fresh = no_row (row_at m v) s.fresh

    new_row : row_at (after_split m w i v) v ≡ Some (row_split m w i v (row_at m v))
    new_row =
        row_at-after_split m w i v v ∙ ap (λ b. cond b (Some (split_off m w i)) (option_map (split_row w i v v) (row_at m v))) (is_eq-name_cmp_itself v)
        ∙ ap (λ o. Some (row_split m w i v o)) (sym fresh)

    -- the row of w, and a row that names w
    becomes : (y : Name) (u : Element A) → row_at m y ≡ Some u → (is_same w y || refers_to u w) ≡ true → split_row w i v y u ≡ split_element w i v u
    becomes y (Node lat lon tags) is h = by (is_same w y)
      where
        by : (b : Bool) → with_members {A = A} (split_members w v) (cond b (with_nodes {A = A} (take (i + 1)) (Node lat lon tags)) (Node lat lon tags)) ≡ Node lat lon tags
        by true = refl
        by false = refl
    becomes y (Way nodes tags) is h = by (is_same w y) h
      where
        by : (b : Bool) → (b || is_among nodes w) ≡ true → with_members {A = A} (split_members w v) (cond b (with_nodes {A = A} (take (i + 1)) (Way nodes tags)) (Way nodes tags)) ≡ Way (take (i + 1) nodes) tags
        by true g = refl
        by false g = absurd (no_node (all_listed (λ n. is_node n.kind) nodes w (way_fits m y nodes tags (fine m sound y (Way nodes tags) is)).made g))
    becomes y (Relation members tags) is h = by (is_same w y)
      where
        by : (b : Bool) → with_members {A = A} (split_members w v) (cond b (with_nodes {A = A} (take (i + 1)) (Relation members tags)) (Relation members tags)) ≡ Relation (split_members w v members) tags
        by true = refl
        by false = refl

    kept : (y : Name) (u : Element A) → row_at m y ≡ Some u → is_same y v ≡ false → (is_same w y || refers_to u w) ≡ true → row_at (after_split m w i v) y ≡ Some (row_split m w i v (row_at m y))
    kept y u is e h =
        row_at-after_split m w i v y ∙ ap (λ b. cond b (Some (split_off m w i)) (option_map (split_row w i v y) (row_at m y))) e
        ∙ ap (option_map (split_row w i v y)) is ∙ ap Some (becomes y u is h) ∙ ap (λ o. Some (row_split m w i v o)) (sym is)

    user_kept : (y : Name) (o : Option (Element A)) → row_at m y ≡ o → is_same y v ≡ false → is_among (row_references o) w ≡ true → row_at (after_split m w i v) y ≡ Some (row_split m w i v (row_at m y))
    user_kept y None is e h = absurd (cc)
    user_kept y (Some u) is e h = kept y u is e (by (is_same w y))
      where
        by : (b : Bool) → (b || refers_to u w) ≡ true
        by true = refl
        by false = h

    way_at : (y : Name) → is_same y w ≡ true → row_at m y ≡ Some (Way s.nodes s.tags)
    way_at y f = ap (row_at m) (same_names y w f) ∙ s.row

    changing_row : (y : Name) → is_among changing y ≡ true → row_at (after_split m w i v) y ≡ Some (row_split m w i v (row_at m y))
    changing_row y t = by (is_same y v) refl (is_same y w) refl t
      where
        by : (b : Bool) → is_same y v ≡ b → (c : Bool) → is_same y w ≡ c → (c || (b || is_among (users m w) y)) ≡ true → row_at (after_split m w i v) y ≡ Some (row_split m w i v (row_at m y))
        by true e c f g = ap (row_at (after_split m w i v)) (same_names y v e) ∙ new_row ∙ ap (λ z. Some (row_split m w i v (row_at m z))) (sym (same_names y v e))
        by false e true f g = kept y (Way s.nodes s.tags) (way_at y f) e (or_left (is_same w y) (is_among s.nodes w) (same_either_way w y ∙ f))
        by false e false f g = user_kept y (row_at m y) refl e (sym (named y) ∙ g)

    -- ---- no other row changes

    stays : (y : Name) → is_among changing y ≡ false → row_at (after_split m w i v) y ≡ row_at m y
    stays y out =
        let others = or_second (is_same y w) (is_same y v || is_among (users m w) y) out in
        split_leaves m w i v y (or_first (is_same y w) (is_same y v || is_among (users m w) y) out) (or_first (is_same y v) (is_among (users m w) y) others)
        (sym (named y) ∙ or_second (is_same y v) (is_among (users m w) y) others)

    in_changing : (y : Name) → is_among (name_set changing) y ≡ true → is_among changing y ≡ true
    in_changing y j = sym (is_among-name_set y changing) ∙ j

    changes_are : rows_changes m (row_of_split m w i v) (name_set changing) ≡ differences m (after_split m w i v)
    changes_are =
        rows_covering m (after_split m w i v) (row_of_split m w i v) (name_set changing) (IsRising-name_set changing)
        (λ y out. stays y (sym (is_among-name_set y changing) ∙ out)) (λ y j. sym (changing_row y (in_changing y j)))

    -- ---- the plan, with the names as they are found

    module _ (subjects its names : List Name) (subjects_are : subjects ≡ w ∷ v ∷ []) (its_are : its ≡ users m w) (names_are : names ≡ name_set (subjects ++ its)) where
      names_changing : names ≡ name_set changing
      names_changing = names_are ∙ (λ j. name_set (subjects_are j ++ its_are j))

      pub split_planned : (cs : List (Change A)) → cs ≡ rows_changes m (row_of_split m w i v) names → IsPlan m (split_checks m w i v) (after_split m w i v) (Ok cs)
      split_planned cs is = (ok, is ∙ ap (rows_changes m (row_of_split m w i v)) names_changing ∙ changes_are)
