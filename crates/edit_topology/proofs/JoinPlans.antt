-- Plans of joins: which rows change, and what they become.
use Rattle.std.proofs.Common.{◌≡◌, Bool, true, false, ◌||◌, List, ◌∷◌, Option, Some, None, Ok, refl, cond, sym, ap, ◌∙◌, option_map}
use Rattle.edit_topology.specs.Prelude.{Name, Element, Way, Rows, is_same, is_among, name_set, row_at, Pairs, is_among-name_set, same_either_way, same_names, is_eq-name_cmp_itself, refers_to, row_references, users, IsRising-name_set, Change, rows_changes, differences, is_sound, sound_in_order, first_that_holds, nodes_of, row_tags, with_members, IsPlan, rows_covering, way_there, passes_at, among_rows, both_tags, end_to_end, joined_members, join_checks, after_join, lengthened, join_row, row_at-each_but, Joins, joins, or_first, or_second, join_leaves}
use Rattle.edit_topology.specs.Inner.Joining.{way_of_both, row_joined}

module _ {A : Type 0} (m : Rows A) (w v : Name) (sound : is_sound m ≡ true) (ok : first_that_holds (join_checks m w v) ≡ None) where
  j : Joins m w v
  j = joins m w v sound ok

  abbrev n : Rows A
  n = after_join m w v

  -- ---- users

  user_refers : (y : Name) → is_among (users m v) y ≡ is_among (row_references (row_at m y)) v
  user_refers y = among_rows (λ r. refers_to r.1 v) m (sound_in_order m sound) y ∙ by (row_at m y)
    where
      by : (o : Option (Element A)) → passes_at (λ r. refers_to r.1 v) y o ≡ is_among (row_references o) v
      by None = refl
      by (Some u) = refl

  -- ---- what rows become

  own_row : (nodes : List Name) × (tags : Pairs) × (row_at m w ≡ Some (Way nodes tags))
  own_row = way_there m w sound j.way_w j.here_w

  after_w : row_at n w ≡ Some (way_of_both m w v)
  after_w =
      row_at-each_but m v (join_row m w v) w ∙ ap (λ b. option_map (join_row m w v w) (cond b None (row_at m w))) j.apart
      ∙ ap (option_map (join_row m w v w)) own_row.2 ∙ ap (λ b. Some (with_members (joined_members w v) (cond b (lengthened m v own) own))) (is_eq-name_cmp_itself w)
      ∙ ap (λ o. Some (way_with o)) (sym own_row.2)
    where
      own : Element A
      own = Way own_row.0 own_row.1

      way_with : Option (Element A) → Element A
      way_with o = Way (end_to_end (nodes_of o) (nodes_of (row_at m v))) (both_tags (row_tags o) (row_tags (row_at m v)))

  after_v : row_at n v ≡ None
  after_v = row_at-each_but m v (join_row m w v) v ∙ ap (λ b. option_map (join_row m w v v) (cond b None (row_at m v))) (is_eq-name_cmp_itself v)

  row_is : (y : Name) → row_joined m w v (way_of_both m w v) y ≡ row_at n y
  row_is y = by (is_same y w) refl (is_same y v) refl
    where
      left : (o : Option (Element A)) → is_same w y ≡ false → option_map (with_members (joined_members w v)) o ≡ option_map (join_row m w v y) o
      left None e = refl
      left (Some u) e = ap (λ b. Some (with_members (joined_members w v) (cond b (lengthened m v u) u))) (sym e)

      by : (s : Bool) → is_same y w ≡ s → (t : Bool) → is_same y v ≡ t → cond s (Some (way_of_both m w v)) (cond t None (option_map (with_members (joined_members w v)) (row_at m y))) ≡ row_at n y
      by true e t f = sym after_w ∙ ap (row_at n) (sym (same_names y w e))
      by false e true f = sym after_v ∙ ap (row_at n) (sym (same_names y v f))
      by false e false f =
          left (row_at m y) (same_either_way w y ∙ e)
          ∙ sym (row_at-each_but m v (join_row m w v) y ∙ ap (λ b. option_map (join_row m w v y) (cond b None (row_at m y))) f)

  -- ---- whose rows change

  abbrev changing : List Name
  changing = w ∷ v ∷ users m v

  stays : (y : Name) → is_among changing y ≡ false → row_at n y ≡ row_at m y
  stays y out =
      let rest : (is_same y v || is_among (users m v) y) ≡ false = or_second (is_same y w) (is_same y v || is_among (users m v) y) out in
      join_leaves m w v y (or_first (is_same y w) (is_same y v || is_among (users m v) y) out) (or_first (is_same y v) (is_among (users m v) y) rest)
      (sym (user_refers y) ∙ or_second (is_same y v) (is_among (users m v) y) rest)

  changes_are : rows_changes m (row_joined m w v (way_of_both m w v)) (name_set changing) ≡ differences m n
  changes_are = rows_covering m n (row_joined m w v (way_of_both m w v)) (name_set changing) (IsRising-name_set changing)
      (λ y out. stays y (sym (is_among-name_set y changing) ∙ out)) (λ y i. row_is y)

  -- ---- the plan, with the way and the names as they are found

  module _ (joined : Element A) (is_way_of : joined ≡ way_of_both m w v) (its names : List Name) (its_are : its ≡ users m v) (names_are : names ≡ name_set (w ∷ v ∷ its)) where
    names_changing : names ≡ name_set changing
    names_changing = names_are ∙ ap (λ l. name_set (w ∷ v ∷ l)) its_are

    pub join_planned : (cs : List (Change A)) → cs ≡ rows_changes m (row_joined m w v joined) names → IsPlan m (join_checks m w v) (after_join m w v) (Ok cs)
    join_planned cs is = (ok, is ∙ (λ i. rows_changes m (row_joined m w v (is_way_of i)) (names_changing i)) ∙ changes_are)
