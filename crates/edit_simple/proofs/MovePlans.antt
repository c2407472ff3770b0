-- Plans of moves.
use Rattle.std.proofs.Common.{◌≡◌, ◌+ℤ◌, ℤ, pos, Bool, true, false, not, ◌&&◌, ◌||◌, List, [], ◌∷◌, Option, Some, None, Result, Ok, Err, is_some, length, nat_eq, refl, cond, inl, inr, arith, sym, ap, ◌∙◌, filter, option_map, int_eq, int_cmp}
use Rattle.std.proofs.Math.IntN.{+ℤ_idr}
use Rattle.std.proofs.lemmas.Bool.Decides.{nat_tests}
use Rattle.edit_simple.specs.Prelude.{then_some, int_cmp-IsAntisymmetric, list_any, list_all, latitude, longitude, Name, Element, Node, Way, Relation, is_node, are_nodes, Rows, is_same, is_among, is_present, is_absent, least, name_set, row_at, are_tags, is_among-name_set, is_among-append, same, same_names, first_true, second_true, IsRising-name_set, is_among-passing, Change, rows_changes, differences, is_sound, sound_in_order, Refusal, Absent, WrongKind, OutOfRange, Nothing, first_that_holds, the_least, is_relation, is_moved, moved_by, is_out_of_range, left_range, move_checks, after_move, moves, nodes_of, IsPlan, rows_covering, row_at-each_row, sound_kind, node_there, is_among_own, all_listed, all_from, all_present, fine, passes_at, among_rows, rising_names}
use Rattle.osm_refs.specs.Facts.RisingNames.{same_rising, IsRising-filter}
use Rattle.edit_simple.specs.Inner.Moving.{moved_with, all_moved, row_leaves, moved_row}
use Rattle.edit_simple.specs.Inner.Moves.{is_node_row, MayMove, leaving, IsMoved}

apart : (a s t u v : Bool) → (a && ((s || u) || (t || v))) ≡ ((a && (s || t)) || (a && (u || v)))
apart false s t u v = refl
apart true true t u v = refl
apart true false true true v = refl
apart true false true false v = refl
apart true false false true v = refl
apart true false false false v = refl

module _ {A : Type 0} (m : Rows A) (sound : is_sound m ≡ true) where
  -- the nodes that one listed name moves
  pub one_moved : (w n : Name) (o : Option (Element A)) → row_at m w ≡ o → is_some o ≡ true → (is_node n.kind && (is_same n w || is_among (nodes_of o) n)) ≡ is_among (moved_with w o) n
  one_moved w n None e here = absurd (cc)
  one_moved w n (Some (Node lat lon tags)) e here = by (is_same n w) refl
    where
      by : (s : Bool) → is_same n w ≡ s → (is_node n.kind && (s || false)) ≡ (s || false)
      by true t = ap (λ b. b && true) (ap (λ z. is_node z.kind) (same_names n w t) ∙ ap is_node (sym (sound_kind m sound w (Node lat lon tags) e)))
      by false t = none (is_node n.kind)
        where
          none : (b : Bool) → (b && false) ≡ false
          none true = refl
          none false = refl
  one_moved w n (Some (Way nodes tags)) e here = by (is_among nodes n) refl (is_same n w) refl
    where
      by : (i : Bool) → is_among nodes n ≡ i → (s : Bool) → is_same n w ≡ s → (is_node n.kind && (s || i)) ≡ i
      by true i s t = ap (λ b. b && (s || true)) (all_listed (λ z. is_node z.kind) nodes n (first_true (are_nodes nodes) (are_tags tags) (fine m sound w (Way nodes tags) e).made) i) ∙ last s
        where
          last : (b : Bool) → (b || true) ≡ true
          last true = refl
          last false = refl
      by false i true t = ap (λ b. b && true) (ap (λ z. is_node z.kind) (same_names n w t) ∙ ap is_node (sym (sound_kind m sound w (Way nodes tags) e)))
      by false i false t = none (is_node n.kind)
        where
          none : (b : Bool) → (b && false) ≡ false
          none true = refl
          none false = refl
  one_moved w n (Some (Relation members tags)) e here = by (is_same n w) refl
    where
      by : (s : Bool) → is_same n w ≡ s → (is_node n.kind && (s || false)) ≡ false
      by true t = ap (λ b. b && true) (ap (λ z. is_node z.kind) (same_names n w t) ∙ ap is_node (sym (sound_kind m sound w (Relation members tags) e)))
      by false t = none (is_node n.kind)
        where
          none : (b : Bool) → (b && false) ≡ false
          none true = refl
          none false = refl

  -- the list of moved nodes contains exactly the nodes that move
  pub moved_are : (list : List Name) → list_all (is_present m) list ≡ true → (n : Name) → is_among (all_moved m list) n ≡ is_moved m list n
  moved_are [] here n = none (is_node n.kind)
    where
      none : (b : Bool) → false ≡ (b && false)
      none true = refl
      none false = refl
  moved_are (w ∷ ws) here n =
      is_among-append n (moved_with w (row_at m w)) (all_moved m ws)
      ∙ (λ i. sym (one_moved w n (row_at m w) refl (first_true (is_present m w) (list_all (is_present m) ws) here)) i || moved_are ws (second_true (is_present m w) (list_all (is_present m) ws) here) n i)
      ∙ sym (apart (is_node n.kind) (is_same n w) (is_among (nodes_of (row_at m w)) n) (is_among ws n) (list_any (λ z. is_among (nodes_of (row_at m z)) n) ws))

  -- the map has each name in the list of moved nodes
  there : (list : List Name) → list_all (is_present m) list ≡ true → (n : Name) → is_among (all_moved m list) n ≡ true → is_present m n ≡ true
  there [] here n i = absurd (cc)
  there (w ∷ ws) here n i =
      by (is_among (moved_with w (row_at m w)) n) refl (sym (is_among-append n (moved_with w (row_at m w)) (all_moved m ws)) ∙ i) (there ws (second_true (is_present m w) (list_all (is_present m) ws) here) n)
    where
      own : (o : Option (Element A)) → row_at m w ≡ o → is_among (moved_with w o) n ≡ true → is_present m n ≡ true
      own None e j = absurd (cc)
      own (Some (Node lat lon tags)) e j = from (is_same n w) refl j
        where
          from : (s : Bool) → is_same n w ≡ s → (s || false) ≡ true → is_present m n ≡ true
          from true t k = ap (is_present m) (same_names n w t) ∙ ap is_some e
          from false t k = absurd (cc)
      own (Some (Way nodes tags)) e j = (fine m sound w (Way nodes tags) e).refs n j
      own (Some (Relation members tags)) e j = absurd (cc)

      by : (b : Bool) → is_among (moved_with w (row_at m w)) n ≡ b → (b || is_among (all_moved m ws) n) ≡ true → (is_among (all_moved m ws) n ≡ true → is_present m n ≡ true) → is_present m n ≡ true
      by true e j rest = own (row_at m w) refl e
      by false e j rest = rest j

  module _ (list : List Name) (here : list_all (is_present m) list ≡ true) (dlat dlon : ℤ) where
    among_set : (n : Name) → is_among (name_set (all_moved m list)) n ≡ is_moved m list n
    among_set n = is_among-name_set n (all_moved m list) ∙ moved_are list here n

    node_row : (n : Name) → is_among (name_set (all_moved m list)) n ≡ true → is_node_row (row_at m n) ≡ true
    node_row n i =
        let node = node_there m n sound (first_true (is_node n.kind) (is_among list n || list_any (λ w. is_among (nodes_of (row_at m w)) n) list) (sym (among_set n) ∙ i)) (there list here n (sym (is_among-name_set n (all_moved m list)) ∙ i)) in
        ap is_node_row node.3

    pub may_move : (int_eq dlat (pos 0) && int_eq dlon (pos 0)) ≡ false → MayMove m (name_set (all_moved m list)) dlat dlon
    may_move far = record { rising = IsRising-name_set (all_moved m list); there = all_from (λ y. is_node_row (row_at m y)) (name_set (all_moved m list)) node_row; distance = far }

    -- ---- the nodes that leave the range

    lefts : left_range m list dlat dlon ≡ leaving m dlat dlon (name_set (all_moved m list))
    lefts =
        same_rising (left_range m list dlat dlon) (leaving m dlat dlon (name_set (all_moved m list))) (rising_names (λ r. is_moved m list r.0 && is_out_of_range (moved_by dlat dlon r.1)) m (sound_in_order m sound))
        (IsRising-filter (λ y. row_leaves dlat dlon (row_at m y)) (name_set (all_moved m list)) (IsRising-name_set (all_moved m list)))
        (λ y. among_rows (λ r. is_moved m list r.0 && is_out_of_range (moved_by dlat dlon r.1)) m (sound_in_order m sound) y ∙ by y (row_at m y)
        ∙ ap (λ b. row_leaves dlat dlon (row_at m y) && b) (sym (among_set y)) ∙ sym (is_among-passing (λ z. row_leaves dlat dlon (row_at m z)) (name_set (all_moved m list)) y))
      where
        swap : (a b : Bool) → (a && b) ≡ (b && a)
        swap true true = refl
        swap true false = refl
        swap false true = refl
        swap false false = refl

        by : (y : Name) (o : Option (Element A)) → passes_at (λ r. is_moved m list r.0 && is_out_of_range (moved_by dlat dlon r.1)) y o ≡ (row_leaves dlat dlon o && is_moved m list y)
        by y None = refl
        by y (Some v) = swap (is_moved m list y) (is_out_of_range (moved_by dlat dlon v))

    -- ---- the changes

    module _ (far : (int_eq dlat (pos 0) && int_eq dlon (pos 0)) ≡ false) where
      row_after : (y : Name) (b : Bool) → is_moved m list y ≡ b → row_at (after_move m list dlat dlon) y ≡ option_map (λ v. cond b (moved_by dlat dlon v) v) (row_at m y)
      row_after y b e = row_at-each_row (moves m list dlat dlon) m y ∙ ap (λ c. option_map (λ v. cond c (moved_by dlat dlon v) v) (row_at m y)) e

      kept : (o : Option (Element A)) → option_map (λ v. v) o ≡ o
      kept None = refl
      kept (Some v) = refl

      changes_are : rows_changes m (moved_row m dlat dlon) (name_set (all_moved m list)) ≡ differences m (after_move m list dlat dlon)
      changes_are =
          rows_covering m (after_move m list dlat dlon) (moved_row m dlat dlon) (name_set (all_moved m list)) (IsRising-name_set (all_moved m list))
          (λ y out. row_after y false (sym (among_set y) ∙ out) ∙ kept (row_at m y)) (λ y i. sym (row_after y true (sym (among_set y) ∙ i)))

      pub move_planned : None ≡ least (filter (λ e. is_relation e.kind) list) → None ≡ least (filter (is_absent m) list) → nat_eq (length list) 0 ≡ false
          → (r : Result (List (Change A)) (Refusal A)) → IsMoved m (name_set (all_moved m list)) dlat dlon r → IsPlan m (move_checks m list dlat dlon) (after_move m list dlat dlon) r
      move_planned relations absents full r h = by r h
        where
          left : first_that_holds (move_checks m list dlat dlon) ≡ first_that_holds (option_map {T = Name} {U = Refusal A} OutOfRange (least (leaving m dlat dlon (name_set (all_moved m list)))) ∷ [])
          left =
              (λ i. first_that_holds (option_map WrongKind (sym relations i) ∷ option_map Absent (sym absents i) ∷ the_least OutOfRange (lefts i) ∷ then_some (full i || far i) Nothing ∷ []))
              ∙ last (option_map OutOfRange (least (leaving m dlat dlon (name_set (all_moved m list)))))
            where
              last : (o : Option (Refusal A)) → first_that_holds (o ∷ None ∷ []) ≡ first_that_holds (o ∷ [])
              last None = refl
              last (Some e) = refl

          by : (r : Result (List (Change A)) (Refusal A)) → IsMoved m (name_set (all_moved m list)) dlat dlon r → IsPlan m (move_checks m list dlat dlon) (after_move m list dlat dlon) r
          by (Ok cs) h = (left ∙ ap (λ l. first_that_holds (the_least {A = A} OutOfRange l ∷ [])) h.0, h.1 ∙ changes_are)
          by (Err e) (inl h) = inl (left ∙ ap (λ o. first_that_holds (option_map OutOfRange o ∷ [])) h.1 ∙ ap Some (sym h.2))
          by (Err e) (inr h) = inr h

none_among : (xs : List Name) → ((y : Name) → is_among xs y ≡ false) → xs ≡ []
none_among [] h = refl
none_among (x ∷ xs) h = absurd (cc (sym (is_among_own x xs) ∙ h x))

is_zero : (z : ℤ) → int_eq z (pos 0) ≡ true → z ≡ pos 0
is_zero z e = int_cmp-IsAntisymmetric z (pos 0) (same (int_cmp z (pos 0)) e)

module _ {A : Type 0} (m : Rows A) (sound : is_sound m ≡ true) (list : List Name) (dlat dlon : ℤ) where
  never : (a : Bool) → (a && false) ≡ false
  never true = refl
  never false = refl

  unlisted : (xs : List Name) → nat_eq (length xs) 0 ≡ true → (y : Name) → is_moved m xs y ≡ false
  unlisted [] e y = never (is_node y.kind)
  unlisted (x ∷ xs) e y = let h : length (x ∷ xs) ≡ 0 = grind (arith, nat_tests) in absurd (omega (arith, h))

  in_range : (y : Name) (v : Element A) → row_at m y ≡ Some v → dlat ≡ pos 0 → dlon ≡ pos 0 → is_out_of_range (moved_by dlat dlon v) ≡ false
  in_range y (Node lat lon tags) is a b =
      let made = (fine m sound y (Node lat lon tags) is).made in
      (λ i. not (is_some (latitude ((ap (λ d. lat +ℤ d) a ∙ +ℤ_idr lat) i)) && is_some (longitude ((ap (λ d. lon +ℤ d) b ∙ +ℤ_idr lon) i))))
      ∙ (λ i. not (first_true (is_some (latitude lat)) (is_some (longitude lon) && are_tags tags) made i && first_true (is_some (longitude lon)) (are_tags tags) (second_true (is_some (latitude lat)) (is_some (longitude lon) && are_tags tags) made) i))
  in_range y (Way nodes tags) is a b = refl
  in_range y (Relation members tags) is a b = refl

  none_leaves : (nat_eq (length list) 0 || (int_eq dlat (pos 0) && int_eq dlon (pos 0))) ≡ true → left_range m list dlat dlon ≡ []
  none_leaves h = none_among (left_range m list dlat dlon) (λ y. among_rows (λ r. is_moved m list r.0 && is_out_of_range (moved_by dlat dlon r.1)) m (sound_in_order m sound) y ∙ by y (row_at m y) refl (nat_eq (length list) 0) refl h)
    where
      by : (y : Name) (o : Option (Element A)) → row_at m y ≡ o → (b : Bool) → nat_eq (length list) 0 ≡ b → (b || (int_eq dlat (pos 0) && int_eq dlon (pos 0))) ≡ true
          → passes_at (λ r. is_moved m list r.0 && is_out_of_range (moved_by dlat dlon r.1)) y o ≡ false
      by y None e b f g = refl
      by y (Some v) e true f g = ap (λ c. c && is_out_of_range (moved_by dlat dlon v)) (unlisted list f y)
      by y (Some v) e false f g =
          ap (λ c. is_moved m list y && c) (in_range y v e (is_zero dlat (first_true (int_eq dlat (pos 0)) (int_eq dlon (pos 0)) g)) (is_zero dlon (second_true (int_eq dlat (pos 0)) (int_eq dlon (pos 0)) g)))
          ∙ never (is_moved m list y)

  pub move_nothing : None ≡ least (filter (λ e. is_relation e.kind) list) → None ≡ least (filter (is_absent m) list) → (nat_eq (length list) 0 || (int_eq dlat (pos 0) && int_eq dlon (pos 0))) ≡ true
      → IsPlan m (move_checks m list dlat dlon) (after_move m list dlat dlon) (Err Nothing)
  move_nothing relations absents nothing =
      inl (λ i. first_that_holds (option_map WrongKind (sym relations i) ∷ option_map Absent (sym absents i) ∷ the_least OutOfRange (none_leaves nothing i) ∷ then_some (nothing i) Nothing ∷ []))

  pub all_there : None ≡ least (filter (is_absent m) list) → list_all (is_present m) list ≡ true
  all_there absents = all_from (is_present m) list (all_present m list (ap (option_map Absent) (sym absents)))

  pub full_and_far : (nat_eq (length list) 0 || (int_eq dlat (pos 0) && int_eq dlon (pos 0))) ≡ false → (nat_eq (length list) 0 ≡ false) × ((int_eq dlat (pos 0) && int_eq dlon (pos 0)) ≡ false)
  full_and_far h = by (nat_eq (length list) 0) h
    where
      by : (b : Bool) → (b || (int_eq dlat (pos 0) && int_eq dlon (pos 0))) ≡ false → (b ≡ false) × ((int_eq dlat (pos 0) && int_eq dlon (pos 0)) ≡ false)
      by true e = absurd (cc)
      by false e = (refl, e)
