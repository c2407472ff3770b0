-- A join of both parts of a split way gives the way that was split.
use Rattle.std.proofs.Common.{sym, ap, ◌∙◌, add-one, arith}
use Rattle.std.specs.Prelude.{◌≡◌, ◌+◌, ◌++◌, ℕ, zero, suc, Bool, true, false, not, ◌&&◌, List, [], ◌∷◌, Option, Some, None, is_some, length, nat_lt, nat_le, take, drop, map, refl, cond, slice_get, option_map, unwrap_or}
use Rattle.std.proofs.lemmas.Bool.Decides.{nat_tests}
use Rattle.edit_simple.specs.Prelude.{then_some, last_or, list_all, option_eq, is_sorted, Rows, is_same, is_among, is_present, is_absent, row_at, text_cmp, Pairs, is_tag, are_tags, is_same_text, same_names, is_eq-name_cmp_itself, same_rows, both_true, first_true, second_true, is_sound, most_nodes, sound_in_order, first_that_holds, is_way, nodes_of, row_tags, with_nodes, with_members, most_tags, Nones, made_tags, Fine, fine}
use Rattle.osm_elements.specs.declared.name.Name.{Name}
use Rattle.osm_elements.specs.declared.element.Element.{Element}
use Rattle.osm_elements.specs.declared.element.Element.TheVariants.{Node, Way, Relation}
use Rattle.room_interface.specs.declared.refusal.Refusal.{Refusal}
use Rattle.room_interface.specs.declared.refusal.Refusal.TheVariants.{Absent, WrongKind, Same, NotEndToEnd, TagConflict, TooMany}
use Rattle.edit_topology.specs.BothTags.{both_tags, conflict}
use Rattle.edit_topology.specs.Join.{meet_end_to_end, end_to_end, goes_on, kept_members, joined_members, join_checks, after_join, lengthened, join_row}
use Rattle.edit_topology.specs.Renaming.{renamed_members}
use Rattle.edit_topology.specs.Split.{is_inside, split_members, split_checks, after_split, split_row, split_off}
use Rattle.edit_topology.specs.Facts.BothTags.{same_text_itself, both_tags_same, no_conflict}
use Rattle.edit_topology.specs.Facts.EachBut.{row_at-each_but, each_but_rewrites}
use Rattle.edit_topology.specs.Facts.Joining.{kept_on, kept_off, not_on}
use Rattle.edit_topology.specs.Facts.Lists.{not_more, or_first, or_second}
use Rattle.edit_topology.specs.Facts.Renaming.{renamed_members_same}
use Rattle.edit_topology.specs.Facts.Splitting.{Splits, splits, row_at-after_split, split_there, split_there_new, split_accepted}

-- ---- the list

halves_same : (i : ℕ) (xs : List Name) → end_to_end (take (suc i) xs) (drop i xs) ≡ xs
halves_same zero [] = refl
halves_same zero (x ∷ xs) = refl
halves_same (suc i) [] = refl
halves_same (suc i) (x ∷ xs) = ap (λ l. x ∷ l) (halves_same i xs)

parts_same : (i : ℕ) (xs : List Name) → end_to_end (take (i + 1) xs) (drop i xs) ≡ xs
parts_same i xs = ap (λ k. end_to_end (take k xs) (drop i xs)) (add-one i) ∙ halves_same i xs

none_less : (i : ℕ) → nat_lt i 0 ≡ true → ⊥
none_less i h = grind (arith, nat_tests)

less_now : (i n : ℕ) → nat_lt (suc i) (suc n) ≡ true → nat_lt i n ≡ true
less_now i n h = grind (arith, nat_tests)

-- the first part ends where the second begins
one_end : (i : ℕ) (o : Option Name) (xs : List Name) → nat_lt i (length xs) ≡ true → last_or o (take (suc i) xs) ≡ slice_get (drop i xs) 0
one_end i o [] h = absurd (none_less i h)
one_end zero o (x ∷ xs) h = refl
one_end (suc i) o (x ∷ xs) h = one_end i (Some x) xs (less_now i (length xs) h)

same_option : (o : Option Name) → option_eq is_same o o ≡ true
same_option None = refl
same_option (Some x) = is_eq-name_cmp_itself x

inside_less : (i n : ℕ) → nat_lt (i + 1) n ≡ true → nat_lt i n ≡ true
inside_less i n h = grind (arith, nat_tests)

parts_meet : (i : ℕ) (xs : List Name) → is_inside i xs ≡ true → meet_end_to_end (take (i + 1) xs) (drop i xs) ≡ true
parts_meet i xs inside =
    ap (λ k. option_eq is_same (last_or None (take k xs)) (slice_get (drop i xs) 0)) (add-one i)
    ∙ ap (λ o. option_eq is_same o (slice_get (drop i xs) 0)) (one_end i None xs (inside_less i (length xs) (second_true (nat_lt 0 i) (nat_lt (i + 1) (length xs)) inside)))
    ∙ same_option (slice_get (drop i xs) 0)

-- ---- the members

-- v right after w in the same role goes on
on_itself : (w v : Name) (r : Name × List ℕ) → is_same w r.0 ≡ true → goes_on w v (Some r) (v, r.1) ≡ true
on_itself w v r h = both_true (is_same v v) (is_same w r.0 && is_same_text r.1 r.1) (is_eq-name_cmp_itself v) (both_true (is_same w r.0) (is_same_text r.1 r.1) h (same_text_itself r.1))

kept_split : (w v : Name) (before : Option (Name × List ℕ)) (members : List (Name × List ℕ)) → is_among (map (λ r. r.0) members) v ≡ false → kept_members w v before (split_members w v members) ≡ members
kept_split w v before [] h = refl
kept_split w v before (r ∷ rs) h = by (is_same w r.0) refl (kept_split w v (Some (v, r.1)) rs none) (kept_split w v (Some r) rs none)
  where
    none : is_among (map (λ s. s.0) rs) v ≡ false
    none = or_second (is_same v r.0) (is_among (map (λ s. s.0) rs) v) h

    own : goes_on w v before r ≡ false
    own = not_on w v before r (or_first (is_same v r.0) (is_among (map (λ s. s.0) rs) v) h)

    by : (b : Bool) → is_same w r.0 ≡ b → kept_members w v (Some (v, r.1)) (split_members w v rs) ≡ rs → kept_members w v (Some r) (split_members w v rs) ≡ rs
        → kept_members w v before (cond b (r ∷ (v, r.1) ∷ []) (r ∷ []) ++ split_members w v rs) ≡ r ∷ rs
    by true t after_new after_own =
        kept_on w v before r ((v, r.1) ∷ split_members w v rs) own
        ∙ ap (λ l. r ∷ l) (kept_off w v (Some r) (v, r.1) (split_members w v rs) (on_itself w v r t) ∙ after_new)
    by false t after_new after_own = kept_on w v before r (split_members w v rs) own ∙ ap (λ l. r ∷ l) after_own

pub joined_split : (w v : Name) (members : List (Name × List ℕ)) → is_among (map (λ r. r.0) members) v ≡ false → joined_members w v (split_members w v members) ≡ members
joined_split w v members none = ap (renamed_members v w) (kept_split w v None members none) ∙ renamed_members_same v w members none

-- ---- the map

all_none : {X : Type 0} (os : List (Option X)) → Nones os → first_that_holds os ≡ None
all_none [] h = refl
all_none (o ∷ os) h = ap (λ p. first_that_holds (p ∷ os)) h.0 ∙ all_none os h.1

no_check : {X : Type 0} (b : Bool) (x : X) → b ≡ false → then_some b x ≡ None
no_check b x h = ap (λ c. then_some c x) h

tags_few : (tags : Pairs) → are_tags tags ≡ true → nat_lt most_tags (length tags) ≡ false
tags_few tags h = not_more (length tags) most_tags (first_true (nat_le (length tags) 1000) (list_all is_tag tags) (second_true (is_sorted text_cmp tags) (nat_le (length tags) 1000 && list_all is_tag tags) h))

module _ {A : Type 0} where
  no_row : (o : Option (Element A)) → is_some o ≡ false → o ≡ None
  no_row None e = refl
  no_row (Some u) e = absurd (cc)

  apart_names : (m : Rows A) (x y : Name) → is_present m x ≡ true → is_present m y ≡ false → is_same x y ≡ false
  apart_names m x y here absent = by (is_same x y) refl
    where
      by : (b : Bool) → is_same x y ≡ b → b ≡ false
      by true t = absurd (cc (sym here ∙ ap (is_present m) (same_names x y t) ∙ absent))
      by false t = refl

  no_conflicts : (o : Option (List ℕ)) → o ≡ None → ◌≡◌ {A = Option (Refusal A)} (option_map TagConflict o) None
  no_conflicts o e = ap (option_map TagConflict) e

  -- the rows of both parts
  first_row : (m : Rows A) (w : Name) (i : ℕ) (v : Name) (s : Splits m w i v) → row_at (after_split m w i v) w ≡ Some (Way (take (i + 1) s.nodes) s.tags)
  first_row m w i v s =
      row_at-after_split m w i v w ∙ ap (λ b. cond b (Some (split_off m w i)) (option_map (split_row w i v w) (row_at m w))) (apart_names m w v s.present s.fresh)
      ∙ ap (option_map (split_row w i v w)) s.row ∙ ap (λ b. Some (with_members (split_members w v) (cond b (Way (take (i + 1) s.nodes) s.tags) (Way s.nodes s.tags)))) (is_eq-name_cmp_itself w)

  last_row : (m : Rows A) (w : Name) (i : ℕ) (v : Name) (s : Splits m w i v) → row_at (after_split m w i v) v ≡ Some (Way (drop i s.nodes) s.tags)
  last_row m w i v s =
      row_at-after_split m w i v v ∙ ap (λ b. cond b (Some (split_off m w i)) (option_map (split_row w i v v) (row_at m v))) (is_eq-name_cmp_itself v)
      ∙ ap (λ o. Some (Way (drop i (nodes_of o)) (row_tags o))) s.row

  pub split_joins : (m : Rows A) (w : Name) (i : ℕ) (v : Name) → is_sound m ≡ true → first_that_holds (split_checks m w i v) ≡ None → first_that_holds (join_checks (after_split m w i v) w v) ≡ None
  split_joins m w i v sound ok = all_none (join_checks n w v) (
    no_check {X = Refusal A} (not (is_way w.kind)) (WrongKind w) (ap not s.way_w),
    (
      no_check {X = Refusal A} (not (is_way v.kind)) (WrongKind v) (ap not s.way_v),
      (
        no_check {X = Refusal A} (is_same w v) (Same w) (apart_names m w v s.present s.fresh),
        (
          no_check {X = Refusal A} (is_absent n w) (Absent w) (ap not (split_there m w i v w s.present)),
          (
            no_check {X = Refusal A} (is_absent n v) (Absent v) (ap not (split_there_new m w i v)),
            (
              no_check {X = Refusal A} (not (meet_end_to_end (nodes_of (row_at n w)) (nodes_of (row_at n v)))) NotEndToEnd
                  ((λ j. not (meet_end_to_end (nodes_of (one j)) (nodes_of (other j)))) ∙ ap not (parts_meet i s.nodes s.inside)),
              (
                no_check {X = Refusal A} (nat_lt most_nodes (length (end_to_end (nodes_of (row_at n w)) (nodes_of (row_at n v))))) (TooMany w)
                    ((λ j. nat_lt most_nodes (length (end_to_end (nodes_of (one j)) (nodes_of (other j))))) ∙ ap (λ l. nat_lt most_nodes (length l)) (parts_same i s.nodes)
                    ∙ not_more (length s.nodes) most_nodes (second_true (nat_le 2 (length s.nodes)) (nat_le (length s.nodes) most_nodes) own.lengthy)),
                (
                  no_conflicts (conflict (row_tags (row_at n w)) (row_tags (row_at n v))) ((λ j. conflict (row_tags (one j)) (row_tags (other j))) ∙ no_conflict s.tags tags),
                  (
                    no_check {X = Refusal A} (nat_lt most_tags (length (both_tags (row_tags (row_at n w)) (row_tags (row_at n v))))) (TooMany w)
                        ((λ j. nat_lt most_tags (length (both_tags (row_tags (one j)) (row_tags (other j))))) ∙ ap (λ l. nat_lt most_tags (length l)) (both_tags_same s.tags tags) ∙ tags_few s.tags tags),
                    tt,
                  ),
                ),
              ),
            ),
          ),
        ),
      ),
    ),
  )
    where
      n : Rows A
      n = after_split m w i v

      s : Splits m w i v
      s = splits m w i v sound ok

      own : Fine m w (Way s.nodes s.tags)
      own = fine m sound w (Way s.nodes s.tags) s.row

      tags : are_tags s.tags ≡ true
      tags = made_tags {A = A} (Way s.nodes s.tags) own.made

      one : row_at n w ≡ Some (Way (take (i + 1) s.nodes) s.tags)
      one = first_row m w i v s

      other : row_at n v ≡ Some (Way (drop i s.nodes) s.tags)
      other = last_row m w i v s

  pub split_joins_to : (m : Rows A) (w : Name) (i : ℕ) (v : Name) → is_sound m ≡ true → first_that_holds (split_checks m w i v) ≡ None → after_join (after_split m w i v) w v ≡ m
  split_joins_to m w i v sound ok = same_rows (after_join n w v) m (each_but_rewrites n v (join_row n w v) (split_accepted m w i v sound ok).0).in_order (sound_in_order m sound) (λ q. row_at-each_but n v (join_row n w v) q ∙ by q (is_same q v) refl)
    where
      n : Rows A
      n = after_split m w i v

      s : Splits m w i v
      s = splits m w i v sound ok

      own : Fine m w (Way s.nodes s.tags)
      own = fine m sound w (Way s.nodes s.tags) s.row

      -- an element after the split and the join, if it is w's and if it is not
      made : Bool → Element A → Element A
      made b u = with_members (joined_members w v) (cond b (lengthened n v (with_members (split_members w v) (cond b (with_nodes (take (i + 1)) u) u))) (with_members (split_members w v) (cond b (with_nodes (take (i + 1)) u) u)))

      at_w : made true (Way s.nodes s.tags) ≡ Way s.nodes s.tags
      at_w =
          (λ j. Way (end_to_end (take (i + 1) s.nodes) (nodes_of (last_row m w i v s j))) (both_tags s.tags (row_tags (last_row m w i v s j))))
          ∙ (λ j. Way (parts_same i s.nodes j) (both_tags_same s.tags (made_tags {A = A} (Way s.nodes s.tags) own.made) j))

      elsewhere : (q : Name) (u : Element A) → Fine m q u → made false u ≡ u
      elsewhere q (Node lat lon tags) f = refl
      elsewhere q (Way nodes tags) f = refl
      elsewhere q (Relation members tags) f = ap (λ l. Relation l tags) (joined_split w v members (none (is_among (map (λ r. r.0) members) v) refl))
        where
          none : (b : Bool) → is_among (map (λ r. r.0) members) v ≡ b → b ≡ false
          none true t = absurd (cc (sym (f.refs v t) ∙ s.fresh))
          none false t = refl

      back : (q : Name) (u : Element A) (b : Bool) → is_same w q ≡ b → row_at m q ≡ Some u → made b u ≡ u
      back q u true t is =
          let same : Some (Way s.nodes s.tags) ≡ Some u = sym s.row ∙ ap (row_at m) (same_names w q t) ∙ is in
          let way = ap (λ o. unwrap_or o u) same in
          sym (ap (made true) way) ∙ at_w ∙ way
      back q u false t is = elsewhere q u (fine m sound q u is)

      rows : (q : Name) (o : Option (Element A)) → row_at m q ≡ o → option_map (join_row n w v q) (option_map (split_row w i v q) o) ≡ o
      rows q None is = refl
      rows q (Some u) is = ap Some (back q u (is_same w q) refl is)

      by : (q : Name) (b : Bool) → is_same q v ≡ b → option_map (join_row n w v q) (cond b None (row_at n q)) ≡ row_at m q
      by q true t = sym (ap (row_at m) (same_names q v t) ∙ no_row (row_at m v) s.fresh)
      by q false t =
          ap (option_map (join_row n w v q)) (row_at-after_split m w i v q ∙ ap (λ b. cond b (Some (split_off m w i)) (option_map (split_row w i v q) (row_at m q))) t)
          ∙ rows q (row_at m q) refl
