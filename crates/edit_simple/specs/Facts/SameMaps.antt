-- An action that is refused with `Nothing` would leave the map the same.
use Rattle.std.proofs.Common.{sym, ap, ◌∙◌, arith}
use Rattle.std.specs.Prelude.{◌≡◌, ◌≢◌, ℕ, ℤ, pos, Bool, true, false, not, ◌&&◌, ◌||◌, List, [], ◌∷◌, Option, Some, None, length, nat_eq, nat_lt, reverse, refl, cond, map, ⊤, filter, option_map}
use Rattle.std.proofs.lemmas.Bool.Decides.{nat_tests}
use Rattle.std.proofs.Math.IntN.{+ℤ_idr}
use Rattle.osm_drafts.specs.Prelude.{then_some, int_cmp-IsAntisymmetric, int_cmp, int_eq, is_node, Rows, is_same, is_absent, lesser, least, row_at, Pairs, same, same_names, same_rows, both_true, first_true, second_true, are_same_names, are_same_members, are_same_tags, is_sound, most_nodes, most_members, equal_row, sound_in_order}
use Rattle.osm_elements.specs.declared.name.Name.{Name}
use Rattle.osm_elements.specs.declared.element.Element.{Element}
use Rattle.osm_elements.specs.declared.element.Element.TheVariants.{Node, Way, Relation}
use Rattle.room_interface.specs.declared.refusal.Refusal.{Refusal}
use Rattle.room_interface.specs.declared.refusal.Refusal.TheVariants.{Absent, WrongKind, OutOfRange, TooFew, TooMany, Nothing}
use Rattle.edit_simple.specs.Checks.{first_that_holds, the_least}
use Rattle.edit_simple.specs.Contents.{row_tags, nodes_of, members_of, with_tags, with_nodes, with_members, each_row, at_name}
use Rattle.edit_simple.specs.Kinds.{is_way, is_relation}
use Rattle.edit_simple.specs.Members.{members_checks, after_members}
use Rattle.edit_simple.specs.Move.{is_moved, moved_by, left_range, move_checks, after_move}
use Rattle.edit_simple.specs.Nodes.{nodes_checks, after_nodes}
use Rattle.edit_simple.specs.Retag.{retag_checks, after_retag}
use Rattle.edit_simple.specs.Reverse.{reverse_checks, after_reverse}
use Rattle.room_interface.specs.GivenTags.{GivenTags}
use Rattle.edit_simple.specs.Tagging.{retagged, most_tags}
use Rattle.edit_simple.specs.Facts.EachRow.{AreInOrder-each_row, row_at-each_row}

-- ---- checks with another refusal do not hold

past_if : {X : Type 0} (b : Bool) (x y : X) (checks : List (Option X)) → x ≢ y → first_that_holds (then_some b x ∷ checks) ≡ Some y → first_that_holds checks ≡ Some y
past_if true x y checks apart e = absurd (apart (cc))
past_if false x y checks apart e = e

past_least : {A : Type 0} (why : Name → Refusal A) (names : List Name) (y : Refusal A) (checks : List (Option (Refusal A))) → ((z : Name) → why z ≢ y)
    → first_that_holds (the_least why names ∷ checks) ≡ Some y → first_that_holds checks ≡ Some y
past_least why [] y checks apart e = e
past_least why (x ∷ xs) y checks apart e = absurd (apart (lesser x (least xs)) (cc))

last_holds : {X : Type 0} (b : Bool) (y : X) → first_that_holds (then_some b y ∷ []) ≡ Some y → b ≡ true
last_holds true y e = refl
last_holds false y e = absurd (cc)

-- ---- the tests of equality are exact

told_tags : (p q : Pairs) → are_same_tags p q ≡ true → p ≡ q
told_tags p q e = ap (row_tags {A = ⊤}) (equal_row {A = ⊤} (Some (Way [] p)) (Some (Way [] q)) (both_true (are_same_names [] []) (are_same_tags p q) refl e))

told_nodes : (p q : List Name) → are_same_names p q ≡ true → p ≡ q
told_nodes p q e = ap (nodes_of {A = ⊤}) (equal_row {A = ⊤} (Some (Way p [])) (Some (Way q [])) (both_true (are_same_names p q) (are_same_tags [] []) e refl))

told_members : (p q : List (Name × List ℕ)) → are_same_members p q ≡ true → p ≡ q
told_members p q e = ap (members_of {A = ⊤}) (equal_row {A = ⊤} (Some (Relation p [])) (Some (Relation q [])) (both_true (are_same_members p q) (are_same_tags [] []) e refl))

told_zero : (z : ℤ) → int_eq z (pos 0) ≡ true → z ≡ pos 0
told_zero z e = int_cmp-IsAntisymmetric z (pos 0) (same (int_cmp z (pos 0)) e)

module _ {A : Type 0} where
  same_tags : (f : Pairs → Pairs) (v : Element A) → row_tags (Some v) ≡ f (row_tags (Some v)) → with_tags f v ≡ v
  same_tags f (Node lat lon tags) e = ap (λ t. Node lat lon t) (sym e)
  same_tags f (Way nodes tags) e = ap (λ t. Way nodes t) (sym e)
  same_tags f (Relation members tags) e = ap (λ t. Relation members t) (sym e)

  same_nodes : (f : List Name → List Name) (v : Element A) → nodes_of (Some v) ≡ f (nodes_of (Some v)) → with_nodes f v ≡ v
  same_nodes f (Node lat lon tags) e = refl
  same_nodes f (Way nodes tags) e = ap (λ l. Way l tags) (sym e)
  same_nodes f (Relation members tags) e = refl

  same_members : (f : List (Name × List ℕ) → List (Name × List ℕ)) (v : Element A) → members_of (Some v) ≡ f (members_of (Some v)) → with_members f v ≡ v
  same_members f (Node lat lon tags) e = refl
  same_members f (Way nodes tags) e = refl
  same_members f (Relation members tags) e = ap (λ l. Relation l tags) (sym e)

  -- a map in which one element is replaced by itself is the same
  one_stays : (m : Rows A) → is_sound m ≡ true → (x : Name) (f : Element A → Element A) → ((v : Element A) → row_at m x ≡ Some v → f v ≡ v) → each_row (at_name x f) m ≡ m
  one_stays m sound x f still =
      same_rows (each_row (at_name x f) m) m (AreInOrder-each_row (at_name x f) m (sound_in_order m sound)) (sound_in_order m sound)
      (λ y. row_at-each_row (at_name x f) m y ∙ by y (row_at m y) refl (is_same x y) refl)
    where
      by : (y : Name) (o : Option (Element A)) → row_at m y ≡ o → (b : Bool) → is_same x y ≡ b → option_map (at_name x f y) o ≡ o
      by y None is b e = refl
      by y (Some v) is true e = ap (λ c. Some (cond c (f v) v)) e ∙ ap Some (still v (ap (row_at m) (same_names x y e) ∙ is))
      by y (Some v) is false e = ap (λ c. Some (cond c (f v) v)) e

  pub retag_nothing : (m : Rows A) (x : Name) (given : GivenTags) → is_sound m ≡ true → first_that_holds (retag_checks m x given) ≡ Some Nothing → after_retag m x given ≡ m
  retag_nothing m x given sound e =
      one_stays m sound x (with_tags f) (λ v is. same_tags f v (ap (λ o. row_tags o) (sym is) ∙ told ∙ ap (λ o. f (row_tags o)) is))
    where
      f : Pairs → Pairs
      f tags = retagged tags given

      tags : Pairs
      tags = row_tags (row_at m x)

      told : tags ≡ f tags
      told =
          told_tags tags (f tags) (last_holds {X = Refusal A} (are_same_tags tags (f tags)) Nothing
          (past_if (nat_lt most_tags (length (f tags))) (TooMany x) Nothing _ (λ p. cc) (past_if (is_absent m x) (Absent x) Nothing _ (λ p. cc) e)))

  pub reverse_nothing : (m : Rows A) (w : Name) → is_sound m ≡ true → first_that_holds (reverse_checks m w) ≡ Some Nothing → after_reverse m w ≡ m
  reverse_nothing m w sound e =
      one_stays m sound w (with_nodes reverse) (λ v is. same_nodes reverse v (ap (λ o. nodes_of o) (sym is) ∙ told ∙ ap (λ o. reverse (nodes_of o)) is))
    where
      nodes : List Name
      nodes = nodes_of (row_at m w)

      told : nodes ≡ reverse nodes
      told =
          told_nodes nodes (reverse nodes) (last_holds {X = Refusal A} (are_same_names nodes (reverse nodes)) Nothing
          (past_if (is_absent m w) (Absent w) Nothing _ (λ p. cc) (past_if (not (is_way w.kind)) (WrongKind w) Nothing _ (λ p. cc) e)))

  pub nodes_nothing : (m : Rows A) (w : Name) (list : List Name) → is_sound m ≡ true → first_that_holds (nodes_checks m w list) ≡ Some Nothing → after_nodes m w list ≡ m
  nodes_nothing m w list sound e =
      one_stays m sound w (with_nodes (λ _. list)) (λ v is. same_nodes (λ _. list) v (ap (λ o. nodes_of o) (sym is) ∙ told))
    where
      nodes : List Name
      nodes = nodes_of (row_at m w)

      told : nodes ≡ list
      told =
          told_nodes nodes list (last_holds {X = Refusal A} (are_same_names nodes list) Nothing
          (past_least Absent (filter (is_absent m) list) Nothing _ (λ z p. cc)
          (past_if (nat_lt most_nodes (length list)) (TooMany w) Nothing _ (λ p. cc)
          (past_if (nat_lt (length list) 2) (TooFew w) Nothing _ (λ p. cc)
          (past_if (is_absent m w) (Absent w) Nothing _ (λ p. cc) (past_if (not (is_way w.kind)) (WrongKind w) Nothing _ (λ p. cc) e))))))

  pub members_nothing : (m : Rows A) (r : Name) (list : List (Name × List ℕ)) → is_sound m ≡ true → first_that_holds (members_checks m r list) ≡ Some Nothing → after_members m r list ≡ m
  members_nothing m r list sound e =
      one_stays m sound r (with_members (λ _. list)) (λ v is. same_members (λ _. list) v (ap (λ o. members_of o) (sym is) ∙ told))
    where
      members : List (Name × List ℕ)
      members = members_of (row_at m r)

      told : members ≡ list
      told =
          told_members members list (last_holds {X = Refusal A} (are_same_members members list) Nothing
          (past_least Absent (filter (is_absent m) (map (λ e. e.0) list)) Nothing _ (λ z p. cc)
          (past_if (nat_lt most_members (length list)) (TooMany r) Nothing _ (λ p. cc)
          (past_if (is_absent m r) (Absent r) Nothing _ (λ p. cc) (past_if (not (is_relation r.kind)) (WrongKind r) Nothing _ (λ p. cc) e)))))

  -- ---- moves

  all_stay : (f : Name → Element A → Element A) → ((y : Name) (v : Element A) → f y v ≡ v) → (m : Rows A) → each_row f m ≡ m
  all_stay f still [] = refl
  all_stay f still (r ∷ rs) = let here = still r.0 r.1 in let rest = all_stay f still rs in λ i. (r.0, here i) ∷ rest i

  moved_by_none : (v : Element A) → moved_by (pos 0) (pos 0) v ≡ v
  moved_by_none (Node lat lon tags) = λ i. Node (+ℤ_idr lat i) (+ℤ_idr lon i) tags
  moved_by_none (Way nodes tags) = refl
  moved_by_none (Relation members tags) = refl

  none_moved : (m : Rows A) (y : Name) → is_moved m [] y ≡ false
  none_moved m y = by (is_node y.kind)
    where
      by : (b : Bool) → (b && false) ≡ false
      by true = refl
      by false = refl

  pub move_nothing : (m : Rows A) (list : List Name) (dlat dlon : ℤ) → first_that_holds (move_checks m list dlat dlon) ≡ Some Nothing → after_move m list dlat dlon ≡ m
  move_nothing m list dlat dlon e = by list told
    where
      none : Bool
      none = nat_eq (length list) 0 || (int_eq dlat (pos 0) && int_eq dlon (pos 0))

      told : none ≡ true
      told =
          last_holds {X = Refusal A} none Nothing
          (past_least OutOfRange (left_range m list dlat dlon) Nothing _ (λ z p. cc)
          (past_least Absent (filter (is_absent m) list) Nothing _ (λ z p. cc) (past_least WrongKind (filter (λ e. is_relation e.kind) list) Nothing _ (λ z p. cc) e)))

      by : (l : List Name) → (nat_eq (length l) 0 || (int_eq dlat (pos 0) && int_eq dlon (pos 0))) ≡ true → after_move m l dlat dlon ≡ m
      by [] t = all_stay _ (λ y v. ap (λ b. cond b (moved_by dlat dlon v) v) (none_moved m y)) m
      by (x ∷ l) t =
          let full : nat_eq (length (x ∷ l)) 0 ≡ false = grind (arith, nat_tests) in
          let zero : (int_eq dlat (pos 0) && int_eq dlon (pos 0)) ≡ true = ap (λ b. b || (int_eq dlat (pos 0) && int_eq dlon (pos 0))) (sym full) ∙ t in
          let lat = told_zero dlat (first_true (int_eq dlat (pos 0)) (int_eq dlon (pos 0)) zero) in
          let lon = told_zero dlon (second_true (int_eq dlat (pos 0)) (int_eq dlon (pos 0)) zero) in
          all_stay _ (λ y v. still (is_moved m (x ∷ l) y) v lat lon) m
        where
          still : (b : Bool) (v : Element A) → dlat ≡ pos 0 → dlon ≡ pos 0 → cond b (moved_by dlat dlon v) v ≡ v
          still true v lat lon = (λ i. moved_by (lat i) (lon i) v) ∙ moved_by_none v
          still false v lat lon = refl
