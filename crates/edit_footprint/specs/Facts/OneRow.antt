-- Actions that change one row look only at their footprints: retag, reverse, create, delete, `nodes` and `members`.
use Rattle.std.proofs.Common.{ap, ◌∙◌}
use Rattle.std.specs.Prelude.{◌≡◌, ◌&&◌, ℕ, Bool, true, false, not, List, [], Option, Some, None, map, reverse, refl, cond, filter, option_map}
use Rattle.edit_actions.specs.Prelude.{Rows, is_same, is_among, is_present, is_absent, row_at, Pairs, same_either_way, is_eq-name_cmp_itself, references, row_references, tags_at, rest_at, half, same_presence, is_missing, is_way, is_relation, with_tags, with_nodes, with_members, at_name, GivenTags, nones, not_so, from_false, no_least, way_there, relation_there, none_left, all_present, after, checks}
use Rattle.osm_changes.specs.Cells.{has}
use Rattle.osm_elements.specs.declared.name.Name.{Name}
use Rattle.osm_elements.specs.declared.element.Element.{Element}
use Rattle.osm_changes.specs.declared.part.Part.TheVariants.{Tags, Rest}
use Rattle.room_interface.specs.declared.refusal.Refusal.{Refusal}
use Rattle.room_interface.specs.declared.refusal.Refusal.TheVariants.{Absent, WrongKind}
use Rattle.edit_simple.specs.Tagging.{retagged}
use Rattle.room_interface.specs.declared.action.Action.{Action}
use Rattle.room_interface.specs.declared.action.Action.TheVariants.{Create, Retag, Reverse, Nodes, Members, Delete}
use Rattle.edit_footprint.specs.Footprints.{subjects}
use Rattle.edit_footprint.specs.Facts.AcceptedAlike.{IsLocal, Keeps, accepted_alike}
use Rattle.edit_footprint.specs.Facts.Agreeing.{same_subject, same_row_of_owned, same_users_of_owned, still_there}
use Rattle.edit_footprint.specs.Facts.Becoming.{row_at-after}
use Rattle.edit_footprint.specs.Facts.Footprints.{subjects_inside}
use Rattle.edit_footprint.specs.Facts.Halfwise.{KeepsTags, keeps_nodes, keeps_members, keeps_if, keeps_rest, tags_kept}
use Rattle.edit_footprint.specs.Facts.Halves.{same_nodes_of, same_members_of, same_row_tags}
use Rattle.edit_footprint.specs.Facts.NonePassing.{none_of_list}
use Rattle.edit_footprint.specs.Facts.Subjects.{alone, first, owned_reached, another, no_subject}
use Rattle.osm_elements.specs.declared.element.Element.TheVariants as elements

module _ {A : Type 0} where
  -- a row other than the rewritten one is unchanged
  elsewhere : (x y : Name) (f : Element A → Element A) (o : Option (Element A)) → is_same y x ≡ false → option_map (at_name x f y) o ≡ o
  elsewhere x y f None other = refl
  elsewhere x y f (Some v) other = ap (λ b. Some (cond b (f v) v)) (same_either_way x y ∙ other)

  pub retag_local : (x : Name) (given : GivenTags) → IsLocal {A = A} (Retag x given)
  retag_local x given m n sound sound_n ok agree = accepted_alike m n a agree (λ y o. refl)
      (λ y out. ap (half Tags) (row_at-after n a y ∙ elsewhere x y (with_tags given_to) (row_at n y) (no_subject m a Tags x y (alone (tags_at x)) out)))
      (λ y out. ap (half Rest) (row_at-after n a y) ∙ rest_stays (is_same x y) (row_at n y)) same ok
    where
      given_to : Pairs → Pairs
      given_to tags = retagged tags given

      a : Action A
      a = Retag x given

      -- the rest of every row is unchanged
      rest_stays : (b : Bool) (o : Option (Element A)) → half Rest (option_map (λ v. cond b (with_tags (λ tags. retagged tags given) v) v) o) ≡ half Rest o
      rest_stays b None = refl
      rest_stays true (Some v) = ap Some (keeps_rest (λ tags. retagged tags given) v)
      rest_stays false (Some v) = refl

      same : checks n a ≡ checks m a
      same =
          let its_tags = same_subject m n a agree Tags x (alone (tags_at x)) in
          let here = same_presence Tags (row_at m x) (row_at n x) its_tags in
          let tags = same_row_tags (row_at m x) (row_at n x) its_tags in
          rw (← here, ← tags) refl

  -- if a subject's rest is rewritten and all tags are unchanged, the halves outside are unchanged
  rest_alone : (m n : Rows A) (a : Action A) (x : Name) (f : Element A → Element A) → KeepsTags f → has (subjects a) (rest_at x) ≡ true
      → ((y : Name) → row_at (after n a) y ≡ option_map (at_name x f y) (row_at n y)) → Keeps Tags m n a × Keeps Rest m n a
  rest_alone m n a x f keeps own rewritten = (
    λ y out. ap (half Tags) (rewritten y) ∙ tags_kept (at_name x f y) (keeps_if (is_same x y) f keeps) (row_at n y),
    λ y out. ap (half Rest) (rewritten y ∙ elsewhere x y f (row_at n y) (no_subject m a Rest x y own out)),
  )

  pub reverse_local : (w : Name) → IsLocal {A = A} (Reverse w)
  reverse_local w m n sound sound_n ok agree = accepted_alike m n a agree (λ y o. refl) kept.0 kept.1 same ok
    where
      a : Action A
      a = Reverse w

      kept : Keeps Tags m n a × Keeps Rest m n a
      kept = rest_alone m n a w (with_nodes reverse) (keeps_nodes reverse) (alone (rest_at w)) (row_at-after n a)

      same : checks n a ≡ checks m a
      same =
          let its_rest = same_subject m n a agree Rest w (alone (rest_at w)) in
          let here = same_presence Rest (row_at m w) (row_at n w) its_rest in
          let nodes = same_nodes_of (row_at m w) (row_at n w) its_rest in
          rw (← here, ← nodes) refl

  pub delete_local : (x : Name) → IsLocal {A = A} (Delete x)
  delete_local x m n sound sound_n ok agree = accepted_alike m n a agree (λ y o. refl)
      (λ y out. ap (half Tags) (stays y (another m a Tags x y (first x []) out))) (λ y out. ap (half Rest) (stays y (another m a Rest x y (first x []) out))) same ok
    where
      a : Action A
      a = Delete x

      stays : (y : Name) → is_same y x ≡ false → row_at (after n a) y ≡ row_at n y
      stays y other = row_at-after n a y ∙ ap (λ b. cond b None (row_at n y)) other

      same : checks n a ≡ checks m a
      same =
          let row = same_row_of_owned m n a agree x (first x []) in
          let its_users = same_users_of_owned m n a agree x (first x []) in
          rw (← row, ← its_users) refl

  pub nodes_local : (w : Name) (list : List Name) → IsLocal {A = A} (Nodes w list)
  nodes_local w list m n sound sound_n ok agree = accepted_alike m n a agree (λ y o. refl) kept.0 kept.1 same ok
    where
      a : Action A
      a = Nodes w list

      kept : Keeps Tags m n a × Keeps Rest m n a
      kept = rest_alone m n a w (with_nodes (λ _. list)) (keeps_nodes (λ _. list)) (alone (rest_at w)) (row_at-after n a)

      way : (nodes : List Name) × (tags : List (List ℕ × List ℕ)) × (row_at m w ≡ Some (elements.Way nodes tags))
      way = way_there m w sound (from_false (is_way w.kind) (not_so {X = Refusal A} (not (is_way w.kind)) (WrongKind w) (nones (checks m a) ok).0))
          (from_false (is_present m w) (not_so {X = Refusal A} (is_absent m w) (Absent w) (nones (checks m a) ok).1.0))

      -- the row of w refers to the list afterwards
      named : (e : Name) → is_among list e ≡ true → is_among (row_references (row_at (after m a) w)) e ≡ true
      named e i =
          ap (λ o. is_among (row_references o) e)
          (row_at-after m a w ∙ ap (option_map (at_name w (with_nodes (λ _. list)) w)) way.2 ∙ ap (λ b. Some (cond b (elements.Way list way.1) (elements.Way way.0 way.1))) (is_eq-name_cmp_itself w)) ∙ i

      -- all listed names are in both maps
      here : filter (is_absent m) list ≡ []
      here = no_least {A = A} Absent (filter (is_absent m) list) (nones (checks m a) ok).1.1.1.1.0

      here_too : filter (is_absent n) list ≡ []
      here_too = none_of_list (is_absent n) list (λ e i. ap not (still_there m n a agree sound_n w e (subjects_inside m a (rest_at w) (alone (rest_at w))) (named e i) (all_present m list (nones (checks m a) ok).1.1.1.1.0 e i)))

      same : checks n a ≡ checks m a
      same =
          let its_rest = same_subject m n a agree Rest w (alone (rest_at w)) in
          let there = same_presence Rest (row_at m w) (row_at n w) its_rest in
          let nodes = same_nodes_of (row_at m w) (row_at n w) its_rest in
          rw (here, here_too, ← there, ← nodes) refl

  pub members_local : (r : Name) (list : List (Name × List ℕ)) → IsLocal {A = A} (Members r list)
  members_local r list m n sound sound_n ok agree = accepted_alike m n a agree (λ y o. refl) kept.0 kept.1 same ok
    where
      a : Action A
      a = Members r list

      kept : Keeps Tags m n a × Keeps Rest m n a
      kept = rest_alone m n a r (with_members (λ _. list)) (keeps_members (λ _. list)) (alone (rest_at r)) (row_at-after n a)

      relation : (members : List (Name × List ℕ)) × (tags : List (List ℕ × List ℕ)) × (row_at m r ≡ Some (elements.Relation members tags))
      relation = relation_there m r sound (from_false (is_relation r.kind) (not_so {X = Refusal A} (not (is_relation r.kind)) (WrongKind r) (nones (checks m a) ok).0))
          (from_false (is_present m r) (not_so {X = Refusal A} (is_absent m r) (Absent r) (nones (checks m a) ok).1.0))

      -- the row of r refers to the members afterwards
      named : (e : Name) → is_among (map (λ z. z.0) list) e ≡ true → is_among (row_references (row_at (after m a) r)) e ≡ true
      named e i =
          ap (λ o. is_among (row_references o) e)
          (row_at-after m a r ∙ ap (option_map (at_name r (with_members (λ _. list)) r)) relation.2
          ∙ ap (λ b. Some (cond b (elements.Relation list relation.1) (elements.Relation relation.0 relation.1))) (is_eq-name_cmp_itself r)) ∙ i

      -- all listed names are in both maps
      here : filter (is_absent m) (map (λ e. e.0) list) ≡ []
      here = no_least {A = A} Absent (filter (is_absent m) (map (λ e. e.0) list)) (nones (checks m a) ok).1.1.1.0

      here_too : filter (is_absent n) (map (λ e. e.0) list) ≡ []
      here_too = none_of_list (is_absent n) (map (λ e. e.0) list)
          (λ e i. ap not (still_there m n a agree sound_n r e (subjects_inside m a (rest_at r) (alone (rest_at r))) (named e i) (all_present m (map (λ z. z.0) list) (nones (checks m a) ok).1.1.1.0 e i)))

      same : checks n a ≡ checks m a
      same =
          let its_rest = same_subject m n a agree Rest r (alone (rest_at r)) in
          let there = same_presence Rest (row_at m r) (row_at n r) its_rest in
          let members = same_members_of (row_at m r) (row_at n r) its_rest in
          rw (here, here_too, ← there, ← members) refl

  pub create_local : (x : Name) (v : Element A) → IsLocal {A = A} (Create x v)
  create_local x v m n sound sound_n ok agree = accepted_alike m n a agree (λ y o. refl)
      (λ y out. ap (half Tags) (stays y (another m a Tags x y (first x []) out))) (λ y out. ap (half Rest) (stays y (another m a Rest x y (first x []) out))) same ok
    where
      a : Action A
      a = Create x v

      stays : (y : Name) → is_same y x ≡ false → row_at (after n a) y ≡ row_at n y
      stays y other = row_at-after n a y ∙ ap (λ b. cond b (Some v) (row_at n y)) other

      -- the row of x refers afterwards to all that v refers to
      named : (e : Name) → is_among (references v) e ≡ true → is_among (row_references (row_at (after m a) x)) e ≡ true
      named e i = ap (λ o. is_among (row_references o) e) (row_at-after m a x ∙ ap (λ b. cond b (Some v) (row_at m x)) (is_eq-name_cmp_itself x)) ∙ i

      -- no map lacks a name that v refers to
      here : filter (is_missing m x) (references v) ≡ []
      here = no_least {A = A} Absent (filter (is_missing m x) (references v)) (nones (checks m a) ok).1.1.1.1.0

      here_too : filter (is_missing n x) (references v) ≡ []
      here_too = none_of_list (is_missing n x) (references v) (λ e i. by e i (is_same x e) (is_present m e) refl (none_left (is_missing m x) (references v) here e i))
        where
          by : (e : Name) → is_among (references v) e ≡ true → (s b : Bool) → is_present m e ≡ b → (not s && not b) ≡ false → (not s && is_absent n e) ≡ false
          by e i true b there h = refl
          by e i false true there h = ap not (still_there m n a agree sound_n x e (owned_reached m a Rest x (first x [])) (named e i) there)
          by e i false false there h = absurd (cc)

      same : checks n a ≡ checks m a
      same = let row = same_row_of_owned m n a agree x (first x []) in rw (← row, here, here_too) refl
