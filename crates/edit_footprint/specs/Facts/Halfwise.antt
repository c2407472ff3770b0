-- Rewrites in which each new half depends only on its old half, and rewrites that keep the tags.
use Rattle.std.proofs.Common.{sym, ap, ◌∙◌}
use Rattle.std.specs.Prelude.{◌≡◌, ◌+◌, ℤ, ℕ, Bool, true, false, not, List, Option, Some, None, reverse, set, take, refl, cond, ◌+ℤ◌, filter, option_map}
use Rattle.edit_topology.specs.Prelude.{tags_of, Rows, is_same, row_at, Pairs, half_in, half, rest_of, nodes_of, row_tags, with_tags, with_nodes, with_members, at_name, is_moved, moved_by, moves, goes, without, what_is_left, retagged, both_tags, end_to_end, joined_members, lengthened, join_row, merged_nodes, united, merge_row, renamed_members, split_members, split_row, split_off, row_standing}
use Rattle.osm_elements.specs.declared.name.Name.{Name}
use Rattle.osm_elements.specs.declared.element.Element.{Element}
use Rattle.osm_elements.specs.declared.element.Element.TheVariants.{Node, Way, Relation}
use Rattle.osm_changes.specs.declared.half.Half.{Half}
use Rattle.osm_changes.specs.declared.part.Part.{Part}
use Rattle.osm_changes.specs.declared.part.Part.TheVariants.{Tags, Rest}
use Rattle.room_interface.specs.declared.action.Action.{Action}
use Rattle.edit_footprint.specs.Facts.Becoming.{becomes}
use Rattle.edit_footprint.specs.Facts.Halves.{tags_in}
use Rattle.osm_changes.specs.declared.half.Half.TheVariants as halves
use Rattle.room_interface.specs.declared.action.Action.TheVariants as actions

some_inside : {X : Type 0} (x y : X) → Some x ≡ Some y → x ≡ y
some_inside x y e = cc

module _ {A : Type 0} where
  -- ---- elements rewritten half by half

  -- each new half depends only on the same old half
  abbrev pub IsHalfwise : (Element A → Element A) → Type 0
  IsHalfwise f = (p : Part) (u v : Element A) → half_in p u ≡ half_in p v → half_in p (f u) ≡ half_in p (f v)

  abbrev pub KeepsTags : (Element A → Element A) → Type 0
  KeepsTags f = (u : Element A) → tags_of (f u) ≡ tags_of u

  pub keeps_nodes : (f : List Name → List Name) → KeepsTags (with_nodes f)
  keeps_nodes f (Node lat lon tags) = refl
  keeps_nodes f (Way nodes tags) = refl
  keeps_nodes f (Relation members tags) = refl

  pub keeps_members : (f : List (Name × List ℕ) → List (Name × List ℕ)) → KeepsTags (with_members f)
  keeps_members f (Node lat lon tags) = refl
  keeps_members f (Way nodes tags) = refl
  keeps_members f (Relation members tags) = refl

  pub keeps_moved : (dlat dlon : ℤ) → KeepsTags (moved_by dlat dlon)
  keeps_moved dlat dlon (Node lat lon tags) = refl
  keeps_moved dlat dlon (Way nodes tags) = refl
  keeps_moved dlat dlon (Relation members tags) = refl

  pub keeps_both : (f g : Element A → Element A) → KeepsTags f → KeepsTags g → KeepsTags (λ u. f (g u))
  keeps_both f g h k u = h (g u) ∙ k u

  pub keeps_if : (b : Bool) (f : Element A → Element A) → KeepsTags f → KeepsTags (λ u. cond b (f u) u)
  keeps_if true f h u = h u
  keeps_if false f h u = refl

  -- an element that is not rewritten keeps its tags
  pub keeps_unless : (b : Bool) (f : Element A → Element A) → b ≡ false → KeepsTags (λ u. cond b (f u) u)
  keeps_unless true f e u = absurd (cc)
  keeps_unless false f e u = refl

  pub keeps_rest : (f : Pairs → Pairs) (u : Element A) → rest_of (with_tags f u) ≡ rest_of u
  keeps_rest f (Node lat lon tags) = refl
  keeps_rest f (Way nodes tags) = refl
  keeps_rest f (Relation members tags) = refl

  -- if the tags are kept and the rest is rewritten from the rest, the rewrite is by halves
  by_rest : (f : Element A → Element A) (g : Half A → Half A) → KeepsTags f
      → ((u : Element A) → rest_of (f u) ≡ g (rest_of u)) → IsHalfwise f
  by_rest f g keeps is Tags u v e = ap halves.Tags (keeps u) ∙ e ∙ ap halves.Tags (sym (keeps v))
  by_rest f g keeps is Rest u v e = is u ∙ ap g e ∙ sym (is v)

  abbrev half_nodes : (List Name → List Name) → Half A → Half A
  half_nodes f (halves.Nodes l) = halves.Nodes (f l)
  half_nodes f h = h

  abbrev half_members : (List (Name × List ℕ) → List (Name × List ℕ)) → Half A → Half A
  half_members f (halves.Members l) = halves.Members (f l)
  half_members f h = h

  abbrev half_moved : ℤ → ℤ → Half A → Half A
  half_moved dlat dlon (halves.Place lat lon) = halves.Place (lat +ℤ dlat) (lon +ℤ dlon)
  half_moved dlat dlon h = h

  nodes_halfwise : (f : List Name → List Name) → IsHalfwise (with_nodes f)
  nodes_halfwise f = by_rest (with_nodes f) (half_nodes f) (keeps_nodes f) is
    where
      is : (u : Element A) → rest_of (with_nodes f u) ≡ half_nodes f (rest_of u)
      is (Node lat lon tags) = refl
      is (Way nodes tags) = refl
      is (Relation members tags) = refl

  members_halfwise : (f : List (Name × List ℕ) → List (Name × List ℕ)) → IsHalfwise (with_members f)
  members_halfwise f = by_rest (with_members f) (half_members f) (keeps_members f) is
    where
      is : (u : Element A) → rest_of (with_members f u) ≡ half_members f (rest_of u)
      is (Node lat lon tags) = refl
      is (Way nodes tags) = refl
      is (Relation members tags) = refl

  moved_halfwise : (dlat dlon : ℤ) → IsHalfwise (moved_by dlat dlon)
  moved_halfwise dlat dlon = by_rest (moved_by dlat dlon) (half_moved dlat dlon) (keeps_moved dlat dlon) is
    where
      is : (u : Element A) → rest_of (moved_by dlat dlon u) ≡ half_moved dlat dlon (rest_of u)
      is (Node lat lon tags) = refl
      is (Way nodes tags) = refl
      is (Relation members tags) = refl

  tags_halfwise : (f : Pairs → Pairs) → IsHalfwise (with_tags f)
  tags_halfwise f Tags u v e = ap halves.Tags (is u) ∙ ap (λ h. halves.Tags (f (tags_in (Some h)))) e
      ∙ ap halves.Tags (sym (is v))
    where
      is : (u : Element A) → tags_of (with_tags f u) ≡ f (tags_of u)
      is (Node lat lon tags) = refl
      is (Way nodes tags) = refl
      is (Relation members tags) = refl
  tags_halfwise f Rest u v e = keeps_rest f u ∙ e ∙ sym (keeps_rest f v)

  both_halfwise : (f g : Element A → Element A) → IsHalfwise f → IsHalfwise g → IsHalfwise (λ u. f (g u))
  both_halfwise f g h k p u v e = h p (g u) (g v) (k p u v e)

  if_halfwise : (b : Bool) (f : Element A → Element A) → IsHalfwise f → IsHalfwise (λ u. cond b (f u) u)
  if_halfwise true f h = h
  if_halfwise false f h = λ p u v e. e

  -- ---- rows

  lifted : (f : Element A → Element A) → IsHalfwise f → (p : Part) (o q : Option (Element A)) → half p o ≡ half p q
      → half p (option_map f o) ≡ half p (option_map f q)
  lifted f h p None None e = refl
  lifted f h p None (Some v) e = absurd (cc)
  lifted f h p (Some u) None e = absurd (cc)
  lifted f h p (Some u) (Some v) e = ap Some (h p u v (some_inside (half_in p u) (half_in p v) e))

  -- one row is rewritten
  at_one : (x y : Name) (f : Element A → Element A) → IsHalfwise f → (p : Part) (o q : Option (Element A))
      → half p o ≡ half p q → half p (option_map (at_name x f y) o) ≡ half p (option_map (at_name x f y) q)
  at_one x y f h = lifted (at_name x f y) (if_halfwise (is_same x y) f h)

  chosen : (b : Bool) (k : Option (Element A)) (p : Part) (o q : Option (Element A)) → half p o ≡ half p q
      → half p (cond b k o) ≡ half p (cond b k q)
  chosen true k p o q e = refl
  chosen false k p o q e = e

  -- a row keeps its tags if every element does
  pub tags_kept : (f : Element A → Element A) → KeepsTags f → (o : Option (Element A))
      → half Tags (option_map f o) ≡ half Tags o
  tags_kept f h None = refl
  tags_kept f h (Some u) = ap (λ t. Some (halves.Tags t)) (h u)

  pub becomes_halfwise : (m : Rows A) (a : Action A) (y : Name) (p : Part) (o q : Option (Element A))
      → half p o ≡ half p q → half p (becomes m a y o) ≡ half p (becomes m a y q)
  becomes_halfwise m (actions.Create x v) y p o q e = chosen (is_same y x) (Some v) p o q e
  becomes_halfwise m (actions.Retag x given) y p o q e = at_one x y (with_tags (λ tags. retagged tags given))
      (tags_halfwise (λ tags. retagged tags given)) p o q e
  becomes_halfwise m (actions.Move list dlat dlon) y p o q e = lifted (moves m list dlat dlon y)
      (if_halfwise (is_moved m list y) (moved_by dlat dlon) (moved_halfwise dlat dlon)) p o q e
  becomes_halfwise m (actions.Reverse w) y p o q e = at_one w y (with_nodes reverse) (nodes_halfwise reverse) p o q e
  becomes_halfwise m (actions.Nodes w list) y p o q e = at_one w y (with_nodes (λ _. list))
      (nodes_halfwise (λ _. list)) p o q e
  becomes_halfwise m (actions.Members r list) y p o q e = at_one r y (with_members (λ _. list))
      (members_halfwise (λ _. list)) p o q e
  becomes_halfwise m (actions.Delete x) y p o q e = chosen (is_same y x) None p o q e
  becomes_halfwise m (actions.Purge x) y p o q e =
      let left = filter (λ (r : Name × List ℕ). not (goes m x r.0)) in
      chosen (goes m x y) None p _ _ (lifted (what_is_left m x)
      (both_halfwise (with_nodes (without x)) (with_members left) (nodes_halfwise (without x))
      (members_halfwise left)) p o q e)
  becomes_halfwise m (actions.Split w i v) y p o q e =
      let shorter = with_nodes (take (i + 1)) in
      chosen (is_same y v) (Some (split_off m w i)) p _ _
      (lifted (split_row w i v y)
      (both_halfwise (with_members (split_members w v)) (at_name w shorter y) (members_halfwise (split_members w v))
      (if_halfwise (is_same w y) shorter (nodes_halfwise (take (i + 1))))) p o q e)
  becomes_halfwise m (actions.Join w v) y p o q e =
      let longer = λ (list : List Name). end_to_end list (nodes_of (row_at m v)) in
      let more = λ (tags : Pairs). both_tags tags (row_tags (row_at m v)) in
      lifted (join_row m w v y)
      (both_halfwise (with_members (joined_members w v)) (at_name w (lengthened m v) y)
      (members_halfwise (joined_members w v))
      (if_halfwise (is_same w y) (lengthened m v)
      (both_halfwise (with_nodes longer) (with_tags more) (nodes_halfwise longer) (tags_halfwise more)))) p _ _
      (chosen (is_same y v) None p o q e)
  becomes_halfwise m (actions.Merge k g) y p o q e =
      let more = λ (tags : Pairs). both_tags tags (row_tags (row_at m g)) in
      lifted (merge_row m k g y)
      (both_halfwise (with_nodes (merged_nodes k g))
      (λ u. with_members (renamed_members g k) (at_name k (united m g) y u)) (nodes_halfwise (merged_nodes k g))
      (both_halfwise (with_members (renamed_members g k)) (at_name k (united m g) y)
      (members_halfwise (renamed_members g k)) (if_halfwise (is_same k y) (united m g) (tags_halfwise more)))) p _ _
      (chosen (is_same y g) None p o q e)
  becomes_halfwise m (actions.Unglue w i v) y p o q e =
      let other = λ (list : List Name). set list i v in
      chosen (is_same y v) (row_standing m w i) p _ _ (at_one w y (with_nodes other) (nodes_halfwise other) p o q e)
