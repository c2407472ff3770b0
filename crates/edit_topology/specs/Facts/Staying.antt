-- The rows that a split, a join, a merge or an unglue leaves unchanged.
use Rattle.std.proofs.Common.{ap, ◌∙◌}
use Rattle.std.specs.Prelude.{◌≡◌, ◌+◌, ◌++◌, ℕ, false, List, [], ◌∷◌, Option, Some, None, take, map, set, refl, cond, option_map}
use Rattle.edit_simple.specs.Prelude.{Rows, is_same, is_among, row_at, same_either_way, references, row_references, with_nodes, with_members}
use Rattle.osm_elements.specs.declared.name.Name.{Name}
use Rattle.osm_elements.specs.declared.element.Element.{Element}
use Rattle.osm_elements.specs.declared.element.Element.TheVariants.{Node, Way, Relation}
use Rattle.edit_topology.specs.Join.{kept_members, joined_members, after_join, lengthened, join_row}
use Rattle.edit_topology.specs.Merge.{without_doubled, merged_nodes, after_merge, united, merge_row}
use Rattle.edit_topology.specs.Renaming.{renamed, renamed_members}
use Rattle.edit_topology.specs.Split.{split_members, after_split, split_row, split_off}
use Rattle.edit_topology.specs.Facts.EachBut.{row_at-each_but}
use Rattle.edit_topology.specs.Facts.Joining.{kept_on, not_on}
use Rattle.edit_topology.specs.Facts.Lists.{or_first, or_second}
use Rattle.edit_topology.specs.Facts.Renaming.{renamed_members_same}
use Rattle.edit_topology.specs.Facts.Splitting.{row_at-after_split}
use Rattle.edit_topology.specs.Facts.Ungluing.{unglue_row, row_at-after_unglue}
use Rattle.edit_topology.specs.Unglue.{row_standing, after_unglue}

-- ---- lists that do not have the name

pub split_members_same : (w v : Name) (members : List (Name × List ℕ)) → is_among (map (λ r. r.0) members) w ≡ false → split_members w v members ≡ members
split_members_same w v [] h = refl
split_members_same w v (r ∷ rs) h =
    ap (λ b. cond b (r ∷ (v, r.1) ∷ []) (r ∷ []) ++ split_members w v rs) (or_first (is_same w r.0) (is_among (map (λ s. s.0) rs) w) h)
    ∙ ap (λ l. r ∷ l) (split_members_same w v rs (or_second (is_same w r.0) (is_among (map (λ s. s.0) rs) w) h))

kept_members_same : (w v : Name) (before : Option (Name × List ℕ)) (members : List (Name × List ℕ)) → is_among (map (λ r. r.0) members) v ≡ false → kept_members w v before members ≡ members
kept_members_same w v before [] h = refl
kept_members_same w v before (r ∷ rs) h =
    kept_on w v before r rs (not_on w v before r (or_first (is_same v r.0) (is_among (map (λ s. s.0) rs) v) h))
    ∙ ap (λ l. r ∷ l) (kept_members_same w v (Some r) rs (or_second (is_same v r.0) (is_among (map (λ s. s.0) rs) v) h))

joined_members_same : (w v : Name) (members : List (Name × List ℕ)) → is_among (map (λ r. r.0) members) v ≡ false → joined_members w v members ≡ members
joined_members_same w v members h = ap (renamed_members v w) (kept_members_same w v None members h) ∙ renamed_members_same v w members h

merged_nodes_same : (k g : Name) (nodes : List Name) → is_among nodes g ≡ false → merged_nodes k g nodes ≡ nodes
merged_nodes_same k g nodes h = ap (λ b. cond b (without_doubled k (map (renamed g k) nodes)) nodes) h

-- ---- rows

module _ {A : Type 0} where
  -- a row whose element is unchanged, if it does not refer to x
  left : (f : Element A → Element A) (x : Name) → ((u : Element A) → is_among (references u) x ≡ false → f u ≡ u) → (o : Option (Element A)) → is_among (row_references o) x ≡ false → option_map f o ≡ o
  left f x same None h = refl
  left f x same (Some u) h = ap Some (same u h)

  pub split_leaves : (m : Rows A) (w : Name) (i : ℕ) (v y : Name) → is_same y w ≡ false → is_same y v ≡ false → is_among (row_references (row_at m y)) w ≡ false → row_at (after_split m w i v) y ≡ row_at m y
  split_leaves m w i v y not_w not_v none =
      row_at-after_split m w i v y ∙ ap (λ b. cond b (Some (split_off m w i)) (option_map (split_row w i v y) (row_at m y))) not_v
      ∙ left (split_row w i v y) w (λ u h. ap (λ b. with_members (split_members w v) (cond b (with_nodes (take (i + 1)) u) u)) (same_either_way w y ∙ not_w) ∙ same u h) (row_at m y) none
    where
      same : (u : Element A) → is_among (references u) w ≡ false → with_members (split_members w v) u ≡ u
      same (Node lat lon tags) h = refl
      same (Way nodes tags) h = refl
      same (Relation members tags) h = ap (λ l. Relation l tags) (split_members_same w v members h)

  pub join_leaves : (m : Rows A) (w v y : Name) → is_same y w ≡ false → is_same y v ≡ false → is_among (row_references (row_at m y)) v ≡ false → row_at (after_join m w v) y ≡ row_at m y
  join_leaves m w v y not_w not_v none =
      row_at-each_but m v (join_row m w v) y ∙ ap (λ b. option_map (join_row m w v y) (cond b None (row_at m y))) not_v
      ∙ left (join_row m w v y) v (λ u h. ap (λ b. with_members (joined_members w v) (cond b (lengthened m v u) u)) (same_either_way w y ∙ not_w) ∙ same u h) (row_at m y) none
    where
      same : (u : Element A) → is_among (references u) v ≡ false → with_members (joined_members w v) u ≡ u
      same (Node lat lon tags) h = refl
      same (Way nodes tags) h = refl
      same (Relation members tags) h = ap (λ l. Relation l tags) (joined_members_same w v members h)

  pub merge_leaves : (m : Rows A) (k g y : Name) → is_same y k ≡ false → is_same y g ≡ false → is_among (row_references (row_at m y)) g ≡ false → row_at (after_merge m k g) y ≡ row_at m y
  merge_leaves m k g y not_k not_g none =
      row_at-each_but m g (merge_row m k g) y ∙ ap (λ b. option_map (merge_row m k g y) (cond b None (row_at m y))) not_g
      ∙ left (merge_row m k g y) g (λ u h. ap (λ b. with_nodes (merged_nodes k g) (with_members (renamed_members g k) (cond b (united m g u) u))) (same_either_way k y ∙ not_k) ∙ same u h) (row_at m y) none
    where
      same : (u : Element A) → is_among (references u) g ≡ false → with_nodes (merged_nodes k g) (with_members (renamed_members g k) u) ≡ u
      same (Node lat lon tags) h = refl
      same (Way nodes tags) h = ap (λ l. Way l tags) (merged_nodes_same k g nodes h)
      same (Relation members tags) h = ap (λ l. Relation l tags) (renamed_members_same g k members h)

  pub unglue_leaves : (m : Rows A) (w : Name) (i : ℕ) (v y : Name) → is_same y w ≡ false → is_same y v ≡ false → row_at (after_unglue m w i v) y ≡ row_at m y
  unglue_leaves m w i v y not_w not_v =
      row_at-after_unglue m w i v y ∙ ap (λ b. cond b (row_standing m w i) (option_map (unglue_row w i v y) (row_at m y))) not_v ∙ same (row_at m y)
    where
      same : (o : Option (Element A)) → option_map (unglue_row w i v y) o ≡ o
      same None = refl
      same (Some u) = ap (λ b. Some (cond b (with_nodes (λ list. set list i v) u) u)) (same_either_way w y ∙ not_w)
