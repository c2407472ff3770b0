-- The rows that an accepted split, join or merge changes in addition to its subjects', and the way that an unglue
-- changes.
use Rattle.std.proofs.Common.{sym, ap, ◌∙◌}
use Rattle.std.specs.Prelude.{◌≡◌, ◌≢◌, ◌+◌, ◌++◌, ℕ, Bool, true, false, ◌||◌, List, [], ◌∷◌, Option, Some, None, is_some, take, map, refl, cond, option_map}
use Rattle.edit_simple.specs.Prelude.{is_node, Rows, is_same, is_among, is_present, row_at, same_names, is_eq-name_cmp_itself, references, row_references, is_sound, first_that_holds, with_nodes, with_members, told_way, or_left, or_right, all_listed, fine}
use Rattle.osm_elements.specs.declared.name.Name.{Name}
use Rattle.osm_elements.specs.declared.element.Element.{Element}
use Rattle.osm_elements.specs.declared.element.Element.TheVariants.{Node, Way, Relation}
use Rattle.edit_topology.specs.Join.{join_checks, after_join, join_row}
use Rattle.edit_topology.specs.Merge.{merge_checks, after_merge, merge_row}
use Rattle.edit_topology.specs.Split.{split_members, split_checks, after_split, split_row, split_off}
use Rattle.edit_topology.specs.Unglue.{unglue_checks, after_unglue}
use Rattle.edit_topology.specs.Facts.EachBut.{each_but_gone}
use Rattle.edit_topology.specs.Facts.Fitting.{way_fits}
use Rattle.edit_topology.specs.Facts.Joining.{join_accepted}
use Rattle.edit_topology.specs.Facts.Merging.{merge_accepted}
use Rattle.edit_topology.specs.Facts.Splitting.{Splits, splits, row_at-after_split}
use Rattle.edit_topology.specs.Facts.Ungluing.{Unglues, unglues, not_new, way_after, new_among}

-- if w is a member, v is a member after the split
split_names : (w v : Name) (members : List (Name × List ℕ)) → is_among (map (λ r. r.0) members) w ≡ true → is_among (map (λ r. r.0) (split_members w v members)) v ≡ true
split_names w v [] h = absurd (cc)
split_names w v (r ∷ rs) h = by (is_same w r.0) h (split_names w v rs)
  where
    by : (b : Bool) → (b || is_among (map (λ s. s.0) rs) w) ≡ true → (is_among (map (λ s. s.0) rs) w ≡ true → is_among (map (λ s. s.0) (split_members w v rs)) v ≡ true)
        → is_among (map (λ s. s.0) (cond b (r ∷ (v, r.1) ∷ []) (r ∷ []) ++ split_members w v rs)) v ≡ true
    by true i rest = or_right (is_same v r.0) (is_same v v || is_among (map (λ s. s.0) (split_members w v rs)) v) (or_left (is_same v v) (is_among (map (λ s. s.0) (split_members w v rs)) v) (is_eq-name_cmp_itself v))
    by false i rest = or_right (is_same v r.0) (is_among (map (λ s. s.0) (split_members w v rs)) v) (rest i)

module _ {A : Type 0} where
  -- no element of a sound map refers to an absent name
  nothing_names : (m : Rows A) (x y : Name) → is_sound m ≡ true → is_present m x ≡ false → is_among (row_references (row_at m y)) x ≡ false
  nothing_names m x y sound gone = by (row_at m y) refl
    where
      no : (u : Element A) → row_at m y ≡ Some u → (b : Bool) → is_among (references u) x ≡ b → b ≡ false
      no u is true e = absurd (cc (sym ((fine m sound y u is).refs x e) ∙ gone))
      no u is false e = refl

      by : (o : Option (Element A)) → row_at m y ≡ o → is_among (row_references o) x ≡ false
      by None is = refl
      by (Some u) is = no u is (is_among (references u) x) refl

  -- a row that refers to x differs from a row that does not
  apart_rows : (x : Name) (o p : Option (Element A)) → is_among (row_references o) x ≡ true → is_among (row_references p) x ≡ false → o ≢ p
  apart_rows x o p one other e = cc (sym one ∙ ap (λ z. is_among (row_references z) x) e ∙ other)

  pub split_changes : (m : Rows A) (w : Name) (i : ℕ) (v y : Name) → is_sound m ≡ true → first_that_holds (split_checks m w i v) ≡ None → is_among (row_references (row_at m y)) w ≡ true → row_at (after_split m w i v) y ≢ row_at m y
  split_changes m w i v y sound ok named = apart_rows v (row_at (after_split m w i v) y) (row_at m y) (ap (λ o. is_among (row_references o) v) (row_at-after_split m w i v y) ∙ new (is_same y v) refl) (nothing_names m v y sound s.fresh)
    where
      s : Splits m w i v
      s = splits m w i v sound ok

      no_row : (o : Option (Element A)) → is_some o ≡ false → is_among (row_references o) w ≡ true → ⊥
      no_row None e h = cc
      no_row (Some u) e h = cc

      -- w is not a node's name
      no_node : is_node w.kind ≡ true → ⊥
      no_node h = cc (sym h ∙ ap is_node (told_way w.kind s.way_w))

      of : (u : Element A) (b : Bool) → row_at m y ≡ Some u → is_among (references u) w ≡ true → is_among (references (with_members (split_members w v) (cond b (with_nodes (take (i + 1)) u) u))) v ≡ true
      of (Node lat lon tags) b is h = absurd (cc)
      of (Way nodes tags) b is h = absurd (no_node (all_listed (λ n. is_node n.kind) nodes w (way_fits m y nodes tags (fine m sound y (Way nodes tags) is)).made h))
      of (Relation members tags) true is h = split_names w v members h
      of (Relation members tags) false is h = split_names w v members h

      row : (o : Option (Element A)) → row_at m y ≡ o → is_among (row_references o) w ≡ true → is_among (row_references (option_map (split_row w i v y) o)) v ≡ true
      row None is h = absurd (cc)
      row (Some u) is h = of u (is_same w y) is h

      new : (b : Bool) → is_same y v ≡ b → is_among (row_references (cond b (Some (split_off m w i)) (option_map (split_row w i v y) (row_at m y)))) v ≡ true
      new true t = absurd (no_row (row_at m y) (ap (is_present m) (same_names y v t) ∙ s.fresh) named)
      new false t = row (row_at m y) refl named

  pub join_changes : (m : Rows A) (w v y : Name) → is_sound m ≡ true → first_that_holds (join_checks m w v) ≡ None → is_among (row_references (row_at m y)) v ≡ true → row_at (after_join m w v) y ≢ row_at m y
  join_changes m w v y sound ok named e =
      apart_rows v (row_at m y) (row_at (after_join m w v) y) named (nothing_names (after_join m w v) v y (join_accepted m w v sound ok).0 (each_but_gone m v (join_row m w v))) (sym e)

  pub merge_changes : (m : Rows A) (k g y : Name) → is_sound m ≡ true → first_that_holds (merge_checks m k g) ≡ None → is_among (row_references (row_at m y)) g ≡ true → row_at (after_merge m k g) y ≢ row_at m y
  merge_changes m k g y sound ok named e =
      apart_rows g (row_at m y) (row_at (after_merge m k g) y) named (nothing_names (after_merge m k g) g y (merge_accepted m k g sound ok).0 (each_but_gone m g (merge_row m k g))) (sym e)

  pub unglue_changes : (m : Rows A) (w : Name) (i : ℕ) (v : Name) → is_sound m ≡ true → first_that_holds (unglue_checks m w i v) ≡ None → row_at (after_unglue m w i v) w ≢ row_at m w
  unglue_changes m w i v sound ok = apart_rows v (row_at (after_unglue m w i v) w) (row_at m w) new (nothing_names m v w sound s.fresh)
    where
      s : Unglues m w i v
      s = unglues m w i v sound ok

      new : is_among (row_references (row_at (after_unglue m w i v) w)) v ≡ true
      new = ap (λ o. is_among (row_references o) v) (way_after m w i v (not_new m w i v s) (Way s.nodes s.tags) s.row) ∙ new_among s.nodes i v s.inside
