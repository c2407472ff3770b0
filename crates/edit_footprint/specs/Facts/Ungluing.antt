-- An unglue looks only at its footprint.
use Rattle.std.proofs.Common.{sym, ap, ◌∙◌}
use Rattle.std.specs.Prelude.{◌≡◌, ◌||◌, ℕ, Bool, true, false, List, [], ◌∷◌, map, set, Some, None, refl, cond, find, flat_map, slice_get, option_and_then, option_map, option_to_list}
use Rattle.std.proofs.lemmas.Bool.{true_from_ne_false}
use Rattle.edit_actions.specs.Prelude.{Rows, is_same, row_at, tags_at, rest_at, both_at, is_same_cell, half_at, differing, change_at, cell_of, half, is_sound, not_differing, same_cells, same_whole, nodes_of, with_nodes, row_standing, after_unglue, unglue_changes, unglue_leaves, Unglues, unglues, row_standing_is, unglue_row, row_at-after_unglue, not_new, after, changes, checks, refusal}
use Rattle.osm_changes.specs.Cells.{has}
use Rattle.osm_elements.specs.declared.name.Name.{Name}
use Rattle.osm_changes.specs.declared.cell.Cell.{Cell}
use Rattle.osm_changes.specs.declared.change.Change.{Change}
use Rattle.osm_changes.specs.declared.part.Part.{Part}
use Rattle.osm_changes.specs.declared.part.Part.TheVariants.{Tags, Rest}
use Rattle.room_interface.specs.declared.action.Action.{Action}
use Rattle.room_interface.specs.declared.action.Action.TheVariants.{Unglue}
use Rattle.edit_footprint.specs.Footprints.{half_nodes, half_before, reaches, footprint}
use Rattle.edit_footprint.specs.Facts.AcceptedAlike.{IsLocal, accepted_alike}
use Rattle.edit_footprint.specs.Facts.Agreeing.{same_row_of_owned}
use Rattle.edit_footprint.specs.Facts.CellSets.{has-own, has-more}
use Rattle.edit_footprint.specs.Facts.Footprints.{from_inside}
use Rattle.edit_footprint.specs.Facts.Halfwise.{keeps_if, keeps_nodes, tags_kept}
use Rattle.edit_footprint.specs.Facts.Halves.{nodes_by_half}
use Rattle.edit_footprint.specs.Facts.Subjects.{first, second, another}

-- both cells of a name are in its list
either : (p : Part) (x : Name) → has (tags_at x ∷ rest_at x ∷ []) (record { name = x; part = p }) ≡ true
either Tags x = has-own (tags_at x) (rest_at x ∷ [])
either Rest x = has-more (rest_at x) (tags_at x) (rest_at x ∷ []) (has-own (rest_at x) [])

module _ {A : Type 0} where
  first_before : (d : Change A) (cs : List (Change A)) (c : Cell) → half_before (d ∷ cs) c ≡ cond (is_same_cell c (cell_of d)) d.before (half_before cs c)
  first_before d cs c = by (is_same_cell c (cell_of d))
    where
      by : (b : Bool) → option_and_then (λ (e : Change A). e.before) (cond b (Some d) (find (λ (e : Change A). is_same_cell c (cell_of e)) cs)) ≡ cond b d.before (half_before cs c)
      by true = refl
      by false = refl

  -- if the changes have a cell, they have its earlier half
  half_before-map : (m n : Rows A) (cells : List Cell) (c : Cell) → half_before (map (change_at m n) cells) c ≡ cond (has cells c) (half_at m c) None
  half_before-map m n [] c = refl
  half_before-map m n (d ∷ ds) c =
      first_before (change_at m n d) (map (change_at m n) ds) c ∙ ap (λ h. cond (is_same_cell c d) (half_at m d) h) (half_before-map m n ds c) ∙ by (is_same_cell c d) refl
    where
      by : (b : Bool) → is_same_cell c d ≡ b → cond b (half_at m d) (cond (has ds c) (half_at m c) None) ≡ cond (b || has ds c) (half_at m c) None
      by true e = ap (half_at m) (sym (same_cells c d e))
      by false e = refl

  -- every row except the new one keeps its tags
  unglue_tags : (m : Rows A) (w : Name) (i : ℕ) (v y : Name) → is_same y v ≡ false → half Tags (row_at (after_unglue m w i v) y) ≡ half Tags (row_at m y)
  unglue_tags m w i v y other =
      ap (half Tags) (row_at-after_unglue m w i v y ∙ ap (λ b. cond b (row_standing m w i) (option_map (unglue_row w i v y) (row_at m y))) other)
      ∙ tags_kept (unglue_row w i v y) (keeps_if (is_same w y) (with_nodes (λ list. set list i v)) (keeps_nodes (λ list. set list i v))) (row_at m y)

  -- the footprint has both cells of the old node
  stood_inside : (m : Rows A) (w : Name) (i : ℕ) (v : Name) → is_sound m ≡ true → refusal m (Unglue w i v) ≡ None → (s : Unglues m w i v)
      → (p : Part) → reaches (footprint m (Unglue w i v)) (record { name = s.stood.name; part = p }) ≡ true
  stood_inside m w i v sound ok s p =
      from_inside m (Unglue w i v) stood
      (ap (λ h. has (flat_map both_at (option_to_list (slice_get (half_nodes h) i))) stood) before
      ∙ ap (λ l. has (flat_map both_at (option_to_list (slice_get l i))) stood) (sym (nodes_by_half (row_at m w)) ∙ ap nodes_of s.row)
      ∙ ap (λ o. has (flat_map both_at (option_to_list o)) stood) s.stood.at ∙ either p s.stood.name)
    where
      k : Rows A
      k = after m (Unglue w i v)

      stood : Cell
      stood = record { name = s.stood.name; part = p }

      -- the list of w changes, because its row changes and keeps its tags
      changed : has (differing m k) (rest_at w) ≡ true
      changed = true_from_ne_false (has (differing m k) (rest_at w))
          (λ out. unglue_changes m w i v sound ok (same_whole (row_at k w) (row_at m w) (unglue_tags m w i v w (not_new m w i v s)) (sym (not_differing m k (rest_at w) out))))

      before : half_before (changes m (Unglue w i v)) (rest_at w) ≡ half_at m (rest_at w)
      before = half_before-map m k (differing m k) (rest_at w) ∙ ap (λ b. cond b (half_at m (rest_at w)) None) changed

  pub unglue_local : (w : Name) (i : ℕ) (v : Name) → IsLocal {A = A} (Unglue w i v)
  unglue_local w i v m n sound sound_n ok agree =
      accepted_alike m n a agree (λ y o. ap (λ r. cond (is_same y v) r (option_map (unglue_row w i v y) o)) same_standing)
      (λ y out. unglue_tags n w i v y (another m a Tags v y (second w v) out))
      (λ y out. ap (half Rest) (unglue_leaves n w i v y (another m a Rest w y (first w (v ∷ [])) out) (another m a Rest v y (second w v) out))) same ok
    where
      a : Action A
      a = Unglue w i v

      s : Unglues m w i v
      s = unglues m w i v sound ok

      row_w : row_at m w ≡ row_at n w
      row_w = same_row_of_owned m n a agree w (first w (v ∷ []))

      row_stood : row_at m s.stood.name ≡ row_at n s.stood.name
      row_stood = same_whole (row_at m s.stood.name) (row_at n s.stood.name) (agree.same_half (tags_at s.stood.name) (stood_inside m w i v sound ok s Tags))
          (agree.same_half (rest_at s.stood.name) (stood_inside m w i v sound ok s Rest))

      -- the new node gets the same row in both maps
      same_standing : row_standing n w i ≡ row_standing m w i
      same_standing =
          ap (λ o. option_and_then (row_at n) (slice_get (nodes_of o) i)) (sym row_w ∙ s.row) ∙ ap (option_and_then (row_at n)) s.stood.at ∙ sym row_stood ∙ sym (row_standing_is m w i v s)

      same : checks n a ≡ checks m a
      same = let row_v = same_row_of_owned m n a agree v (second w v) in rw (← row_w, ← row_v) refl
