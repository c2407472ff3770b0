-- A join looks only at its footprint.
use Rattle.std.proofs.Common.{sym, ap, ◌∙◌}
use Rattle.std.specs.Prelude.{◌≡◌, false, [], ◌∷◌, Option, None, refl, cond, option_map}
use Rattle.edit_actions.specs.Prelude.{Rows, is_same, is_among, row_at, same_either_way, row_references, rest_at, half, nodes_of, row_tags, with_nodes, with_tags, with_members, at_name, both_tags, end_to_end, joined_members, lengthened, join_row, after_join, join_changes, row_at-each_but, join_leaves, checks}
use Rattle.osm_elements.specs.declared.name.Name.{Name}
use Rattle.osm_elements.specs.declared.element.Element.{Element}
use Rattle.osm_changes.specs.declared.part.Part.TheVariants.{Tags, Rest}
use Rattle.room_interface.specs.declared.action.Action.{Action}
use Rattle.room_interface.specs.declared.action.Action.TheVariants.{Join}
use Rattle.edit_footprint.specs.Footprints.{reaches, footprint}
use Rattle.edit_footprint.specs.Facts.AcceptedAlike.{IsLocal, accepted_alike}
use Rattle.edit_footprint.specs.Facts.Agreeing.{same_row_of_owned, not_named}
use Rattle.edit_footprint.specs.Facts.Footprints.{owned_inside}
use Rattle.edit_footprint.specs.Facts.Halfwise.{keeps_members, keeps_both, keeps_unless, tags_kept}
use Rattle.edit_footprint.specs.Facts.Subjects.{first, second, another}

module _ {A : Type 0} where
  -- every row except those of the two ways keeps its tags
  join_tags : (m : Rows A) (w v y : Name) → is_same w y ≡ false → is_same y v ≡ false → half Tags (row_at (after_join m w v) y) ≡ half Tags (row_at m y)
  join_tags m w v y not_w not_v =
      ap (half Tags) (row_at-each_but m v (join_row m w v) y ∙ ap (λ b. option_map (join_row m w v y) (cond b None (row_at m y))) not_v)
      ∙ tags_kept (join_row m w v y)
      (keeps_both (with_members (joined_members w v)) (at_name w (lengthened m v) y) (keeps_members (joined_members w v)) (keeps_unless (is_same w y) (lengthened m v) not_w)) (row_at m y)

  pub join_local : (w v : Name) → IsLocal {A = A} (Join w v)
  join_local w v m n sound sound_n ok agree =
      accepted_alike m n a agree (λ y o. ap (λ r. option_map (joined r y) (cond (is_same y v) None o)) (sym row_v))
      (λ y out. join_tags n w v y (same_either_way w y ∙ another m a Tags w y (first w (v ∷ [])) out) (another m a Tags v y (second w v) out))
      (λ y out. ap (half Rest) (join_leaves n w v y (another m a Rest w y (first w (v ∷ [])) out) (another m a Rest v y (second w v) out) (unnamed y out))) same ok
    where
      a : Action A
      a = Join w v

      row_w : row_at m w ≡ row_at n w
      row_w = same_row_of_owned m n a agree w (first w (v ∷ []))

      row_v : row_at m v ≡ row_at n v
      row_v = same_row_of_owned m n a agree v (second w v)

      -- an element after a join, given v's row
      joined : Option (Element A) → Name → Element A → Element A
      joined r y e = with_members (joined_members w v) (at_name w (λ u. with_nodes (λ list. end_to_end list (nodes_of r)) (with_tags (λ tags. both_tags tags (row_tags r)) u)) y e)

      -- a row whose rest is outside does not refer to v, because all rows that do change
      unnamed : (y : Name) → reaches (footprint m a) (rest_at y) ≡ false → is_among (row_references (row_at n y)) v ≡ false
      unnamed = not_named m n a agree sound sound_n v (owned_inside m a v (second w v)) (λ y. join_changes m w v y sound ok)
          (λ y out. join_tags m w v y (same_either_way w y ∙ another m a Rest w y (first w (v ∷ [])) out) (another m a Rest v y (second w v) out))

      same : checks n a ≡ checks m a
      same = rw (← row_w, ← row_v) refl
