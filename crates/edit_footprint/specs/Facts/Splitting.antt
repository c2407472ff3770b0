-- A split looks only at its footprint.
use Rattle.std.proofs.Common.{sym, ap, ◌∙◌}
use Rattle.std.specs.Prelude.{◌≡◌, ◌&&◌, ◌+◌, ℕ, Bool, true, false, [], ◌∷◌, Option, Some, None, length, nat_lt, take, refl, cond, option_map}
use Rattle.std.proofs.lemmas.Bool.{and_left, and_right}
use Rattle.edit_actions.specs.Prelude.{Rows, is_same, is_among, row_at, row_references, refers_to, rest_at, half, most_members, sound_in_order, members_of, with_nodes, with_members, at_name, nones, no_least, split_members, overfull, split_row, split_off, after_split, split_changes, overfull_are_users, splits, row_at-after_split, split_leaves, checks}
use Rattle.osm_elements.specs.declared.name.Name.{Name}
use Rattle.osm_elements.specs.declared.element.Element.{Element}
use Rattle.osm_changes.specs.declared.part.Part.TheVariants.{Tags, Rest}
use Rattle.room_interface.specs.declared.refusal.Refusal.TheVariants.{TooMany}
use Rattle.room_interface.specs.declared.action.Action.{Action}
use Rattle.room_interface.specs.declared.action.Action.TheVariants.{Split}
use Rattle.edit_footprint.specs.Footprints.{reaches, footprint}
use Rattle.edit_footprint.specs.Facts.AcceptedAlike.{IsLocal, accepted_alike}
use Rattle.edit_footprint.specs.Facts.Agreeing.{same_row_of_owned, not_named}
use Rattle.edit_footprint.specs.Facts.Footprints.{owned_inside}
use Rattle.edit_footprint.specs.Facts.Halfwise.{keeps_nodes, keeps_members, keeps_both, keeps_if, tags_kept}
use Rattle.edit_footprint.specs.Facts.Halves.{same_members_of}
use Rattle.edit_footprint.specs.Facts.NonePassing.{none_of_map}
use Rattle.edit_footprint.specs.Facts.Subjects.{first, second, another}

module _ {A : Type 0} where
  -- every row except the new one keeps its tags
  split_tags : (m : Rows A) (w : Name) (i : ℕ) (v y : Name) → is_same y v ≡ false → half Tags (row_at (after_split m w i v) y) ≡ half Tags (row_at m y)
  split_tags m w i v y other =
      ap (half Tags) (row_at-after_split m w i v y ∙ ap (λ b. cond b (Some (split_off m w i)) (option_map (split_row w i v y) (row_at m y))) other)
      ∙ tags_kept (split_row w i v y)
      (keeps_both (with_members (split_members w v)) (at_name w shorter y) (keeps_members (split_members w v)) (keeps_if (is_same w y) shorter (keeps_nodes (take (i + 1))))) (row_at m y)
    where
      shorter : Element A → Element A
      shorter = with_nodes (take (i + 1))

  pub split_local : (w : Name) (i : ℕ) (v : Name) → IsLocal {A = A} (Split w i v)
  split_local w i v m n sound sound_n ok agree =
      accepted_alike m n a agree (λ y o. rw (← row_w) refl)
      (λ y out. split_tags n w i v y (another m a Tags v y (second w v) out))
      (λ y out. ap (half Rest) (split_leaves n w i v y (another m a Rest w y (first w (v ∷ [])) out) (another m a Rest v y (second w v) out) (unnamed y out))) same ok
    where
      a : Action A
      a = Split w i v

      row_w : row_at m w ≡ row_at n w
      row_w = same_row_of_owned m n a agree w (first w (v ∷ []))

      -- a row whose rest is outside does not refer to w, because all rows that do change
      unnamed : (y : Name) → reaches (footprint m a) (rest_at y) ≡ false → is_among (row_references (row_at n y)) w ≡ false
      unnamed = not_named m n a agree sound sound_n w (owned_inside m a w (first w (v ∷ []))) (λ y. split_changes m w i v y sound ok)
          (λ y out. split_tags m w i v y (another m a Rest v y (second w v) out))

      gets_too_long : Element A → Bool
      gets_too_long u = nat_lt most_members (length (split_members w v (members_of (Some u))))

      -- no relation gets too long in either map
      short : overfull m w v ≡ []
      short = no_least {A = A} TooMany (overfull m w v) (nones (checks m a) ok).1.1.1.1.1.0

      short_too : overfull n w v ≡ []
      short_too = overfull_are_users n w v sound_n ∙ none_of_map (λ r. refers_to r.1 w && gets_too_long r.1) n (sound_in_order n sound_n) (λ y u is. by y u is (reaches (footprint m a) (rest_at y)) refl)
        where
          -- m has a row there with the same rest
          alike : (y : Name) (u : Element A) (o : Option (Element A)) → row_at m y ≡ o → half Rest o ≡ half Rest (Some u) → gets_too_long u ≡ false
          alike y u None is e = absurd (cc)
          alike y u (Some z) is e = ap (λ l. nat_lt most_members (length (split_members w v l))) (sym (same_members_of (Some z) (Some u) e)) ∙ (splits m w i v sound ok).short y z is

          by : (y : Name) (u : Element A) → row_at n y ≡ Some u → (b : Bool) → reaches (footprint m a) (rest_at y) ≡ b → (refers_to u w && gets_too_long u) ≡ false
          by y u is true inside = and_right (refers_to u w) (gets_too_long u) (alike y u (row_at m y) refl (agree.same_half (rest_at y) inside ∙ ap (half Rest) is))
          by y u is false out = and_left (refers_to u w) (gets_too_long u) (ap (λ o. is_among (row_references o) w) (sym is) ∙ unnamed y out)

      same : checks n a ≡ checks m a
      same = let row_v = same_row_of_owned m n a agree v (second w v) in rw (← row_w, ← row_v, short, short_too) refl
