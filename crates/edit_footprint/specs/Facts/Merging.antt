-- A merge looks only at its footprint.
use Rattle.std.proofs.Common.{sym, ap, ◌∙◌}
use Rattle.std.specs.Prelude.{◌≡◌, ◌&&◌, Bool, true, false, List, [], ◌∷◌, Option, Some, None, length, nat_lt, refl, cond, option_map}
use Rattle.std.proofs.lemmas.Bool.{and_left}
use Rattle.edit_actions.specs.Prelude.{Rows, is_same, is_among, row_at, same_either_way, row_references, rest_at, half, sound_in_order, nodes_of, row_tags, with_nodes, with_tags, with_members, at_name, nones, no_least, both_tags, merged_nodes, shrunk, united, merge_row, after_merge, renamed_members, merge_changes, row_at-each_but, merges, merge_leaves, checks}
use Rattle.osm_elements.specs.declared.name.Name.{Name}
use Rattle.osm_elements.specs.declared.element.Element.{Element}
use Rattle.osm_changes.specs.declared.part.Part.TheVariants.{Tags, Rest}
use Rattle.room_interface.specs.declared.refusal.Refusal.TheVariants.{TooFew}
use Rattle.room_interface.specs.declared.action.Action.{Action}
use Rattle.room_interface.specs.declared.action.Action.TheVariants.{Merge}
use Rattle.edit_footprint.specs.Footprints.{reaches, footprint}
use Rattle.edit_footprint.specs.Facts.AcceptedAlike.{IsLocal, accepted_alike}
use Rattle.edit_footprint.specs.Facts.Agreeing.{same_row_of_owned, not_named}
use Rattle.edit_footprint.specs.Facts.Footprints.{owned_inside}
use Rattle.edit_footprint.specs.Facts.Halfwise.{keeps_nodes, keeps_members, keeps_both, keeps_unless, tags_kept}
use Rattle.edit_footprint.specs.Facts.Halves.{same_nodes_of}
use Rattle.edit_footprint.specs.Facts.Naming.{none_of_nodes}
use Rattle.edit_footprint.specs.Facts.NonePassing.{none_of_map}
use Rattle.edit_footprint.specs.Facts.Subjects.{first, second, another}

module _ {A : Type 0} where
  -- every row except those of the two nodes keeps its tags
  merge_tags : (m : Rows A) (k g y : Name) → is_same k y ≡ false → is_same y g ≡ false → half Tags (row_at (after_merge m k g) y) ≡ half Tags (row_at m y)
  merge_tags m k g y not_k not_g =
      ap (half Tags) (row_at-each_but m g (merge_row m k g) y ∙ ap (λ b. option_map (merge_row m k g y) (cond b None (row_at m y))) not_g)
      ∙ tags_kept (merge_row m k g y)
      (keeps_both (with_nodes (merged_nodes k g)) (λ u. with_members (renamed_members g k) (at_name k (united m g) y u)) (keeps_nodes (merged_nodes k g))
      (keeps_both (with_members (renamed_members g k)) (at_name k (united m g) y) (keeps_members (renamed_members g k)) (keeps_unless (is_same k y) (united m g) not_k))) (row_at m y)

  pub merge_local : (k g : Name) → IsLocal {A = A} (Merge k g)
  merge_local k g m n sound sound_n ok agree =
      accepted_alike m n a agree (λ y o. ap (λ r. option_map (merged r y) (cond (is_same y g) None o)) (sym row_g))
      (λ y out. merge_tags n k g y (same_either_way k y ∙ another m a Tags k y (first k (g ∷ [])) out) (another m a Tags g y (second k g) out))
      (λ y out. ap (half Rest) (merge_leaves n k g y (another m a Rest k y (first k (g ∷ [])) out) (another m a Rest g y (second k g) out) (unnamed y out))) same ok
    where
      a : Action A
      a = Merge k g

      row_k : row_at m k ≡ row_at n k
      row_k = same_row_of_owned m n a agree k (first k (g ∷ []))

      row_g : row_at m g ≡ row_at n g
      row_g = same_row_of_owned m n a agree g (second k g)

      -- an element after a merge, given g's row
      merged : Option (Element A) → Name → Element A → Element A
      merged r y e = with_nodes (merged_nodes k g) (with_members (renamed_members g k) (at_name k (with_tags (λ tags. both_tags tags (row_tags r))) y e))

      -- a row whose rest is outside does not refer to g, because all rows that do change
      unnamed : (y : Name) → reaches (footprint m a) (rest_at y) ≡ false → is_among (row_references (row_at n y)) g ≡ false
      unnamed = not_named m n a agree sound sound_n g (owned_inside m a g (second k g)) (λ y. merge_changes m k g y sound ok)
          (λ y out. merge_tags m k g y (same_either_way k y ∙ another m a Rest k y (first k (g ∷ [])) out) (another m a Rest g y (second k g) out))

      gets_too_short : List Name → Bool
      gets_too_short list = is_among list g && nat_lt (length (merged_nodes k g list)) 2

      -- no way that refers to g gets too short in either map
      long : shrunk m k g ≡ []
      long = no_least {A = A} TooFew (shrunk m k g) (nones (checks m a) ok).1.1.1.1.1.0

      long_too : shrunk n k g ≡ []
      long_too = none_of_map (λ r. gets_too_short (nodes_of (Some r.1))) n (sound_in_order n sound_n) (λ y u is. by y u is (reaches (footprint m a) (rest_at y)) refl)
        where
          -- m has a row there with the same rest
          alike : (y : Name) (u : Element A) (o : Option (Element A)) → row_at m y ≡ o → half Rest o ≡ half Rest (Some u) → gets_too_short (nodes_of (Some u)) ≡ false
          alike y u None is e = absurd (cc)
          alike y u (Some z) is e = ap gets_too_short (sym (same_nodes_of (Some z) (Some u) e)) ∙ (merges m k g ok).long y z is

          by : (y : Name) (u : Element A) → row_at n y ≡ Some u → (b : Bool) → reaches (footprint m a) (rest_at y) ≡ b → gets_too_short (nodes_of (Some u)) ≡ false
          by y u is true inside = alike y u (row_at m y) refl (agree.same_half (rest_at y) inside ∙ ap (half Rest) is)
          by y u is false out =
              and_left (is_among (nodes_of (Some u)) g) (nat_lt (length (merged_nodes k g (nodes_of (Some u)))) 2)
              (none_of_nodes (Some u) g (ap (λ o. is_among (row_references o) g) (sym is) ∙ unnamed y out))

      same : checks n a ≡ checks m a
      same = rw (← row_k, ← row_g, long, long_too) refl
