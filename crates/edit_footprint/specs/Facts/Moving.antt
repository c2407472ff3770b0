-- A move looks only at its footprint.
use Rattle.std.proofs.Common.{sym, ap, ◌∙◌}
use Rattle.std.specs.Prelude.{◌≡◌, ◌&&◌, ◌||◌, ℤ, pos, Bool, true, false, not, List, [], ◌∷◌, Option, Some, None, length, nat_eq, refl, cond, filter, option_map}
use Rattle.std.proofs.lemmas.Bool.{or_from, false_from_ne_true, and_left, and_right}
use Rattle.edit_actions.specs.Prelude.{list_any, int_eq, is_node, Rows, is_same, is_among, is_present, is_absent, row_at, Pairs, first_true, row_references, rest_at, half, rest_of, is_sound, same_whole, same_presence, sound_in_order, is_moved, moved_by, is_out_of_range, left_range, moves, nodes_of, nones, not_so, no_least, node_there, or_right, second_false, is_among_own, elsewhere, all_present, none_named, after, checks, refusal}
use Rattle.osm_elements.specs.declared.name.Name.{Name}
use Rattle.osm_elements.specs.declared.element.Element.{Element}
use Rattle.osm_changes.specs.declared.half.Half.{Half}
use Rattle.osm_changes.specs.declared.half.Half.TheVariants.{Place}
use Rattle.osm_changes.specs.declared.part.Part.TheVariants.{Tags, Rest}
use Rattle.room_interface.specs.declared.refusal.Refusal.{Refusal}
use Rattle.room_interface.specs.declared.refusal.Refusal.TheVariants.{Absent, OutOfRange, Nothing}
use Rattle.room_interface.specs.declared.action.Action.{Action}
use Rattle.room_interface.specs.declared.action.Action.TheVariants.{Move}
use Rattle.edit_footprint.specs.Footprints.{reaches, footprint}
use Rattle.edit_footprint.specs.Facts.AcceptedAlike.{IsLocal, accepted_alike}
use Rattle.edit_footprint.specs.Facts.Agreeing.{same_subject}
use Rattle.edit_footprint.specs.Facts.Becoming.{row_at-after}
use Rattle.edit_footprint.specs.Facts.CellSets.{has-rests}
use Rattle.edit_footprint.specs.Facts.Footprints.{not_a_subject, halves_outside}
use Rattle.edit_footprint.specs.Facts.Halfwise.{keeps_moved, keeps_if, tags_kept}
use Rattle.edit_footprint.specs.Facts.Halves.{same_nodes_of}
use Rattle.edit_footprint.specs.Facts.Naming.{named_there, none_of_nodes}
use Rattle.edit_footprint.specs.Facts.Reaching.{not_written}
use Rattle.edit_footprint.specs.Facts.NonePassing.{none_of_list, none_of_map}
use Rattle.osm_elements.specs.declared.element.Element.TheVariants as elements

-- tests that agree on each name of a list
any_alike : (p q : Name → Bool) (list : List Name) → ((e : Name) → is_among list e ≡ true → p e ≡ q e) → list_any p list ≡ list_any q list
any_alike p q [] h = refl
any_alike p q (x ∷ xs) h =
    let own = h x (is_among_own x xs) in
    let rest = any_alike p q xs (λ e i. h e (or_right (is_same e x) (is_among xs e) i)) in
    λ j. own j || rest j

-- a test that no name passes
none_at_all : (p : Name → Bool) (list : List Name) → ((e : Name) → p e ≡ false) → list_any p list ≡ false
none_at_all p [] h = refl
none_at_all p (x ∷ xs) h = or_from (p x) (list_any p xs) (h x) (none_at_all p xs h)

some_inside : {X : Type 0} (x y : X) → Some x ≡ Some y → x ≡ y
some_inside x y e = cc

module _ {A : Type 0} where
  -- a move keeps the tags of every row
  tags_stay : (m : Rows A) (list : List Name) (dlat dlon : ℤ) (y : Name) → half Tags (row_at (after m (Move list dlat dlon)) y) ≡ half Tags (row_at m y)
  tags_stay m list dlat dlon y =
      ap (half Tags) (row_at-after m (Move list dlat dlon) y)
      ∙ tags_kept (moves m list dlat dlon y) (keeps_if (is_moved m list y) (moved_by dlat dlon) (keeps_moved dlat dlon)) (row_at m y)

  -- a row whose rest is outside is unchanged
  row_stays : (m : Rows A) (list : List Name) (dlat dlon : ℤ) (y : Name) → reaches (footprint m (Move list dlat dlon)) (rest_at y) ≡ false → row_at (after m (Move list dlat dlon)) y ≡ row_at m y
  row_stays m list dlat dlon y out =
      let a : Action A = Move list dlat dlon in same_whole (row_at (after m a) y) (row_at m y) (tags_stay m list dlat dlon y) (halves_outside m a (rest_at y) (not_written (footprint m a) (rest_at y) out))

  -- a present node that is moved has a different place afterwards, so its row changes
  moved_away : (m : Rows A) (list : List Name) (dlat dlon : ℤ) → is_sound m ≡ true → refusal m (Move list dlat dlon) ≡ None
      → (y : Name) → is_node y.kind ≡ true → is_present m y ≡ true → is_moved m list y ≡ true → reaches (footprint m (Move list dlat dlon)) (rest_at y) ≡ false → ⊥
  moved_away m list dlat dlon sound ok y node here moved out = let row = node_there m y sound node here in still row.0 row.1 row.2 row.3
    where
      a : Action A
      a = Move list dlat dlon

      some_distance : (int_eq dlat (pos 0) && int_eq dlon (pos 0)) ≡ false
      some_distance = second_false (nat_eq (length list) 0) (int_eq dlat (pos 0) && int_eq dlon (pos 0))
          (not_so {X = Refusal A} (nat_eq (length list) 0 || (int_eq dlat (pos 0) && int_eq dlon (pos 0))) Nothing (nones (checks m a) ok).1.1.1.0)

      still : (lat lon : ℤ) (tags : Pairs) → row_at m y ≡ Some (elements.Node lat lon tags) → ⊥
      still lat lon tags is = elsewhere lat lon dlat dlon tags some_distance
          (ap (λ b. Some (cond b (moved_by dlat dlon (elements.Node lat lon tags)) (elements.Node lat lon tags))) (sym moved)
          ∙ ap (option_map (moves m list dlat dlon y)) (sym is) ∙ sym (row_at-after m a y) ∙ row_stays m list dlat dlon y out ∙ is)

  -- no name whose rest is outside is moved
  none_moved : (m : Rows A) (list : List Name) (dlat dlon : ℤ) → is_sound m ≡ true → refusal m (Move list dlat dlon) ≡ None
      → (y : Name) → reaches (footprint m (Move list dlat dlon)) (rest_at y) ≡ false → is_moved m list y ≡ false
  none_moved m list dlat dlon sound ok y out = false_from_ne_true (is_moved m list y) (λ moved. by (is_present m y) refl moved)
    where
      in_a_way : Name → Bool
      in_a_way w = is_among (nodes_of (row_at m w)) y

      -- an absent name is not a node of a way
      in_none : is_present m y ≡ false → (w : Name) → in_a_way w ≡ false
      in_none gone w = none_of_nodes (row_at m w) y (false_from_ne_true (is_among (row_references (row_at m w)) y) (λ named. cc (sym (named_there m sound w y named) ∙ gone)))

      by : (b : Bool) → is_present m y ≡ b → is_moved m list y ≡ true → ⊥
      by true here moved = moved_away m list dlat dlon sound ok y (first_true (is_node y.kind) (is_among list y || list_any in_a_way list) moved) here moved out
      by false gone moved = cc (sym moved
          ∙ and_right (is_node y.kind) (is_among list y || list_any in_a_way list)
          (or_from (is_among list y) (list_any in_a_way list) (sym (has-rests list y) ∙ not_a_subject m (Move list dlat dlon) (rest_at y) out) (none_at_all in_a_way list (in_none gone))))

  -- the rest of an element determines whether it leaves the range
  abbrev is_far : ℤ → ℤ → Half A → Bool
  is_far dlat dlon (Place lat lon) = let bare : Element A = elements.Node lat lon [] in is_out_of_range (moved_by dlat dlon bare)
  is_far dlat dlon h = false

  far_by_rest : (dlat dlon : ℤ) (u : Element A) → is_out_of_range (moved_by dlat dlon u) ≡ is_far dlat dlon (rest_of u)
  far_by_rest dlat dlon (elements.Node lat lon tags) = refl
  far_by_rest dlat dlon (elements.Way nodes tags) = refl
  far_by_rest dlat dlon (elements.Relation members tags) = refl

  pub move_local : (list : List Name) (dlat dlon : ℤ) → IsLocal {A = A} (Move list dlat dlon)
  move_local list dlat dlon m n sound sound_n ok agree =
      accepted_alike m n a agree (λ y o. ap (λ b. option_map (λ v. cond b (moved_by dlat dlon v) v) o) (same_moved y))
      (λ y out. tags_stay n list dlat dlon y)
      (λ y out. ap (half Rest) (row_at-after n a y ∙ ap (λ b. option_map (λ v. cond b (moved_by dlat dlon v) v) (row_at n y)) (same_moved y ∙ stays y out) ∙ as_it_was (row_at n y)))
      same ok
    where
      a : Action A
      a = Move list dlat dlon

      stays : (y : Name) → reaches (footprint m a) (rest_at y) ≡ false → is_moved m list y ≡ false
      stays = none_moved m list dlat dlon sound ok

      as_it_was : (o : Option (Element A)) → option_map (λ v. v) o ≡ o
      as_it_was None = refl
      as_it_was (Some v) = refl

      same_rest : (w : Name) → is_among list w ≡ true → half Rest (row_at m w) ≡ half Rest (row_at n w)
      same_rest w i = same_subject m n a agree Rest w (has-rests list w ∙ i)

      -- the same nodes are moved, because the listed elements have the same nodes
      same_moved : (y : Name) → is_moved n list y ≡ is_moved m list y
      same_moved y = ap (λ b. is_node y.kind && (is_among list y || b))
          (any_alike (λ w. is_among (nodes_of (row_at n w)) y) (λ w. is_among (nodes_of (row_at m w)) y) list (λ w i. ap (λ l. is_among l y) (sym (same_nodes_of (row_at m w) (row_at n w) (same_rest w i)))))

      -- all listed names are in both maps
      here : filter (is_absent m) list ≡ []
      here = no_least {A = A} Absent (filter (is_absent m) list) (nones (checks m a) ok).1.0

      here_too : filter (is_absent n) list ≡ []
      here_too = none_of_list (is_absent n) list
          (λ e i. ap not (sym (same_presence Rest (row_at m e) (row_at n e) (same_rest e i))) ∙ ap not (all_present m list (nones (checks m a) ok).1.0 e i))

      -- no moved node leaves the range in either map
      within : left_range m list dlat dlon ≡ []
      within = no_least {A = A} OutOfRange (left_range m list dlat dlon) (nones (checks m a) ok).1.1.0

      within_too : left_range n list dlat dlon ≡ []
      within_too = none_of_map (λ r. is_moved n list r.0 && is_out_of_range (moved_by dlat dlon r.1)) n (sound_in_order n sound_n)
          (λ y v is. ap (λ b. b && is_out_of_range (moved_by dlat dlon v)) (same_moved y) ∙ by y v is (reaches (footprint m a) (rest_at y)) refl)
        where
          -- m has a row there with the same rest
          alike : (y : Name) (v : Element A) (o : Option (Element A)) → row_at m y ≡ o → half Rest o ≡ Some (rest_of v) → (is_moved m list y && is_out_of_range (moved_by dlat dlon v)) ≡ false
          alike y v None is e = absurd (cc)
          alike y v (Some u) is e =
              ap (λ b. is_moved m list y && b) (far_by_rest dlat dlon v ∙ ap (is_far dlat dlon) (sym (some_inside (rest_of u) (rest_of v) e)) ∙ sym (far_by_rest dlat dlon u))
              ∙ none_named (λ z w. is_moved m list z && is_out_of_range (moved_by dlat dlon w)) m within y u is

          by : (y : Name) (v : Element A) → row_at n y ≡ Some v → (b : Bool) → reaches (footprint m a) (rest_at y) ≡ b → (is_moved m list y && is_out_of_range (moved_by dlat dlon v)) ≡ false
          by y v is true i = alike y v (row_at m y) refl (agree.same_half (rest_at y) i ∙ ap (half Rest) is)
          by y v is false out = and_left (is_moved m list y) (is_out_of_range (moved_by dlat dlon v)) (stays y out)

      same : checks n a ≡ checks m a
      same = rw (here, here_too, within, within_too) refl
