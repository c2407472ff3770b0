-- Actions accepted in order. If an action meets none of the later ones, it can be taken out of the middle.
use Rattle.std.proofs.Common.{◌≡◌, ◌++◌, true, List, [], ◌∷◌, Some, None, is_none, map, refl, cond, sym, ap, subst, ◌∙◌}
use Rattle.room_history.specs.Prelude.{Rows, Touch, IsFootprint, Change, inverse, is_sound, changed-inverse, sound_in_order, One, after, changes, refusal, footprint, accepted_keeps_sound, AreInOrder-after, ChangePlaces, meets, footprint_of, commutation, replay}
use Rattle.osm_changes.specs.Changes.{changed}
use Rattle.room_interface.specs.declared.action.Action.{Action as SingleAction}
use Rattle.room_interface.specs.declared.edit.Edit.{Edit as Action}
use Rattle.room_interface.specs.MadeCalls.{is_made_edit as is_made_action}

-- an action with its recorded changes and touches
pub record Work (A : Type 0) : Type 0 where
  pub action : Action A
  pub changes : List (Change A)
  pub touches : List Touch
  pub rises : IsFootprint touches
  -- the touches of one action follow from the action and its changes
  pub of_one : (a : SingleAction A) → action ≡ One a → touches ≡ footprint_of a changes

module _ {A : Type 0} where
  -- the recorded footprint
  abbrev pub touched : Work A → List Touch
  touched w = w.touches

  -- the map accepts the action, with the recorded changes and footprint
  pub record Accepts (m : Rows A) (w : Work A) : Type 0 where
    pub made : is_made_action w.action ≡ true
    pub accepted : refusal m w.action ≡ None
    pub same_changes : changes m w.action ≡ w.changes
    pub same_footprint : footprint m w.action ≡ w.touches

  -- the actions lead from the map m to the map end, each accepted as it was recorded
  abbrev pub Leads : Rows A → List (Work A) → Rows A → Type 0
  Leads m [] end = m ≡ end
  Leads m (w ∷ ws) end = Accepts m w × Leads (after m w.action) ws end

  -- none of the other works meets this one
  abbrev pub IsApart : Work A → List (Work A) → Type 0
  IsApart w [] = Unit {0}
  IsApart w (v ∷ vs) = (meets (touched w) (touched v) ≡ None) × IsApart w vs

  -- the others lead to a map that accepts this work as it was recorded, and then the work leads to the end
  pub record LeavesOut (m : Rows A) (w : Work A) (others : List (Work A)) (end : Rows A) : Type 0 where
    pub without : Rows A
    pub others_lead : Leads m others without
    pub accepts : Accepts without w
    pub gives : after without w.action ≡ end

  -- an accepted work keeps the map sound
  sound_after : (m : Rows A) (w : Work A) → is_sound m ≡ true → Accepts m w → is_sound (after m w.action) ≡ true
  sound_after m w sound h = (accepted_keeps_sound m w.action sound h.made h.accepted).0

  pub leads_sound : (m : Rows A) (ws : List (Work A)) (end : Rows A) → is_sound m ≡ true → Leads m ws end → is_sound end ≡ true
  leads_sound m [] end sound h = ap is_sound (sym h) ∙ sound
  leads_sound m (w ∷ ws) end sound h = leads_sound (after m w.action) ws end (sound_after m w sound h.0) h.1

  -- one more work at the end
  pub leads-append : (m : Rows A) (ws : List (Work A)) (w : Work A) (end : Rows A) → Leads m ws end → Accepts end w → Leads m (ws ++ w ∷ []) (after end w.action)
  leads-append m [] w end h a = (subst (λ n. Accepts n w) (sym h) a, ap (λ n. after n w.action) h)
  leads-append m (v ∷ vs) w end h a = (h.0, leads-append (after m v.action) vs w end h.1 a)

  -- the replay of the actions
  pub replays : (m : Rows A) (ws : List (Work A)) (end : Rows A) → Leads m ws end → replay m (map (λ (w : Work A). w.action) ws) ≡ Some end
  replays m [] end h = ap Some h
  replays m (w ∷ ws) end h =
      ap (λ o. cond (is_none o) (replay (after m w.action) (map (λ (v : Work A). v.action) ws)) None) h.0.accepted ∙ replays (after m w.action) ws end h.1

  -- two works that do not meet commute
  swapped : (m : Rows A) (w v : Work A) → is_sound m ≡ true → Accepts m w → Accepts (after m w.action) v → meets (touched w) (touched v) ≡ None → ChangePlaces m w.action v.action
  swapped m w v sound first next apart = commutation m w.action v.action sound first.made next.made first.accepted next.accepted
      ((λ i. meets (first.same_footprint i) (next.same_footprint i)) ∙ apart)

  -- a work moves past all later works
  moved_last : (m : Rows A) (w : Work A) (later : List (Work A)) (end : Rows A) → is_sound m ≡ true → Accepts m w → Leads (after m w.action) later end → IsApart w later → LeavesOut m w later end
  moved_last m w [] end sound first leads apart = record { without = m; others_lead = refl; accepts = first; gives = leads }
  moved_last m w (v ∷ vs) end sound first leads apart =
      let places = swapped m w v sound first leads.0 apart.0 in
      let b = places.second_first in
      let a = places.first_second in
      let accepts_v : Accepts m v = record { made = leads.0.made; accepted = b.accepted; same_changes = b.same_changes ∙ leads.0.same_changes; same_footprint = b.same_footprint ∙ leads.0.same_footprint } in
      let accepts_w : Accepts (after m v.action) w = record { made = first.made; accepted = a.accepted; same_changes = a.same_changes ∙ first.same_changes; same_footprint = a.same_footprint ∙ first.same_footprint } in
      let rest = moved_last (after m v.action) w vs end (sound_after m v sound accepts_v) accepts_w (subst (λ n. Leads n vs end) (sym places.same_map) leads.1) apart.1 in
      record { without = rest.without; others_lead = (accepts_v, rest.others_lead); accepts = rest.accepts; gives = rest.gives }

  -- a work is taken out of the middle
  pub left_out : (m : Rows A) (earlier : List (Work A)) (w : Work A) (later : List (Work A)) (end : Rows A) → is_sound m ≡ true → Leads m (earlier ++ w ∷ later) end → IsApart w later → LeavesOut m w (earlier ++ later) end
  left_out m [] w later end sound leads apart = moved_last m w later end sound leads.0 leads.1 apart
  left_out m (v ∷ vs) w later end sound leads apart =
      let rest = left_out (after m v.action) vs w later end (sound_after m v sound leads.0) leads.1 apart in
      record { without = rest.without; others_lead = (leads.0, rest.others_lead); accepts = rest.accepts; gives = rest.gives }

  -- the inverse of its changes leads to the map of the others
  pub taken_out : (m : Rows A) (w : Work A) (others : List (Work A)) (end : Rows A) → is_sound m ≡ true → (out : LeavesOut m w others end) → changed end (inverse w.changes) ≡ out.without
  taken_out m w others end sound out =
      let here = sound_in_order out.without (leads_sound m others out.without sound out.others_lead) in
      ap (λ n. changed n (inverse w.changes)) (sym out.gives) ∙ ap (λ cs. changed (after out.without w.action) (inverse cs)) (sym out.accepts.same_changes)
      ∙ changed-inverse out.without (after out.without w.action) here (AreInOrder-after out.without w.action here)
