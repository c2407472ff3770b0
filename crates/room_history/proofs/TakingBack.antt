-- The undo of an active entry that nothing blocks.
use Rattle.std.proofs.Common.{◌≡◌, ◌+◌, ◌++◌, ℕ, true, List, [], ◌∷◌, Some, None, length, sym, ap, subst, ◌∙◌, option_and_then}
use Rattle.room_history.specs.Prelude.{Rows, inverse, is_sound, after, changes, refusal, first_meeting, Entry, Undo, recorded_footprint, blocker, numbered, standing, is_standing, others, Recorded, Past, past, mapof, recorded_next, taken_back, replay, action_at, actions_of}
use Rattle.osm_changes.specs.Changes.{changed}
use Rattle.room_interface.specs.declared.edit.Edit.{Edit as Action}
use Rattle.room_interface.specs.MadeCalls.{is_made_edit as is_made_action}
use Rattle.room_history.proofs.Appending.{past-append, mapof-append, standing-undo}
use Rattle.room_history.proofs.Chains.{Work, Leads, LeavesOut, replays, left_out, taken_out}
use Rattle.room_history.proofs.Growing.{Rise-standing_from}
use Rattle.room_history.proofs.HeldEntries.{with_touches, blocker_is, is_apart}
use Rattle.room_history.proofs.Leading.{IsLed}
use Rattle.room_history.proofs.RisingNumbers.{Parted, parted}
use Rattle.room_history.proofs.Works.{as_recorded, AreRecorded, Places, recorded-grown, recorded-joined, placed, told}

module _ {A : Type 0} where
  -- the entry's position among the active entries and among their works, and the map that the other works lead to
  record IsFree (base : Rows A) (j : List (Entry A)) (s : ℕ) (works : List (Work A)) : Type 0 where
    place : Parted s (standing j)
    work : Places (past base j).entries place.earlier s place.later works
    out : LeavesOut base work.one (work.earlier ++ work.later) (mapof base j)
    leads_back : changed (mapof base j) (inverse work.one.changes) ≡ out.without

  is_free : (base : Rows A) (j : List (Entry A)) (s : ℕ) (led : IsLed base j) → is_sound base ≡ true → is_standing j s ≡ true → blocker (past base j) j s ≡ None → IsFree base j s led.works
  is_free base j s led sound stands free = record { place = part; work = at; out = out; leads_back = taken_out base at.one (at.earlier ++ at.later) (mapof base j) sound out }
    where
      p : Past A
      p = past base j

      part : Parted s (standing j)
      part = parted s 1 (standing j) (1 + length j) (Rise-standing_from 1 j) stands

      at : Places p.entries part.earlier s part.later led.works
      at = placed p.entries part.earlier s part.later led.works (subst (λ ss. AreRecorded p.entries ss led.works) part.whole led.recorded)

      out : LeavesOut base at.one (at.earlier ++ at.later) (mapof base j)
      out = left_out base at.earlier at.one at.later (mapof base j) sound (subst (λ ws. Leads base ws (mapof base j)) at.whole led.leads)
          (is_apart p s at.one part.later at.later at.is_one at.are_later
          (ap (λ ss. first_meeting (recorded_footprint p s) (with_touches (recorded_footprint p) ss)) (sym part.behind) ∙ sym (blocker_is p j s stands) ∙ free))

  module _ (base : Rows A) (j : List (Entry A)) (e : Entry A) (s : ℕ) (k : e.kind ≡ Undo s) where
    -- the record of its undo
    records : (works : List (Work A)) (free : IsFree base j s works) → (recorded_next (past base j) e.kind).changes ≡ inverse free.work.one.changes
    records works free = ap (λ k. (recorded_next (past base j) k).changes) k ∙ ap (λ o. (taken_back o).changes) free.work.is_one

    -- the map after its undo
    leaves : (works : List (Work A)) (free : IsFree base j s works) → mapof base (j ++ e ∷ []) ≡ free.out.without
    leaves works free = mapof-append base j e ∙ ap (changed (mapof base j)) (records works free) ∙ free.leads_back

    -- the works of the others are the records of the other entries
    others_recorded : (works : List (Work A)) (free : IsFree base j s works) → AreRecorded (past base j).entries (others j s) (free.work.earlier ++ free.work.later)
    others_recorded works free = subst (λ ss. AreRecorded (past base j).entries ss (free.work.earlier ++ free.work.later)) (sym free.place.others)
        (recorded-joined (past base j).entries free.place.earlier free.place.later free.work.earlier free.work.later free.work.are_earlier free.work.are_later)

    led-undo : (works : List (Work A)) → IsFree base j s works → IsLed base (j ++ e ∷ [])
    led-undo works free = record {
      works = ws;
      recorded = subst (λ (p : Past A). AreRecorded p.entries (standing (j ++ e ∷ [])) ws) (sym (past-append base j e))
          (subst (λ ss. AreRecorded ((past base j).entries ++ r ∷ []) ss ws) (sym (standing-undo j e s k)) (recorded-grown (past base j).entries r (others j s) ws (others_recorded works free)));
      leads = subst (Leads base ws) (sym (leaves works free)) free.out.others_lead;
    }
      where
        ws : List (Work A)
        ws = free.work.earlier ++ free.work.later

        r : Recorded A
        r = recorded_next (past base j) e.kind

  -- the journal after the undo; the undone action, which is accepted there and leads to the map before; and its record
  pub record Undone (base : Rows A) (j : List (Entry A)) (s : ℕ) (e : Entry A) : Type 0 where
    pub led : IsLed base (j ++ e ∷ [])
    pub action : Action A
    pub made : is_made_action action ≡ true
    pub acts : action_at (past base j) s ≡ Some action
    pub accepted : refusal (mapof base (j ++ e ∷ [])) action ≡ None
    pub before : after (mapof base (j ++ e ∷ [])) action ≡ mapof base j
    pub takes_back : (recorded_next (past base j) e.kind).changes ≡ inverse (changes (mapof base (j ++ e ∷ [])) action)
    pub was_recorded : Recorded A
    pub recorded : numbered (past base j).entries s ≡ Some was_recorded

  module _ (base : Rows A) (j : List (Entry A)) (e : Entry A) (s : ℕ) (sound : is_sound base ≡ true) (led : IsLed base j) (k : e.kind ≡ Undo s) (stands : is_standing j s ≡ true) (unblocked : blocker (past base j) j s ≡ None) where
    free : IsFree base j s led.works
    free = is_free base j s led sound stands unblocked

    pub undone : Undone base j s e
    undone = record {
      led = led-undo base j e s k led.works free;
      action = one.action;
      made = free.out.accepts.made;
      acts = ap (option_and_then (λ (r : Recorded A). r.action)) free.work.is_one;
      accepted = ap (λ m. refusal m one.action) map_is ∙ free.out.accepts.accepted;
      before = ap (λ m. after m one.action) map_is ∙ free.out.gives;
      takes_back = records base j e s k led.works free ∙ ap inverse (sym free.out.accepts.same_changes) ∙ ap (λ m. inverse (changes m one.action)) (sym map_is);
      was_recorded = as_recorded one;
      recorded = free.work.is_one;
    }
      where
        one : Work A
        one = free.work.one

        map_is : mapof base (j ++ e ∷ []) ≡ free.out.without
        map_is = leaves base j e s k led.works free

    -- a replay of the others gives the map after the undo
    pub rest_replays : replay base (actions_of (past base j) (others j s)) ≡ Some (mapof base (j ++ e ∷ []))
    rest_replays =
        let ws = free.work.earlier ++ free.work.later in
        ap (replay base) (told (past base j) (others j s) ws (others_recorded base j e s k led.works free)) ∙ replays base ws free.out.without free.out.others_lead
        ∙ ap Some (sym (leaves base j e s k led.works free))
