-- The works of the active entries lead from the base to the map of the journal.
use Rattle.std.proofs.Common.{◌≡◌, ◌+◌, ◌++◌, ℕ, suc, true, List, [], ◌∷◌, Some, None, length, refl, sym, ap, subst, ◌∙◌, arith}
use Rattle.room_history.specs.Prelude.{Rows, is_sound, footprint_of, changes, footprint, refusal, IsFootprint-footprint, Entry, Do, Redo, numbered, standing, Recorded, Past, past, mapof, recorded_of, recorded_next, action_at}
use Rattle.osm_changes.specs.Changes.{changed}
use Rattle.room_interface.specs.declared.edit.Edit.{Edit as Action}
use Rattle.room_interface.specs.MadeCalls.{is_made_edit as is_made_action}
use Rattle.edit_groups.specs.Facts.Accepted.{changes_lead}
use Rattle.room_history.proofs.Appending.{past-append, recorded_each, recorded-redo, standing-do, standing-redo}
use Rattle.room_history.proofs.Chains.{Work, Leads, leads_sound, leads-append}
use Rattle.room_history.proofs.Growing.{numbered_next}
use Rattle.room_history.proofs.Works.{AreRecorded, recorded-grown, recorded-joined}

module _ {A : Type 0} where
  -- the invariant of every journal
  pub record IsLed (base : Rows A) (j : List (Entry A)) : Type 0 where
    pub works : List (Work A)
    pub recorded : AreRecorded (past base j).entries (standing j) works
    pub leads : Leads base works (mapof base j)

  pub led_sound : (base : Rows A) (j : List (Entry A)) → is_sound base ≡ true → IsLed base j → is_sound (mapof base j) ≡ true
  led_sound base j sound led = leads_sound base led.works (mapof base j) sound led.leads

  -- a past with one more record
  abbrev with_recorded : Past A → Recorded A → Past A
  with_recorded p r = record { map = changed p.map r.changes; entries = p.entries ++ r ∷ [] }

  -- an accepted entry whose record is an action's, and which is the last active one
  pub led-work : (base : Rows A) (j : List (Entry A)) (e : Entry A) (a : Action A) → is_sound base ≡ true → IsLed base j → is_made_action a ≡ true → refusal (mapof base j) a ≡ None
      → recorded_next (past base j) e.kind ≡ recorded_of (mapof base j) a → standing (j ++ e ∷ []) ≡ standing j ++ (1 + length j) ∷ [] → IsLed base (j ++ e ∷ [])
  led-work base j e a sound led made ok records stands = record {
    works = led.works ++ w ∷ [];
    recorded = subst (λ (p : Past A). AreRecorded p.entries (standing (j ++ e ∷ [])) (led.works ++ w ∷ [])) (sym now) (subst (λ ss. AreRecorded (entries ++ r ∷ []) ss (led.works ++ w ∷ [])) (sym stands) are);
    leads = subst (λ (p : Past A). Leads base (led.works ++ w ∷ []) p.map) (sym now) (subst (Leads base (led.works ++ w ∷ [])) (sym (changes_lead m a (led_sound base j sound led) made ok))
        (leads-append base led.works w m led.leads (record { made = made; accepted = ok; same_changes = refl; same_footprint = refl })));
  }
    where
      m : Rows A
      m = mapof base j

      w : Work A
      w = record { action = a; changes = changes m a; touches = footprint m a; rises = IsFootprint-footprint m a; of_one = λ x is. ap (footprint m) is ∙ ap (λ e. footprint_of x (changes m e)) (sym is) }

      r : Recorded A
      r = recorded_of m a

      entries : List (Recorded A)
      entries = (past base j).entries

      now : past base (j ++ e ∷ []) ≡ with_recorded (past base j) r
      now = past-append base j e ∙ ap (with_recorded (past base j)) records

      number : suc (length entries) ≡ 1 + length j
      number = let same = recorded_each base j in omega (arith, same)

      are : AreRecorded (entries ++ r ∷ []) (standing j ++ (1 + length j) ∷ []) (led.works ++ w ∷ [])
      are = recorded-joined (entries ++ r ∷ []) (standing j) ((1 + length j) ∷ []) led.works (w ∷ []) (recorded-grown entries r (standing j) led.works led.recorded)
          (ap (numbered (entries ++ r ∷ [])) (sym number) ∙ numbered_next entries r, tt)

  -- an accepted action
  pub led-do : (base : Rows A) (j : List (Entry A)) (e : Entry A) (a : Action A) → is_sound base ≡ true → IsLed base j → e.kind ≡ Do a → is_made_action a ≡ true → refusal (mapof base j) a ≡ None → IsLed base (j ++ e ∷ [])
  led-do base j e a sound led k made ok = led-work base j e a sound led made ok (ap (recorded_next (past base j)) k) (standing-do j e a k)

  -- a redo of an action
  pub led-redo : (base : Rows A) (j : List (Entry A)) (e : Entry A) (t : ℕ) (a : Action A) → is_sound base ≡ true → IsLed base j → e.kind ≡ Redo t → action_at (past base j) t ≡ Some a
      → is_made_action a ≡ true → refusal (mapof base j) a ≡ None → IsLed base (j ++ e ∷ [])
  led-redo base j e t a sound led k acts made ok = led-work base j e a sound led made ok (ap (recorded_next (past base j)) k ∙ recorded-redo base j t a acts) (standing-redo j e t k)
