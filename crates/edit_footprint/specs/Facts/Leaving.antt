-- An action changes nothing outside its footprint.
use Rattle.std.proofs.Common.{sym, ◌∙◌}
use Rattle.std.specs.Prelude.{◌≡◌, true, Option, Some, None, refl}
use Rattle.edit_actions.specs.Prelude.{Rows, is_among, AreInOrder, row_at, row_references, refers_to, users, is_sound, sound_in_order, passes_at, rising_names, among_rows, after, AreInOrder-after}
use Rattle.osm_elements.specs.declared.name.Name.{Name}
use Rattle.osm_elements.specs.declared.element.Element.{Element}
use Rattle.osm_refs.specs.Facts.RisingNames.{same_rising}
use Rattle.room_interface.specs.declared.action.Action.{Action}
use Rattle.edit_footprint.specs.Locality.{LeavesTheRest}
use Rattle.edit_footprint.specs.Facts.Footprints.{halves_outside, presence_outside, namers_outside}

module _ {A : Type 0} where
  -- the users of a name are the names of the rows that refer to it
  pub is_among-users : (m : Rows A) → AreInOrder m → (e y : Name) → is_among (users m e) y ≡ is_among (row_references (row_at m y)) e
  is_among-users m h e y = among_rows (λ r. refers_to r.1 e) m h y ∙ by (row_at m y)
    where
      by : (o : Option (Element A)) → passes_at (λ r. refers_to r.1 e) y o ≡ is_among (row_references o) e
      by None = refl
      by (Some v) = refl

  -- a name has the same users if the same rows refer to it
  same_users : (m n : Rows A) → AreInOrder m → AreInOrder n → (e : Name) → ((y : Name) → is_among (row_references (row_at m y)) e ≡ is_among (row_references (row_at n y)) e) → users m e ≡ users n e
  same_users m n g h e is =
      same_rising (users m e) (users n e) (rising_names (λ r. refers_to r.1 e) m g) (rising_names (λ r. refers_to r.1 e) n h)
      (λ y. is_among-users m g e y ∙ is y ∙ sym (is_among-users n h e y))

  pub leaves_the_rest : (m : Rows A) (a : Action A) → is_sound m ≡ true → LeavesTheRest m a
  leaves_the_rest m a sound =
      let order = sound_in_order m sound in
      record { same_half = halves_outside m a; same_presence = presence_outside m a; same_users = λ e out. same_users (after m a) m (AreInOrder-after m a order) order e (namers_outside m a e out) }
