-- Facts about two maps that agree at the footprint of an action on the first.
use Rattle.std.proofs.Common.{sym, ap, ◌∙◌}
use Rattle.std.specs.Prelude.{◌≡◌, ◌≢◌, Bool, true, false, refl}
use Rattle.std.proofs.lemmas.Bool.{false_from_ne_true}
use Rattle.edit_actions.specs.Prelude.{Rows, is_among, is_present, row_at, row_references, users, tags_at, rest_at, half, is_sound, same_whole, sound_in_order, after}
use Rattle.osm_changes.specs.Cells.{has}
use Rattle.osm_elements.specs.declared.name.Name.{Name}
use Rattle.osm_changes.specs.declared.part.Part.{Part}
use Rattle.osm_changes.specs.declared.part.Part.TheVariants.{Tags, Rest}
use Rattle.room_interface.specs.declared.action.Action.{Action}
use Rattle.edit_footprint.specs.Agreement.{Agree}
use Rattle.edit_footprint.specs.Footprints.{owned, subjects, writes_presence, reaches_presence, reaches, footprint}
use Rattle.edit_footprint.specs.Facts.Footprints.{owned_inside, subjects_inside, halves_outside, namers_outside}
use Rattle.edit_footprint.specs.Facts.Halves.{same_references}
use Rattle.edit_footprint.specs.Facts.Leaving.{is_among-users}
use Rattle.edit_footprint.specs.Facts.Naming.{named_there}
use Rattle.edit_footprint.specs.Facts.Reaching.{not_written}
use Rattle.edit_footprint.specs.Facts.Subjects.{owned_reached}

module _ {A : Type 0} (m n : Rows A) (a : Action A) (agree : Agree m n (footprint m a)) where
  -- the half of a subject
  pub same_subject : (p : Part) (x : Name) → has (subjects a) (record { name = x; part = p }) ≡ true → half p (row_at m x) ≡ half p (row_at n x)
  same_subject p x own = agree.same_half (record { name = x; part = p }) (subjects_inside m a (record { name = x; part = p }) own)

  -- the row and the users of an element that the action owns
  pub same_row_of_owned : (x : Name) → is_among (owned a) x ≡ true → row_at m x ≡ row_at n x
  same_row_of_owned x own =
      same_whole (row_at m x) (row_at n x) (agree.same_half (tags_at x) (owned_reached m a Tags x own)) (agree.same_half (rest_at x) (owned_reached m a Rest x own))

  pub same_users_of_owned : (x : Name) → is_among (owned a) x ≡ true → users m x ≡ users n x
  same_users_of_owned x own = agree.same_users x (owned_inside m a x own)

  -- the rows that refer to a name whose presence the footprint writes
  same_namers : is_sound m ≡ true → is_sound n ≡ true → (e : Name) → writes_presence (footprint m a) e ≡ true → (y : Name) → is_among (row_references (row_at n y)) e ≡ is_among (row_references (row_at m y)) e
  same_namers sound sound_n e i y =
      sym (is_among-users n (sound_in_order n sound_n) e y) ∙ ap (λ list. is_among list y) (sym (agree.same_users e i)) ∙ is_among-users m (sound_in_order m sound) e y

  -- suppose all rows of m that refer to such a name change, and rows with their rest outside keep their tags; then no
  -- row of n with its rest outside refers to the name
  pub not_named : is_sound m ≡ true → is_sound n ≡ true → (e : Name) → writes_presence (footprint m a) e ≡ true
      → ((y : Name) → is_among (row_references (row_at m y)) e ≡ true → row_at (after m a) y ≢ row_at m y)
      → ((y : Name) → reaches (footprint m a) (rest_at y) ≡ false → half Tags (row_at (after m a) y) ≡ half Tags (row_at m y))
      → (y : Name) → reaches (footprint m a) (rest_at y) ≡ false → is_among (row_references (row_at n y)) e ≡ false
  not_named sound sound_n e i change tags y out =
      same_namers sound sound_n e i y
      ∙ false_from_ne_true (is_among (row_references (row_at m y)) e)
      (λ named. change y named (same_whole (row_at (after m a) y) (row_at m y) (tags y out) (halves_outside m a (rest_at y) (not_written (footprint m a) (rest_at y) out))))

  -- if the row of a name whose rest is reached refers to an element after the action, and m has the element, n has it
  -- too
  pub still_there : is_sound n ≡ true → (x e : Name) → reaches (footprint m a) (rest_at x) ≡ true → is_among (row_references (row_at (after m a) x)) e ≡ true → is_present m e ≡ true → is_present n e ≡ true
  still_there sound_n x e own named here = by (reaches_presence (footprint m a) e) refl
    where
      by : (b : Bool) → reaches_presence (footprint m a) e ≡ b → is_present n e ≡ true
      by true i = sym (agree.same_presence e i) ∙ here
      by false out = named_there n sound_n x e (ap (λ l. is_among l e) (sym (same_references (row_at m x) (row_at n x) (agree.same_half (rest_at x) own))) ∙ sym (namers_outside m a e out x) ∙ named)
