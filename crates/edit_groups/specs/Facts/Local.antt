-- An edit changes and looks at nothing outside its footprint, and keeps the map sound.
use Rattle.std.proofs.Common.{sym, ap, ◌∙◌}
use Rattle.std.specs.Prelude.{◌≡◌, ◌≢◌, ◌||◌, true, not, cond, List, [], ◌∷◌, ◌++◌, Option, Some, None, map, refl, filter}
use Rattle.edit_footprint.specs.Prelude.{Rows, name_set, names_of, AreInOrder, cells_of, half_at, change_at, differences, changed-differences, same_itself, are_same_halves, sound_in_order, is_sound, Agree, same_differences, is_made_edit, presence_read, presence_written, cell_written, touch_set, IsFootprint, IsFootprint-touch_set, does-touch_set, reaches_presence, writes, reaches, IsRooted, not_written, rooted-append, rooted-touch_set}
use Rattle.osm_drafts.specs.Prelude.{changed}
use Rattle.osm_elements.specs.declared.name.Name.{Name}
use Rattle.osm_changes.specs.declared.cell.Cell.{Cell}
use Rattle.osm_changes.specs.declared.change.Change.{Change}
use Rattle.room_interface.specs.declared.refusal.Refusal.{Refusal}
use Rattle.room_interface.specs.declared.action.Action.{Action}
use Rattle.room_interface.specs.declared.edit.Edit.{Edit}
use Rattle.room_interface.specs.declared.edit.Edit.TheVariants.{One, Group}
use Rattle.edit_groups.specs.Edits.{after, changes, refused_alone, refusal, footprint}
use Rattle.room_interface.specs.declared.edit_refusal.EditRefusal.{EditRefusal}
use Rattle.edit_groups.specs.Groups.{after_all, first_refused, nothing_changed, refused_or, group_changes, touched}
use Rattle.edit_groups.specs.Laws.{LeavesTheRest, AcceptedAlike}
use Rattle.edit_groups.specs.Facts.InTurn.{AreInOrder-after_all, sound_after_all, half_untouched, presence_untouched, users_untouched, agree_at_fewer, InTurnAlike, in_turn_alike}
use Rattle.edit_actions.specs.Facts.Accepted as accepted
use Rattle.edit_actions.specs.Refusals as of_actions
use Rattle.edit_footprint.specs.Facts.Footprints as of_one
use Rattle.edit_footprint.specs.Facts.Leaving as leaving
use Rattle.edit_footprint.specs.Facts.Locality as local
use Rattle.edit_footprint.specs.Footprints as actions
use Rattle.edit_actions.specs.After as actions_after

module _ {A : Type 0} where
  -- from an edit of one action to the action
  untold : (o : Option (Refusal A)) → refused_alone o ≡ None → o ≡ None
  untold None h = refl
  untold (Some why) h = absurd (cc)

  both_none : (o later : Option (EditRefusal A)) → refused_or o later ≡ None → (o ≡ None) × (later ≡ None)
  both_none None later h = (refl, h)
  both_none (Some r) later h = absurd (cc)

  some_changed : (cs : List (Change A)) → nothing_changed cs ≡ None → cs ≢ []
  some_changed [] h e = cc
  some_changed (c ∷ cs) h e = cc

  pub AreInOrder-after : (m : Rows A) (a : Edit A) → AreInOrder m → AreInOrder (after m a)
  AreInOrder-after m (One a) h = accepted.AreInOrder-after m a h
  AreInOrder-after m (Group g) h = AreInOrder-after_all m g h

  pub IsFootprint-footprint : (m : Rows A) (a : Edit A) → IsFootprint (footprint m a)
  IsFootprint-footprint m (One a) = of_one.IsFootprint-footprint_of a _
  IsFootprint-footprint m (Group g) = IsFootprint-touch_set (touched m g)

  rooted-touched : (m : Rows A) (g : List (Action A)) → IsRooted (touched m g)
  rooted-touched m [] = λ t i. absurd (cc)
  rooted-touched m (a ∷ rest) = rooted-append (actions.footprint m a) (touched (actions_after.after m a) rest) (of_one.rooted-footprint_of a _) (rooted-touched (actions_after.after m a) rest)

  pub rooted-footprint : (m : Rows A) (a : Edit A) → IsRooted (footprint m a)
  rooted-footprint m (One a) = of_one.rooted-footprint_of a _
  rooted-footprint m (Group g) = rooted-touch_set (touched m g) (rooted-touched m g)

  -- the changes of an edit lead to the map after it
  pub changes_lead : (m : Rows A) (a : Edit A) → is_sound m ≡ true → changed m (changes m a) ≡ after m a
  changes_lead m a sound = let order = sound_in_order m sound in changed-differences m (after m a) order (AreInOrder-after m a order)

  -- an accepted edit keeps the map sound
  pub keeps_sound : (m : Rows A) (a : Edit A) → is_sound m ≡ true → is_made_edit a ≡ true → refusal m a ≡ None → is_sound (after m a) ≡ true
  keeps_sound m (One a) sound made ok = (accepted.accepted_keeps_sound m a sound made (untold (of_actions.refusal m a) ok)).0
  keeps_sound m (Group g) sound made ok = sound_after_all m 0 g sound made (both_none (first_refused m 0 g) (nothing_changed (group_changes m g)) ok).0

  -- a map does not differ from itself
  none_differ : (m : Rows A) (cells : List Cell) → filter (λ c. not (are_same_halves (half_at m c) (half_at m c))) cells ≡ []
  none_differ m [] = refl
  none_differ m (c ∷ cs) =
      (λ i. cond (not (same_itself (half_at m c) i)) (c ∷ filter (λ d. not (are_same_halves (half_at m d) (half_at m d))) cs) (filter (λ d. not (are_same_halves (half_at m d) (half_at m d))) cs))
      ∙ none_differ m cs

  none_from_itself : (m : Rows A) → differences m m ≡ []
  none_from_itself m = ap (map (change_at m m)) (none_differ m (cells_of (name_set (names_of m ++ names_of m))))

  -- an accepted edit leads to another map
  pub another : (m : Rows A) (a : Edit A) → is_sound m ≡ true → is_made_edit a ≡ true → refusal m a ≡ None → after m a ≢ m
  another m (One a) sound made ok e = (accepted.accepted_keeps_sound m a sound made (untold (of_actions.refusal m a) ok)).1 e
  another m (Group g) sound made ok e =
      some_changed (group_changes m g) (both_none (first_refused m 0 g) (nothing_changed (group_changes m g)) ok).1 (ap (differences m) e ∙ none_from_itself m)

  pub leaves_the_rest : (m : Rows A) (a : Edit A) → is_sound m ≡ true → LeavesTheRest m a
  leaves_the_rest m (One a) sound = let rest = leaving.leaves_the_rest m a sound in record { same_half = rest.same_half; same_presence = rest.same_presence; same_users = rest.same_users }
  leaves_the_rest m (Group g) sound = record {
    same_half = λ c out. half_untouched m g c (same_writes c ∙ out);
    same_presence = λ x out. presence_untouched m g x (sym (does-touch_set (presence_written x) (touched m g)) ∙ out);
    same_users = λ e out. users_untouched m g (sound_in_order m sound) e (same_reaches e ∙ out);
  }
    where
      same_writes : (c : Cell) → writes (touched m g) c ≡ writes (touch_set (touched m g)) c
      same_writes c = λ i. sym (does-touch_set (presence_written c.name) (touched m g)) i || sym (does-touch_set (cell_written c) (touched m g)) i

      same_reaches : (e : Name) → reaches_presence (touched m g) e ≡ reaches_presence (touch_set (touched m g)) e
      same_reaches e = λ i. sym (does-touch_set (presence_written e) (touched m g)) i || sym (does-touch_set (presence_read e) (touched m g)) i

  -- an edit looks only at its footprint
  pub locality : (m n : Rows A) (a : Edit A) → is_sound m ≡ true → is_sound n ≡ true → is_made_edit a ≡ true → refusal m a ≡ None → Agree m n (footprint m a) → AcceptedAlike m n a
  locality m n (One a) sound sound_n made ok agree =
      let alike = local.locality m n a sound sound_n (untold (of_actions.refusal m a) ok) agree in
      record { accepted = ap refused_alone alike.accepted; same_changes = alike.same_changes; same_footprint = alike.same_footprint }
  locality m n (Group g) sound sound_n made ok agree = record {
    accepted = (λ i. refused_or (alike.none_refused i) (nothing_changed (same i))) ∙ none.1;
    same_changes = same;
    same_footprint = ap touch_set alike.same_touched;
  }
    where
      none : (first_refused m 0 g ≡ None) × (nothing_changed (group_changes m g) ≡ None)
      none = both_none (first_refused m 0 g) (nothing_changed (group_changes m g)) ok

      all : Agree m n (touched m g)
      all = agree_at_fewer m n (touch_set (touched m g)) (touched m g) (λ t i. does-touch_set t (touched m g) ∙ i) agree

      alike : InTurnAlike m n 0 g (touched m g)
      alike = in_turn_alike m n 0 g (touched m g) sound sound_n made none.0 (λ t i. i) all

      same : group_changes n g ≡ group_changes m g
      same = same_differences m (after_all m g) n (after_all n g) (reaches (touched m g))
          (λ c i. (sym (all.same_half c i), sym (alike.agree.same_half c i)))
          (λ c out. half_untouched m g c (not_written (touched m g) c out))
          (λ c out. half_untouched n g c (ap (λ l. writes l c) alike.same_touched ∙ not_written (touched m g) c out))
