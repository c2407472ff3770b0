-- Actions in order: the map after them stays in order and sound, what no action writes is unchanged, and maps that
-- agree at all touches agree after each action.
use Rattle.std.proofs.Common.{sym, ap, ◌∙◌}
use Rattle.std.specs.Prelude.{◌≡◌, ◌+◌, ℕ, Bool, true, false, List, [], ◌∷◌, ◌++◌, Option, Some, None, refl}
use Rattle.std.proofs.lemmas.Bool.{or_from, or_parts, and_parts}
use Rattle.edit_footprint.specs.Prelude.{Rows, is_among, AreInOrder, row_at, row_references, refers_to, users, tags_at, rest_at, half_at, Tags, sound_in_order, is_sound, rising_names, after, AreInOrder-after, accepted_keeps_sound, is_made_action, are_made, refusal, Agree, footprint, AcceptedAlike, same_after, halves_outside, presence_outside, namers_outside, same_references, is_among-users, locality, Touch, presence_read, presence_written, cell_written, does, does-append, in_first, in_second, writes_presence, reaches_presence, writes, reaches, IsWithin, not_written, whole_reached, reaches-within, reaches_presence-within, is_present}
use Rattle.osm_changes.specs.Prelude.{same_presence}
use Rattle.osm_elements.specs.declared.name.Name.{Name}
use Rattle.osm_refs.specs.Facts.RisingNames.{same_rising}
use Rattle.osm_changes.specs.declared.cell.Cell.{Cell}
use Rattle.room_interface.specs.declared.refusal.Refusal.{Refusal}
use Rattle.room_interface.specs.declared.action.Action.{Action}
use Rattle.room_interface.specs.declared.edit_refusal.EditRefusal.{EditRefusal}
use Rattle.edit_groups.specs.Groups.{after_all, refused_at, first_refused, touched}

module _ {A : Type 0} where
  -- a name has the same users if the same rows refer to it
  pub same_users : (m n : Rows A) → AreInOrder m → AreInOrder n → (e : Name) → ((y : Name) → is_among (row_references (row_at m y)) e ≡ is_among (row_references (row_at n y)) e) → users m e ≡ users n e
  same_users m n g h e is =
      same_rising (users m e) (users n e) (rising_names (λ r. refers_to r.1 e) m g) (rising_names (λ r. refers_to r.1 e) n h)
      (λ y. is_among-users m g e y ∙ is y ∙ sym (is_among-users n h e y))

  pub AreInOrder-after_all : (m : Rows A) (g : List (Action A)) → AreInOrder m → AreInOrder (after_all m g)
  AreInOrder-after_all m [] h = h
  AreInOrder-after_all m (a ∷ rest) h = AreInOrder-after_all (after m a) rest (AreInOrder-after m a h)

  -- if none of the actions is refused, neither the first nor a later one is
  pub none_refused : (k : ℕ) (o : Option (Refusal A)) (later : Option (EditRefusal A)) → refused_at k o later ≡ None → (o ≡ None) × (later ≡ None)
  none_refused k None later h = (refl, h)
  none_refused k (Some why) later h = absurd (cc)

  pub sound_after_all : (m : Rows A) (k : ℕ) (g : List (Action A)) → is_sound m ≡ true → are_made g ≡ true → first_refused m k g ≡ None → is_sound (after_all m g) ≡ true
  sound_after_all m k [] sound made ok = sound
  sound_after_all m k (a ∷ rest) sound made ok =
      let own = and_parts (is_made_action a) (are_made rest) made in
      let none = none_refused k (refusal m a) (first_refused (after m a) (k + 1) rest) ok in
      sound_after_all (after m a) (k + 1) rest (accepted_keeps_sound m a sound own.0 none.0).0 own.1 none.1

  -- what no action writes stays, and so do the users of names whose presence no action touches
  not_written_first : (m : Rows A) (a : Action A) (rest : List (Action A)) (t : Touch) → does (touched m (a ∷ rest)) t ≡ false → (does (footprint m a) t ≡ false) × (does (touched (after m a) rest) t ≡ false)
  not_written_first m a rest t out = or_parts _ _ (sym (does-append t (footprint m a) (touched (after m a) rest)) ∙ out)

  pub half_untouched : (m : Rows A) (g : List (Action A)) (c : Cell) → writes (touched m g) c ≡ false → half_at (after_all m g) c ≡ half_at m c
  half_untouched m [] c out = refl
  half_untouched m (a ∷ rest) c out =
      let both = or_parts (does (touched m (a ∷ rest)) (presence_written c.name)) (does (touched m (a ∷ rest)) (cell_written c)) out in
      let presence = not_written_first m a rest (presence_written c.name) both.0 in
      let cell = not_written_first m a rest (cell_written c) both.1 in
      half_untouched (after m a) rest c (or_from (does (touched (after m a) rest) (presence_written c.name)) (does (touched (after m a) rest) (cell_written c)) presence.1 cell.1)
      ∙ halves_outside m a c (or_from (does (footprint m a) (presence_written c.name)) (does (footprint m a) (cell_written c)) presence.0 cell.0)

  pub presence_untouched : (m : Rows A) (g : List (Action A)) (x : Name) → writes_presence (touched m g) x ≡ false → is_present (after_all m g) x ≡ is_present m x
  presence_untouched m [] x out = refl
  presence_untouched m (a ∷ rest) x out =
      let both = not_written_first m a rest (presence_written x) out in
      presence_untouched (after m a) rest x both.1 ∙ presence_outside m a x both.0

  pub users_untouched : (m : Rows A) (g : List (Action A)) → AreInOrder m → (e : Name) → reaches_presence (touched m g) e ≡ false → users (after_all m g) e ≡ users m e
  users_untouched m [] order e out = refl
  users_untouched m (a ∷ rest) order e out =
      let both = or_parts (does (touched m (a ∷ rest)) (presence_written e)) (does (touched m (a ∷ rest)) (presence_read e)) out in
      let written = not_written_first m a rest (presence_written e) both.0 in
      let read = not_written_first m a rest (presence_read e) both.1 in
      users_untouched (after m a) rest (AreInOrder-after m a order) e (or_from (does (touched (after m a) rest) (presence_written e)) (does (touched (after m a) rest) (presence_read e)) written.1 read.1)
      ∙ same_users (after m a) m (AreInOrder-after m a order) order e (namers_outside m a e (or_from (does (footprint m a) (presence_written e)) (does (footprint m a) (presence_read e)) written.0 read.0))

  -- two maps that agree at touches which include an action's footprint agree there after it too
  pub agree_after : (m n : Rows A) (a : Action A) (touches : List Touch) → AreInOrder m → AreInOrder n
      → IsWithin (footprint m a) touches → Agree m n touches → AcceptedAlike m n a → Agree (after m a) (after n a) touches
  agree_after m n a touches order order_n inside agree alike = record {
    same_half = same_half;
    same_presence = λ x i. presence x i (writes_presence (footprint m a) x) refl;
    same_users = λ e i. same_users (after m a) (after n a) (AreInOrder-after m a order) (AreInOrder-after n a order_n) e (λ y. namers e i y (reaches (footprint m a) (rest_at y)) refl);
  }
    where
      same_half : (c : Cell) → reaches touches c ≡ true → half_at (after m a) c ≡ half_at (after n a) c
      same_half c i = sym (same_after m (after m a) n (after n a) c alike.same_changes (sym (agree.same_half c i)))

      -- an element whose presence the action writes has the same tags in both maps, or is in neither
      presence : (x : Name) → reaches_presence touches x ≡ true → (b : Bool) → writes_presence (footprint m a) x ≡ b → is_present (after m a) x ≡ is_present (after n a) x
      presence x i true own =
          same_presence Tags (row_at (after m a) x) (row_at (after n a) x) (same_half (tags_at x) (reaches-within (footprint m a) touches inside (tags_at x) (whole_reached (footprint m a) (tags_at x) own)))
      presence x i false out =
          presence_outside m a x out ∙ agree.same_presence x i ∙ sym (presence_outside n a x (ap (λ l. writes_presence l x) alike.same_footprint ∙ out))

      namers : (e : Name) → writes_presence touches e ≡ true → (y : Name) (b : Bool) → reaches (footprint m a) (rest_at y) ≡ b
          → is_among (row_references (row_at (after m a) y)) e ≡ is_among (row_references (row_at (after n a) y)) e
      namers e i y true own = ap (λ l. is_among l e) (same_references (row_at (after m a) y) (row_at (after n a) y) (same_half (rest_at y) (reaches-within (footprint m a) touches inside (rest_at y) own)))
      namers e i y false out =
          let kept = not_written (footprint m a) (rest_at y) out in
          ap (λ l. is_among l e) (same_references (row_at (after m a) y) (row_at m y) (halves_outside m a (rest_at y) kept))
          ∙ sym (is_among-users m order e y) ∙ ap (λ l. is_among l y) (agree.same_users e i) ∙ is_among-users n order_n e y
          ∙ ap (λ l. is_among l e) (sym (same_references (row_at (after n a) y) (row_at n y) (halves_outside n a (rest_at y) (ap (λ l. writes l (rest_at y)) alike.same_footprint ∙ kept))))

  -- maps that agree at touches agree at fewer touches
  pub agree_at_fewer : (m n : Rows A) (touches fewer : List Touch) → IsWithin fewer touches → Agree m n touches → Agree m n fewer
  agree_at_fewer m n touches fewer inside agree = record {
    same_half = λ c i. agree.same_half c (reaches-within fewer touches inside c i);
    same_presence = λ x i. agree.same_presence x (reaches_presence-within fewer touches inside x i);
    same_users = λ x i. agree.same_users x (inside (presence_written x) i);
  }

  -- if one map accepts actions in order, another map that agrees at their touches accepts them too; they have the same
  -- touches there, and the maps after them agree too
  pub record InTurnAlike (m n : Rows A) (k : ℕ) (g : List (Action A)) (touches : List Touch) : Type 0 where
    pub none_refused : first_refused n k g ≡ None
    pub same_touched : touched n g ≡ touched m g
    pub agree : Agree (after_all m g) (after_all n g) touches

  pub in_turn_alike : (m n : Rows A) (k : ℕ) (g : List (Action A)) (touches : List Touch) → is_sound m ≡ true → is_sound n ≡ true → are_made g ≡ true → first_refused m k g ≡ None
      → IsWithin (touched m g) touches → Agree m n touches → InTurnAlike m n k g touches
  in_turn_alike m n k [] touches sound sound_n made ok inside agree = record { none_refused = refl; same_touched = refl; agree = agree }
  in_turn_alike m n k (a ∷ rest) touches sound sound_n made ok inside agree =
      let own = and_parts (is_made_action a) (are_made rest) made in
      let none = none_refused k (refusal m a) (first_refused (after m a) (k + 1) rest) ok in
      let first_inside : IsWithin (footprint m a) touches = λ t i. inside t (in_first t (footprint m a) (touched (after m a) rest) i) in
      let alike = locality m n a sound sound_n none.0 (agree_at_fewer m n touches (footprint m a) first_inside agree) in
      let later =
      in_turn_alike (after m a) (after n a) (k + 1) rest touches (accepted_keeps_sound m a sound own.0 none.0).0 (accepted_keeps_sound n a sound_n own.0 alike.accepted).0 own.1 none.1
      (λ t i. inside t (in_second t (footprint m a) (touched (after m a) rest) i))
      (agree_after m n a touches (sound_in_order m sound) (sound_in_order n sound_n) first_inside agree alike) in
      record {
        none_refused = (λ i. refused_at k (alike.accepted i) (first_refused (after n a) (k + 1) rest)) ∙ later.none_refused;
        same_touched = λ i. alike.same_footprint i ++ later.same_touched i;
        agree = later.agree;
      }
