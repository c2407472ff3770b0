-- A group that is planned action by action: what is true after each of its actions.
use Rattle.std.proofs.Common.{◌≡◌, ◌+◌, ◌<◌, ℕ, true, false, List, [], ◌∷◌, ◌++◌, Some, None, Result, Ok, Err, IfOk, IfErr, OnOk, ◌⊎◌, ◌≤◌, suc, refl, length, take, drop, map, inl, inr, sym, ap, subst, ◌∙◌, get_or, arith, w32, append-nil, append_assoc, Fits}
use Rattle.std.proofs.lemmas.Bool.{or_parts}
use Rattle.std.proofs.lemmas.Bool.Decides.{nat_tests}
use Rattle.std.proofs.lemmas.List.{take_more, take-append-drop, length-take-le}
use Rattle.edit_groups.specs.Prelude.{Name, Rows, is_among, row_at, is_among-append, is_among-name_set, Touch, Change, touch_set, differences, kept, is_sound, Refusal, Memory, drop_at, Action, is_made_action, are_made, none_refused, Group, EditRefusal, is_group_length, at_position, after_all, refused_at, first_refused, group_changes, group_refusal, nothing_changed, refused_or, touched, are_made-one, IsEditPlan}
use Rattle.room_interface.specs.Groups.{alone}
use Rattle.edit_actions.specs.After.{after, changes}
use Rattle.edit_actions.specs.Facts.Accepted.{accepted_keeps_sound, changes_lead}
use Rattle.edit_actions.specs.Refusals.{refusal}
use Rattle.edit_footprint.specs.Footprints.{footprint}

-- a position in a group fits into 32 bits
pub position_fits : (position i n : ℕ) → position ≡ i → i < n → is_group_length n ≡ true → Fits w32 (position + 1)
position_fits position i n at l h = grind (arith, nat_tests)

module _ {A : Type 0} where
  after_all-append : (m : Rows A) (xs ys : List (Action A)) → after_all m (xs ++ ys) ≡ after_all (after_all m xs) ys
  after_all-append m [] ys = refl
  after_all-append m (x ∷ xs) ys = after_all-append (after m x) xs ys

  touched-one : (m : Rows A) (xs : List (Action A)) (a : Action A) → touched m (xs ++ a ∷ []) ≡ touched m xs ++ footprint (after_all m xs) a
  touched-one m [] a = append-nil (footprint m a)
  touched-one m (x ∷ xs) a =
      ap (λ l. footprint m x ++ l) (touched-one (after m x) xs a)
      ∙ sym (append_assoc (footprint m x) (touched (after m x) xs) (footprint (after_all (after m x) xs) a))

  -- if no action so far is refused, the next one decides
  next_refused : (m : Rows A) (k : ℕ) (xs : List (Action A)) (a : Action A) (rest : List (Action A)) → first_refused m k xs ≡ None
      → first_refused m k (xs ++ a ∷ rest) ≡ refused_at (k + length xs) (refusal (after_all m xs) a) (first_refused (after (after_all m xs) a) (k + length xs + 1) rest)
  next_refused m k [] a rest none = ap (λ j. refused_at j (refusal m a) (first_refused (after m a) (j + 1) rest)) zero_more
    where
      zero_more : k ≡ k + 0
      zero_more = omega arith
  next_refused m k (x ∷ xs) a rest none =
      let both = none_refused k (refusal m x) (first_refused (after m x) (k + 1) xs) none in
      ap (λ o. refused_at k o (first_refused (after m x) (k + 1) (xs ++ a ∷ rest))) both.0
      ∙ next_refused (after m x) (k + 1) xs a rest both.1
      ∙ ap (λ j. refused_at j (refusal (after_all (after m x) xs) a) (first_refused (after (after_all (after m x) xs) a) (j + 1) rest)) one_more
    where
      one_more : k + 1 + length xs ≡ k + suc (length xs)
      one_more = omega arith

  pub record IsAfter (m : Rows A) (done : List (Action A)) (draft : Rows A) (names : List Name) (touches : List Touch) : Type 0 where
    pub rows : draft ≡ after_all m done
    pub sound : is_sound draft ≡ true
    pub made : are_made done ≡ true
    pub accepted : first_refused m 0 done ≡ None
    pub touched_are : touches ≡ touched m done
    pub rest : (y : Name) → is_among names y ≡ false → row_at draft y ≡ row_at m y

  -- before the first action
  pub none_yet : (m draft : Rows A) (names : List Name) (touches : List Touch) → is_sound m ≡ true → draft ≡ m → names ≡ [] → touches ≡ [] → IsAfter m [] draft names touches
  none_yet m draft names touches sound rows none no_touches = record {
    rows = rows;
    sound = ap is_sound rows ∙ sound;
    made = refl;
    accepted = refl;
    touched_are = no_touches;
    rest = λ y out. ap (λ n. row_at n y) rows;
  }

  -- after all actions: the changes and the footprint of the group
  pub group_planned : (m : Rows A) (g : List (Action A)) (draft : Rows A) (names : List Name) (touches : List Touch) → IsAfter m g draft names touches → (cs : List (Change A)) → cs ≡ differences m draft
      → (r : Result (List (Change A) × List Touch) (EditRefusal A)) → IfOk r (λ p. p.0 ≡ cs) → IfOk r (λ p. p.1 ≡ touch_set touches) → OnOk r (nothing_changed cs ≡ None) → IfErr r (λ why. (nothing_changed cs ≡ Some why) ⊎ (why ≡ alone Memory))
      → IsEditPlan m (Group g) r
  group_planned m g draft names touches all cs is (Ok p) changes_are touches_are some none =
      ((λ i. refused_or (all.accepted i) (nothing_changed (sym (is ∙ ap (differences m) all.rows) i))) ∙ some, changes_are ∙ is ∙ ap (differences m) all.rows, touches_are ∙ ap touch_set all.touched_are)
  group_planned m g draft names touches all cs is (Err why) changes_are touches_are some (inl none) =
      inl ((λ i. refused_or (all.accepted i) (nothing_changed (sym (is ∙ ap (differences m) all.rows) i))) ∙ none)
  group_planned m g draft names touches all cs is (Err why) changes_are touches_are some (inr memory) = inr memory

  module _ (m : Rows A) (g : List (Action A)) (i : ℕ) (a : Action A) (l : i < length g) (is : a ≡ get_or g i a) (draft : Rows A) (names : List Name) (touches : List Touch)
      (so_far : IsAfter m (take i g) draft names touches) (made : is_made_action a ≡ true) where
    one_more : take (i + 1) g ≡ take i g ++ a ∷ []
    one_more = take_more g i a l ∙ ap (λ y. take i g ++ y ∷ []) (sym is)

    -- after one more action, which is accepted
    pub then_after : (after_it : Rows A) (more : List Name) (touched_too : List Touch) → refusal draft a ≡ None → after_it ≡ after draft a
        → more ≡ names ++ map (λ c. c.name) (changes draft a) → touched_too ≡ touches ++ footprint draft a
        → IsAfter m (take (i + 1) g) after_it more touched_too
    then_after after_it more touched_too ok is_after more_is touched_is = subst (λ xs. IsAfter m xs after_it more touched_too) (sym one_more) (record {
      rows = is_after ∙ ap (λ n. after n a) so_far.rows ∙ sym (after_all-append m (take i g) (a ∷ []));
      sound = ap is_sound is_after ∙ (accepted_keeps_sound draft a so_far.sound made ok).0;
      made = are_made-one (take i g) a so_far.made made;
      accepted = next_refused m 0 (take i g) a [] so_far.accepted ∙ ap (λ o. refused_at (0 + length (take i g)) o None) (ap (λ n. refusal n a) (sym so_far.rows) ∙ ok);
      touched_are = touched_is ∙ (λ j. so_far.touched_are j ++ footprint (so_far.rows j) a) ∙ sym (touched-one m (take i g) a);
      rest = λ y out. ap (λ n. row_at n y) is_after ∙ unchanged y (or_parts (is_among names y) (is_among (map (λ c. c.name) (changes draft a)) y) (sym (is_among-append y names (map (λ c. c.name) (changes draft a))) ∙ sym (ap (λ xs. is_among xs y) more_is) ∙ out));
    })
      where
        unchanged : (y : Name) → (is_among names y ≡ false) × (is_among (map (λ c. c.name) (changes draft a)) y ≡ false) → row_at (after draft a) y ≡ row_at m y
        unchanged y out =
            ap (λ n. row_at n y) (sym (changes_lead draft a so_far.sound made ok))
            ∙ kept draft (changes draft a) y (is_among-name_set y (map (λ c. c.name) (changes draft a)) ∙ out.1)
            ∙ so_far.rest y out.0

    -- the action is the first refused one
    pub then_refused : (why : Refusal A) → refusal draft a ≡ Some why → first_refused m 0 g ≡ Some (at_position i why)
    then_refused why told =
        ap (first_refused m 0) whole
        ∙ next_refused m 0 (take i g) a (drop (i + 1) g) so_far.accepted
        ∙ ap (λ o. refused_at (0 + length (take i g)) o (first_refused (after (after_all m (take i g)) a) (0 + length (take i g) + 1) (drop (i + 1) g))) (ap (λ n. refusal n a) (sym so_far.rows) ∙ told)
        ∙ ap (λ k. Some (at_position k why)) (let n = length-take-le i g (le_of_lt l) in omega (arith, n))
      where
        le_of_lt : i < length g → i ≤ length g
        le_of_lt h = omega (arith, h)

        whole : g ≡ take i g ++ a ∷ drop (i + 1) g
        whole = sym (take-append-drop i g) ∙ ap (λ r. take i g ++ r) (drop_at g i a l is)

    -- the group's refusal, or `Memory`
    pub group_refused : (why : Refusal A) (r : EditRefusal A) (position : ℕ) → position ≡ i → ((refusal draft a ≡ Some why) ⊎ (why ≡ Memory)) → (why ≡ Memory → r ≡ alone Memory)
        → ((r ≡ alone Memory) ⊎ (r ≡ at_position position why)) → (group_refusal m g ≡ Some r) ⊎ (r ≡ alone Memory)
    group_refused why r position at (inr out) memory told = inr (memory out)
    group_refused why r position at (inl refused) memory (inl e) = inr e
    group_refused why r position at (inl refused) memory (inr e) =
        inl (ap (λ o. refused_or o (nothing_changed (group_changes m g))) (then_refused why refused) ∙ ap (λ k. Some (at_position k why)) (sym at) ∙ ap Some (sym e))
