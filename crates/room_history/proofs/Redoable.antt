-- Each entry on a redo stack has a made action in its record.
use Rattle.std.proofs.Common.{◌≡◌, ◌⊎◌, ◌-◌, ◌++◌, ◌||◌, ℕ, suc, zero, Bool, true, false, List, [], ◌∷◌, Option, Some, None, length, take, nat_eq, refl, cond, inl, inr, sym, ap, ◌∙◌, option_and_then}
use Rattle.room_history.specs.Prelude.{Rows, Author, is_same_author, Entry, EntryKind, Do, Undo, Redo, numbered, last, redos, redos_after, Recorded, past, recorded_next, action_at}
use Rattle.room_interface.specs.declared.edit.Edit.{Edit as Action}
use Rattle.room_interface.specs.MadeCalls.{is_made_edit as is_made_action}
use Rattle.room_history.proofs.Appending.{past-append, redos-append}
use Rattle.room_history.proofs.Growing.{equal_numbers}
use Rattle.room_history.proofs.LastItems.{last_put_back}
use Rattle.room_history.proofs.RisingNumbers.{is_in, last_there}
use Rattle.room_history.proofs.Works.{numbered-append}

in_front : (t : ℕ) (ss : List ℕ) (s : ℕ) → is_in t (ss ++ s ∷ []) ≡ true → (is_in t ss ≡ true) ⊎ (s ≡ t)
in_front t [] s h = by (nat_eq s t) refl h
  where
    by : (b : Bool) → nat_eq s t ≡ b → (b || false) ≡ true → (false ≡ true) ⊎ (s ≡ t)
    by true e h = inr (equal_numbers s t e)
    by false e h = absurd (cc)
in_front t (x ∷ ss) s h = by (nat_eq x t) h (in_front t ss s)
  where
    by : (b : Bool) → (b || is_in t (ss ++ s ∷ [])) ≡ true → (is_in t (ss ++ s ∷ []) ≡ true → (is_in t ss ≡ true) ⊎ (s ≡ t)) → ((b || is_in t ss) ≡ true) ⊎ (s ≡ t)
    by true h go = inl refl
    by false h go = go h

in_take : (t n : ℕ) (ss : List ℕ) → is_in t (take n ss) ≡ true → is_in t ss ≡ true
in_take t zero ss h = absurd (cc)
in_take t (suc n) [] h = absurd (cc)
in_take t (suc n) (x ∷ ss) h = by (nat_eq x t) h (in_take t n ss)
  where
    by : (b : Bool) → (b || is_in t (take n ss)) ≡ true → (is_in t (take n ss) ≡ true → is_in t ss ≡ true) → (b || is_in t ss) ≡ true
    by true h go = refl
    by false h go = go h

module _ {A : Type 0} (base : Rows A) where
  -- the recorded action of an entry stays
  pub action_stays : (j : List (Entry A)) (e : Entry A) (t : ℕ) (a : Action A) → action_at (past base j) t ≡ Some a → action_at (past base (j ++ e ∷ [])) t ≡ Some a
  action_stays j e t a acts = ap (λ p. action_at p t) (past-append base j e) ∙ by (numbered (past base j).entries t) refl acts
    where
      by : (o : Option (Recorded A)) → numbered (past base j).entries t ≡ o → option_and_then (λ (r : Recorded A). r.action) o ≡ Some a
          → option_and_then (λ (r : Recorded A). r.action) (numbered ((past base j).entries ++ recorded_next (past base j) e.kind ∷ []) t) ≡ Some a
      by None e h = absurd (cc)
      by (Some r) is h = ap (option_and_then (λ (r : Recorded A). r.action)) (numbered-append (past base j).entries (recorded_next (past base j) e.kind ∷ []) t r is) ∙ h

  -- the record of an entry has a made action
  pub record Acts (j : List (Entry A)) (t : ℕ) : Type 0 where
    pub action : Action A
    pub acts : action_at (past base j) t ≡ Some action
    pub made : is_made_action action ≡ true

  abbrev pub AreRedoable : List (Entry A) → Type 0
  AreRedoable j = (author : Author) (t : ℕ) → is_in t (redos j author) ≡ true → Acts j t

  pub redoable-append : (j : List (Entry A)) (e : Entry A) → AreRedoable j → ((s : ℕ) → e.kind ≡ Undo s → Acts j s) → AreRedoable (j ++ e ∷ [])
  redoable-append j e before undoes author t there =
      let found = by (is_same_author author e.author) (ap (is_in t) (sym (redos-append j e author)) ∙ there) in
      record { action = found.action; acts = action_stays j e t found.action found.acts; made = found.made }
    where
      stack : List ℕ
      stack = redos j author

      pushed : (s : ℕ) → e.kind ≡ Undo s → (is_in t stack ≡ true) ⊎ (s ≡ t) → Acts j t
      pushed s is (inl h) = before author t h
      pushed s is (inr h) = undoes t (is ∙ ap Undo h)

      of_kind : (k : EntryKind A) → e.kind ≡ k → is_in t (redos_after stack k) ≡ true → Acts j t
      of_kind (Do a) is h = absurd (cc)
      of_kind (Undo s) is h = pushed s is (in_front t stack s h)
      of_kind (Redo s) is h = before author t (in_take t (length stack - 1) stack h)

      by : (b : Bool) → is_in t (cond b (redos_after stack e.kind) stack) ≡ true → Acts j t
      by true h = of_kind e.kind refl h
      by false h = before author t h

  -- the top of a redo stack
  pub top_acts : (j : List (Entry A)) → AreRedoable j → (author : Author) (t : ℕ) → last (redos j author) ≡ Some t → Acts j t
  top_acts j redoable author t top = redoable author t (ap (is_in t) (last_put_back (redos j author) t top) ∙ last_there t (take (length (redos j author) - 1) (redos j author)))
