-- The changes of a journal's entry are from the map before it.
use Rattle.std.proofs.Common.{◌≡◌, ◌≢◌, ◌⊎◌, ◌++◌, ℕ, suc, true, List, [], ◌∷◌, All, Option, Some, None, refl, inl, inr, sym, ap, subst, ◌∙◌, arith, fold}
use Rattle.std.proofs.lemmas.List.Elements.{All-cons, All-map, All-nil}
use Rattle.room_history.specs.Prelude.{after, changes, AreInOrder-after, Rows, AreInOrder, Change, half_at, cell_of, changed_cells, inverse, differences, AreChanges, AreFrom, is_sound, changed-differences, sound_in_order, Author, Entry, EntryKind, Do, Undo, Redo, Reply, redo_refusal, kind_refusal, answer, IsJournal, opened, called, Past, Recorded, past, past_after, mapof, recorded_of, recorded_next, action_at}
use Rattle.osm_changes.specs.Cells.{IsRising}
use Rattle.osm_changes.specs.Changes.{taken_back, changed}
use Rattle.room_interface.specs.declared.edit.Edit.{Edit as Action}
use Rattle.room_history.proofs.Appending.{mapof-append, recorded-redo}
use Rattle.room_history.proofs.Keeping.{journal_led, undone_by}
use Rattle.room_history.proofs.Leading.{IsLed, led_sound}
use Rattle.room_history.proofs.Outcomes.{Appended, Left, outcome}
use Rattle.room_history.proofs.TakingBack.{Undone}

module _ {A : Type 0} where
  cells_back : (cs : List (Change A)) → changed_cells (inverse cs) ≡ changed_cells cs
  cells_back [] = refl
  cells_back (c ∷ cs) = ap (λ rest. cell_of c ∷ rest) (cells_back cs)

  AreChanges-inverse : (cs : List (Change A)) → AreChanges cs → AreChanges (inverse cs)
  AreChanges-inverse cs h = record {
    rising = subst IsRising (sym (cells_back cs)) h.rising;
    differ = All-map (λ (c : Change A). c.after ≢ c.before) taken_back cs (λ k d l e. h.differ k d l (sym e));
  }

  -- each cell has the half that its change leads to
  abbrev pub LeadTo : Rows A → List (Change A) → Type 0
  LeadTo m cs = All (λ (c : Change A). c.after ≡ half_at m (cell_of c)) cs

  lead_back : (m : Rows A) (cs : List (Change A)) → All (λ (c : Change A). c.before ≡ half_at m (cell_of c)) (inverse cs) → LeadTo m cs
  lead_back m [] h = All-nil (λ (c : Change A). c.after ≡ half_at m (cell_of c))
  lead_back m (c ∷ cs) h = All-cons (λ (c : Change A). c.after ≡ half_at m (cell_of c)) c cs (h 0 c (omega arith)) (lead_back m cs (λ k d l. h (suc k) d (omega (arith, l))))

  -- the changes of the next entry are from the current map, and lead to the map after it
  pub record IsChange (p : Past A) (k : EntryKind A) : Type 0 where
    pub changes : AreChanges (recorded_next p k).changes
    pub from : AreFrom p.map (recorded_next p k).changes
    pub leads : LeadTo (changed p.map (recorded_next p k).changes) (recorded_next p k).changes

  -- this is true of each entry in order
  abbrev pub AreSteps : Past A → List (Entry A) → Type 0
  AreSteps p [] = Unit {0}
  AreSteps p (e ∷ j) = IsChange p e.kind × AreSteps (past_after p e.kind) j

  abbrev pub past_from : Past A → List (Entry A) → Past A
  past_from p j = fold (λ p (e : Entry A). past_after p e.kind) p j

  steps-append : (p : Past A) (j : List (Entry A)) (e : Entry A) → AreSteps p j → IsChange (past_from p j) e.kind → AreSteps p (j ++ e ∷ [])
  steps-append p [] e h c = (c, tt)
  steps-append p (x ∷ j) e h c = (h.0, steps-append (past_after p x.kind) j e h.1 c)

  step_at : (p : Past A) (i k : List (Entry A)) (e : Entry A) → AreSteps p (i ++ e ∷ k) → IsChange (past_from p i) e.kind
  step_at p [] k e h = h.0
  step_at p (x ∷ i) k e h = step_at (past_after p x.kind) i k e h.1

  module _ (differ : (m n : Rows A) → AreChanges (differences m n)) (from : (m n : Rows A) → AreFrom m (differences m n))
      (back : (m : Rows A) (cs : List (Change A)) → AreInOrder m → AreChanges cs → AreFrom m cs → AreFrom (changed m cs) (inverse cs)) (base : Rows A) (sound : is_sound base ≡ true) where
    from_to : (p : Past A) (k : EntryKind A) → AreInOrder p.map → AreChanges (recorded_next p k).changes → AreFrom p.map (recorded_next p k).changes → IsChange p k
    from_to p k order are from = let cs = (recorded_next p k).changes in record { changes = are; from = from; leads = lead_back (changed p.map cs) cs (back p.map cs order are from).before }

    -- an entry that does or redoes an action
    done : (p : Past A) (k : EntryKind A) (a : Action A) → AreInOrder p.map → recorded_next p k ≡ recorded_of p.map a → IsChange p k
    done p k a order is =
        from_to p k order
        (subst (λ (r : Recorded A). AreChanges r.changes) (sym is) (differ p.map (after p.map a)))
        (subst (λ (r : Recorded A). AreFrom p.map r.changes) (sym is) (from p.map (after p.map a)))

    -- an entry that undoes an entry
    taken : (j : List (Entry A)) (e : Entry A) (s : ℕ) → AreInOrder (mapof base j) → e.kind ≡ Undo s → Undone base j s e → IsChange (past base j) e.kind
    taken j e s now is u =
        from_to (past base j) e.kind now
        (subst (λ cs. AreChanges cs) (sym u.takes_back) (AreChanges-inverse did (differ before (after before u.action))))
        (subst (λ cs. AreFrom (mapof base j) cs) (sym u.takes_back)
        (subst (λ m. AreFrom m (inverse did)) leads (back before did order (differ before (after before u.action)) (from before (after before u.action)))))
      where
        before : Rows A
        before = mapof base (j ++ e ∷ [])

        did : List (Change A)
        did = changes before u.action

        order : AreInOrder before
        order = sound_in_order before (led_sound base (j ++ e ∷ []) sound u.led)

        leads : changed before did ≡ mapof base j
        leads = changed-differences before (after before u.action) order (AreInOrder-after before u.action order) ∙ u.before

    next : (j : List (Entry A)) (author : Author) (id : ℕ) (k : EntryKind A) → IsLed base j → kind_refusal (past base j) j author k ≡ None → IsChange (past base j) k
    next j author id (Do a) led passes = done (past base j) (Do a) a (sound_in_order (mapof base j) (led_sound base j sound led)) refl
    next j author id (Undo s) led passes =
        let e : Entry A = record { author = author; id = id; kind = Undo s } in
        taken j e s (sound_in_order (mapof base j) (led_sound base j sound led)) refl (undone_by base sound j led e s refl passes)
    next j author id (Redo t) led passes = by (action_at (past base j) t) refl passes
      where
        by : (o : Option (Action A)) → action_at (past base j) t ≡ o → redo_refusal (mapof base j) o ≡ None → IsChange (past base j) (Redo t)
        by None e r = absurd (cc)
        by (Some a) e r = done (past base j) (Redo t) a (sound_in_order (mapof base j) (led_sound base j sound led)) (recorded-redo base j t a e)

    pub journal_steps : (limit : ℕ) (j : List (Entry A)) → IsJournal base limit j → AreSteps (record { map = base; entries = [] }) j
    journal_steps limit j opened = tt
    journal_steps limit j (called i c before made) = by (outcome base limit i c) (journal_steps limit i before)
      where
        start : Past A
        start = record { map = base; entries = [] }

        by : Appended base i c (answer base limit i c) ⊎ Left i (answer base limit i c) → AreSteps start i → AreSteps start (answer base limit i c).1
        by (inl a) steps = subst (AreSteps start) (sym (ap (λ (p : Reply A × List (Entry A)). p.1) a.is))
            (steps-append start i (record { author = c.author; id = c.id; kind = a.kind }) steps (next i c.author c.id a.kind (journal_led base sound limit i before) a.passes))
        by (inr l) steps = subst (AreSteps start) (sym l.same) steps

    pub entry_changes : (limit : ℕ) (i k : List (Entry A)) (e : Entry A) → IsJournal base limit (i ++ e ∷ k) → IsChange (past base i) e.kind
    entry_changes limit i k e h = step_at (record { map = base; entries = [] }) i k e (journal_steps limit (i ++ e ∷ k) h)

    -- the map after an entry has the half of each change
    pub entry_leads : (limit : ℕ) (i k : List (Entry A)) (e : Entry A) → IsJournal base limit (i ++ e ∷ k) → LeadTo (mapof base (i ++ e ∷ [])) (recorded_next (past base i) e.kind).changes
    entry_leads limit i k e h = let cs = (recorded_next (past base i) e.kind).changes in subst (λ m. LeadTo m cs) (sym (mapof-append base i e)) (entry_changes limit i k e h).leads
