-- What an entry of a journal changed, by the maps before and after it.
use Rattle.std.proofs.Common.{◌≡◌, ◌++◌, ◌<◌, ◌≤◌, ◌-◌, ℕ, zero, suc, true, false, List, [], ◌∷◌, Some, length, take, slice_get, refl, sym, ap, ◌∙◌, arith, append-nil, append_assoc}
use Rattle.osm_changes.specs.Cells.{has}
use Rattle.osm_changes.specs.Changes.{changed}
use Rattle.room_history.specs.Prelude.{Cell, Rows, AreInOrder, Change, changed_cells, half_at, differences, inverse, AreChanges, AreFrom, is_sound, Entry, IsJournal, Past, Recorded, past, past_after, recorded_next, numbered, Changes, map_at}
use Rattle.room_history.proofs.ChangedCells.{differs_there, same_elsewhere}
use Rattle.room_history.proofs.ChangingEntries.{AreSteps, IsChange, past_from, journal_steps}

module _ {A : Type 0} where
  -- the records of entries after a past
  abbrev records_from : Past A → List (Entry A) → List (Recorded A)
  records_from p [] = []
  records_from p (e ∷ j) = recorded_next p e.kind ∷ records_from (past_after p e.kind) j

  entries_are : (p : Past A) (j : List (Entry A)) → (past_from p j).entries ≡ p.entries ++ records_from p j
  entries_are p [] = sym (append-nil p.entries)
  entries_are p (e ∷ j) = entries_are (past_after p e.kind) j ∙ append_assoc p.entries (recorded_next p e.kind ∷ []) (records_from (past_after p e.kind) j)

  -- the entry at a position, the past before it, and its record
  pub record IsAt (p : Past A) (j : List (Entry A)) (i : ℕ) : Type 0 where
    pub entry : Entry A
    pub is : slice_get j i ≡ Some entry
    pub record_is : slice_get (records_from p j) i ≡ Some (recorded_next (past_from p (take i j)) entry.kind)
    pub next : past_from p (take (suc i) j) ≡ past_after (past_from p (take i j)) entry.kind
    pub change : IsChange (past_from p (take i j)) entry.kind

  entry_at : (p : Past A) (j : List (Entry A)) → AreSteps p j → (i : ℕ) → i < length j → IsAt p j i
  entry_at p [] steps i low = absurd (omega (arith, low))
  entry_at p (e ∷ j) steps zero low = record { entry = e; is = refl; record_is = refl; next = refl; change = steps.0 }
  entry_at p (e ∷ j) steps (suc i) low =
      let rest = entry_at (past_after p e.kind) j steps.1 i (omega (arith, low)) in
      record { entry = rest.entry; is = rest.is; record_is = rest.record_is; next = rest.next; change = rest.change }

  module _ (differ : (m n : Rows A) → AreChanges (differences m n)) (from : (m n : Rows A) → AreFrom m (differences m n))
      (back : (m : Rows A) (cs : List (Change A)) → AreInOrder m → AreChanges cs → AreFrom m cs → AreFrom (changed m cs) (inverse cs)) (base : Rows A) (sound : is_sound base ≡ true) (limit : ℕ) (j : List (Entry A)) (legal : IsJournal base limit j) where
    -- an entry of the journal, with its record: it changed exactly the cells of the record's changes
    pub record IsOf (s : ℕ) : Type 0 where
      pub entry : Entry A
      pub recorded : Recorded A
      pub is : numbered j s ≡ Some entry
      pub record_is : numbered (past base j).entries s ≡ Some recorded
      pub changes_there : (x : Cell) → has (changed_cells recorded.changes) x ≡ true → Changes base j s x
      pub stays_elsewhere : (x : Cell) → has (changed_cells recorded.changes) x ≡ false → half_at (map_at base j s) x ≡ half_at (map_at base j (s - 1)) x

    abbrev start : Past A
    start = record { map = base; entries = [] }

    pub entry_of : (s : ℕ) → 0 < s → s ≤ length j → IsOf s
    entry_of zero pos low = absurd (omega (arith, pos))
    entry_of (suc i) pos low = record {
      entry = at.entry;
      recorded = recorded_next before at.entry.kind;
      is = at.is;
      record_is = ap (λ rs. slice_get rs i) (entries_are start j) ∙ at.record_is;
      changes_there = λ x h same. differs_there before.map cs at.change.changes at.change.from x h (sym (then x) ∙ same ∙ ap (λ n. half_at (map_at base j n) x) less);
      stays_elsewhere = λ x h. then x ∙ same_elsewhere before.map cs at.change.changes at.change.from x h ∙ sym (ap (λ n. half_at (map_at base j n) x) less);
    }
      where
        at : IsAt start j i
        at = entry_at start j (journal_steps differ from back base sound limit j legal) i (omega (arith, low))

        before : Past A
        before = past_from start (take i j)

        cs : List (Change A)
        cs = (recorded_next before at.entry.kind).changes

        less : suc i - 1 ≡ i
        less = omega arith

        then : (x : Cell) → half_at (map_at base j (suc i)) x ≡ half_at (changed before.map cs) x
        then x = ap (λ (p : Past A). half_at p.map x) at.next
