-- What a table of last changes finds is what the definition says.
use Rattle.std.proofs.Common.{◌≡◌, ◌||◌, ℕ, true, List, [], ◌∷◌, Option, map, subst, arith}
use Rattle.std.proofs.lemmas.List.Elements.{All-nil, All-push}
use Rattle.osm_changes.specs.Cells.{IsRising, has}
use Rattle.osm_changes.specs.Changes.{changed}
use Rattle.edit_footprint.specs.Touches.{Touch, does, presence_written, cell_written}
use Rattle.room_history.specs.Prelude.{Name, Cell, Rows, AreInOrder, Change, changed_cells, differences, inverse, AreChanges, AreFrom, is_sound, Author, Entry, IsJournal, Past, Recorded, past, past_after, recorded_next, overwritten}
use Rattle.room_history.specs.declared.changers.LastChange.{LastChange}
use Rattle.room_history.specs.Inner.Changers.{AreChangers, IsOutcome, changer, written_by}
use Rattle.room_history.proofs.AtCells.{AreAsWritten, at_cell}
use Rattle.room_history.proofs.ChangedCells.{changed_as_written}
use Rattle.room_history.proofs.ChangingEntries.{AreSteps, past_from, journal_steps}
use Rattle.room_history.proofs.Overwriting.{last_to_change, one_outcome, outcome}

module _ {A : Type 0} where
  -- each record changes the cells that its touches write
  as_written_from : (p : Past A) (j : List (Entry A)) → AreSteps p j → AreAsWritten p.entries → AreAsWritten (past_from p j).entries
  as_written_from p [] steps h = h
  as_written_from p (e ∷ j) steps h = as_written_from (past_after p e.kind) j steps.1 (λ c.
      All-push (λ (r : Recorded A). has (changed_cells r.changes) c ≡ (does (map written_by r.changes) (presence_written c.name) || does (map written_by r.changes) (cell_written c)))
      p.entries (recorded_next p e.kind) (h c) (changed_as_written p.map (recorded_next p e.kind).changes steps.0.changes steps.0.from c))

  module _ (differ : (m n : Rows A) → AreChanges (differences m n)) (from : (m n : Rows A) → AreFrom m (differences m n))
      (back : (m : Rows A) (cs : List (Change A)) → AreInOrder m → AreChanges cs → AreFrom m cs → AreFrom (changed m cs) (inverse cs)) (base : Rows A) (sound : is_sound base ≡ true) where
    as_written : (limit : ℕ) (j : List (Entry A)) → IsJournal base limit j → AreAsWritten (past base j).entries
    as_written limit j legal = as_written_from (record { map = base; entries = [] }) j (journal_steps differ from back base sound limit j legal)
        (λ c. All-nil (λ (r : Recorded A). has (changed_cells r.changes) c ≡ (does (map written_by r.changes) (presence_written c.name) || does (map written_by r.changes) (cell_written c))))

    pub overwritten_found : (limit : ℕ) (j : List (Entry A)) → IsJournal base limit j → (table : List (Touch × LastChange)) → AreChangers (past base j) j table → (author : Author) (n : ℕ) (cells : List Cell) → IsRising cells
        → (o : Option (ℕ × Name)) → IsOutcome n (changer j author table) cells o → o ≡ overwritten author n cells 1 j (past base j).entries
    overwritten_found limit j legal table are author n cells rise o found =
        one_outcome n (λ c. last_to_change author c 1 j (past base j).entries) cells o (overwritten author n cells 1 j (past base j).entries)
        (subst (λ (f : Cell → ℕ). IsOutcome n f cells o) (λ i c. at_cell (past base j) j table are author (as_written limit j legal) c i) found)
        (outcome author n cells rise 1 (omega arith) j (past base j).entries)
