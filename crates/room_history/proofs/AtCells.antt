-- What a table of last changes says of a cell.
use Rattle.std.proofs.Common.{◌≡◌, ◌||◌, ◌+◌, ℕ, zero, suc, List, All, refl, map, sym, ap, ◌∙◌, arith}
use Rattle.osm_changes.specs.Cells.{Cell, has}
use Rattle.edit_footprint.specs.Touches.{Touch, does, presence_written, cell_written}
use Rattle.room_history.specs.Prelude.{Author, Entry, Recorded, Past, numbered, changed_cells}
use Rattle.room_history.specs.declared.changers.LastChange.{LastChange}
use Rattle.room_history.specs.Inner.Changers.{AreChangers, by_another, changer, greater, last_at, never, written_by}
use Rattle.room_history.proofs.LastChanging.{AreFromNumber, from_changes, writes}
use Rattle.room_history.proofs.LastOfOthers.{or_other, last_of_others, same_last}
use Rattle.room_history.proofs.LastOfTwo.{greater_of_two}
use Rattle.room_history.proofs.Overwriting.{last_to_change}

or_none : (m : ℕ) → or_other m 0 ≡ m
or_none zero = refl
or_none (suc m) = refl

module _ {A : Type 0} where
  -- each record's cells are those that its touches write
  abbrev pub AreAsWritten : List (Recorded A) → Type 0
  AreAsWritten rs = (c : Cell) → All (λ (r : Recorded A). has (changed_cells r.changes) c ≡ (does (map written_by r.changes) (presence_written c.name) || does (map written_by r.changes) (cell_written c))) rs

  whole_journal : (j : List (Entry A)) → AreFromNumber j 1 j
  whole_journal j i = ap (numbered j) (let same : 1 + i ≡ suc i = omega arith in same)

  module _ (p : Past A) (j : List (Entry A)) (table : List (Touch × LastChange)) (are : AreChangers p j table) (author : Author) where
    -- the last entry of another author that wrote a touch
    pub at_touch : (t : Touch) → by_another j author (last_at table t) ≡ last_of_others (λ r. does (map written_by r.changes) t) author 1 j p.entries
    at_touch t = ap (by_another j author) (are t) ∙ from_changes j author t 1 (omega arith) j p.entries (whole_journal j) never (omega arith) ∙ or_none (last_of_others (writes j author t) author 1 j p.entries)

    -- the last entry of another author that changed a cell is the later one of those that wrote it or its presence
    pub at_cell : AreAsWritten p.entries → (c : Cell)
        → changer j author table c ≡ last_to_change author c 1 j p.entries
    at_cell fits c =
        (λ i. greater (at_touch (presence_written c.name) i) (at_touch (cell_written c) i))
        ∙ sym (greater_of_two (λ r. does (map written_by r.changes) (presence_written c.name)) (λ r. does (map written_by r.changes) (cell_written c)) author 1 (omega arith) j p.entries)
        ∙ sym (same_last (λ r. has (changed_cells r.changes) c) (λ r. does (map written_by r.changes) (presence_written c.name) || does (map written_by r.changes) (cell_written c)) author 1 j p.entries (fits c))
