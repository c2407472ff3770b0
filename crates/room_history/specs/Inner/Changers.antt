-- Which entries changed a touch last. (Guards are this project's.)
use Rattle.std.specs.Prelude.{◌≡◌, ◌+◌, ◌<◌, ◌≤◌, ℕ, Bool, true, false, List, ◌∷◌, Option, Some, None, cond, map, unwrap_or, nat_eq, nat_lt}
use Rattle.std.specs.Map.{lookup}
use Rattle.osm_changes.specs.Prelude.{cell_of, has, is_lt, name_cmp}
use Rattle.osm_elements.specs.declared.name.Name.{Name}
use Rattle.osm_changes.specs.declared.cell.Cell.{Cell}
use Rattle.osm_changes.specs.declared.change.Change.{Change}
use Rattle.osm_changes.specs.declared.half.Half.{Half}
use Rattle.edit_footprint.specs.Touches.{Touch, is_same_touch, presence_written, cell_written, does}
use Rattle.room_interface.specs.declared.author.Author.{Author}
use Rattle.room_history.specs.declared.changers.LastChange.{LastChange}
use Rattle.room_history.specs.declared.entry.Entry.{Entry}
use Rattle.room_history.specs.Journals.{numbered, is_by}
use Rattle.room_history.specs.Replays.{Recorded, Past}

-- the greater of two numbers
abbrev pub greater : ℕ → ℕ → ℕ
greater a b = cond (nat_lt a b) b a

-- an outcome is the last value of f above n on the cells, with the least name of a cell that has it
pub record IsLast (n : ℕ) (f : Cell → ℕ) (cells : List Cell) (m : ℕ) (x : Name) : Type 0 where
  pub later : n < m
  pub cell : Cell
  pub inside : has cells cell ≡ true
  pub number : f cell ≡ m
  pub name : cell.name ≡ x
  pub most : (c : Cell) → has cells c ≡ true → f c ≤ m
  pub least : (c : Cell) → has cells c ≡ true → f c ≡ m → is_lt (name_cmp c.name x) ≡ false

abbrev pub IsOutcome : ℕ → (Cell → ℕ) → List Cell → Option (ℕ × Name) → Type 0
IsOutcome n f cells None = (c : Cell) → has cells c ≡ true → f c ≤ n
IsOutcome n f cells (Some b) = IsLast n f cells b.0 b.1

-- the later of an outcome and of the entry m, if it is after the first n
abbrev pub is_later : ℕ → Option (ℕ × Name) → ℕ → Bool
is_later n None m = nat_lt n m
is_later n (Some b) m = nat_lt b.0 m

abbrev pub later : ℕ → Option (ℕ × Name) → ℕ → Name → Option (ℕ × Name)
later n o m x = cond (is_later n o m) (Some (m, x)) o

-- a table of last changes, with the capacity for more
pub record ChangersState : Type 0 where
  pub rows : List (Touch × LastChange)
  pub room : ℕ

-- no entry
abbrev pub never : LastChange
never = record { last = 0; before = 0 }

-- what a table has for a touch
abbrev pub last_at : List (Touch × LastChange) → Touch → LastChange
last_at table t = unwrap_or (lookup (is_same_touch t) table) never

module _ {A : Type 0} where
  -- the touch that a change writes: the presence of its element, if the element comes or goes, or else the cell
  abbrev pub half_written : Cell → Option (Half A) → Option (Half A) → Touch
  half_written c (Some before) (Some after) = cell_written c
  half_written c before after = presence_written c.name

  abbrev pub written_by : Change A → Touch
  written_by c = half_written (cell_of c) c.before c.after

  -- the last entry of another author that changed a touch, or 0, from its last changes
  abbrev pub by_another : List (Entry A) → Author → LastChange → ℕ
  by_another j author c = cond (is_by author (numbered j c.last)) c.before c.last

  -- the last entry of another author that changed a cell, or 0: the later one of those that wrote it or its presence
  abbrev pub changer : List (Entry A) → Author → List (Touch × LastChange) → Cell → ℕ
  changer j author table c =
      greater (by_another j author (last_at table (presence_written c.name))) (by_another j author (last_at table (cell_written c)))

  -- the last changes of a touch after one more, by entry k of an author
  abbrev pub changed_again : List (Entry A) → Author → ℕ → LastChange → LastChange
  changed_again j author k c = cond (nat_eq c.last k) c (record { last = k; before = by_another j author c })

  -- the last changes of a touch after the entries es, numbered from k, with their records; c: those before
  abbrev pub last_changes : List (Entry A) → Touch → ℕ → List (Entry A) → List (Recorded A) → LastChange → LastChange
  last_changes j t k (e ∷ es) (r ∷ rs) c =
      last_changes j t (k + 1) es rs (cond (does (map written_by r.changes) t) (changed_again j e.author k c) c)
  last_changes j t k es rs c = c

  -- a table has the last changes of each touch
  abbrev pub AreChangers : Past A → List (Entry A) → List (Touch × LastChange) → Type 0
  AreChangers p j table = (t : Touch) → last_at table t ≡ last_changes j t 1 j p.entries never
