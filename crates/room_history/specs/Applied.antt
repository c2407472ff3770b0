-- The number of changes of cells that a journal's entries made. (The count is this project's.)
use Rattle.std.specs.Prelude.{ℕ, List, fold}
use Rattle.edit_groups.specs.Prelude.{Rows, counted}
use Rattle.room_history.specs.declared.entry.Entry.{Entry}
use Rattle.room_history.specs.Replays.{Recorded, past}

-- the number of all recorded changes; an undo counts the changes that it took back, and the count stops at 2^128 - 1
abbrev pub applied : {A : Type 0} → Rows A → List (Entry A) → ℕ
applied base j = fold (λ n (r : Recorded _). counted n r.changes) 0 (past base j).entries
