-- The journals that calls lead to: each entry is the one that an answer appends. (The rules of a room are this
-- project's.)
use Rattle.std.specs.Prelude.{◌≡◌, ℕ, true, List, []}
use Rattle.room_stacks.specs.Prelude.{is_made_request, Rows}
use Rattle.room_interface.specs.declared.call.Call.{Call}
use Rattle.room_history.specs.declared.entry.Entry.{Entry}
use Rattle.room_history.specs.Answers.{answer}

-- calls with made values lead to the journal, from the empty one
pub data IsJournal {A : Type 0} (base : Rows A) (limit : ℕ) : List (Entry A) → Type 0 where
  opened : IsJournal base limit []
  called : (j : List (Entry A)) (c : Call A) → IsJournal base limit j → is_made_request c.request ≡ true
      → IsJournal base limit (answer base limit j c).1
