-- The calls and queries of a room, and its replies, from its base, its limit and its journal.
use Rattle.std.specs.Prelude.{◌≡◌, ◌⊎◌, ℕ, List, Ok, Err, alloc_error, length}
use Rattle.room_stacks.specs.Prelude.{row_at, Rows}
use Rattle.room_interface.specs.declared.ask.RoomCall.{RoomCall}
use Rattle.room_interface.specs.declared.ask.RoomCall.TheVariants.{Take, Get, Rows as AllRows, Undos, News as NewsPast}
use Rattle.room_interface.specs.declared.ask.RoomReply.{RoomReply}
use Rattle.room_history.specs.declared.entry.Entry.{Entry}
use Rattle.room_interface.specs.declared.reply.Reply.TheVariants.{Memory}
use Rattle.room_history.specs.Journals.{undos, redos}
use Rattle.room_history.specs.News.{news}
use Rattle.room_history.specs.Replays.{mapof}
use Rattle.room_history.specs.Answers.{answer}
use Rattle.room_interface.specs.declared.ask.RoomReply.TheVariants as replies

module _ {A : Type 0} where
  -- the reply, and the journal after it, which a query leaves unchanged
  abbrev pub room_answer : Rows A → ℕ → List (Entry A) → RoomCall A → RoomReply A × List (Entry A)
  room_answer base limit j (Take c) = let step = answer base limit j c in (replies.Take step.0, step.1)
  room_answer base limit j (Get x) = (replies.Get x (Ok (row_at (mapof base j) x)), j)
  room_answer base limit j AllRows = (replies.Rows (Ok (length j, mapof base j)), j)
  room_answer base limit j (Undos author) =
      (replies.Undos (Ok (record { undos = undos j author; redos = redos j author })), j)
  room_answer base limit j (NewsPast from) = (replies.News (Ok (news base j from)), j)

  -- the reply `Memory`, in the form of the call or query
  abbrev pub wanting : RoomCall A → RoomReply A
  wanting (Take c) = replies.Take Memory
  wanting (Get x) = replies.Get x (Err alloc_error)
  wanting AllRows = replies.Rows (Err alloc_error)
  wanting (Undos author) = replies.Undos (Err alloc_error)
  wanting (NewsPast from) = replies.News (Err alloc_error)

  -- the room gives the specified reply, or replies `Memory` and its journal is unchanged
  abbrev pub IsAnswered : Rows A → ℕ → List (Entry A) → RoomCall A → RoomReply A → List (Entry A) → Type 0
  IsAnswered base limit j c reply k = ((reply, k) ≡ room_answer base limit j c) ⊎ ((reply ≡ wanting c) × (k ≡ j))
