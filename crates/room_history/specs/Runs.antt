-- Runs of calls, and what is true of the room after each call.
use Rattle.std.specs.Prelude.{◌≡◌, ◌⊎◌, ℕ, List, [], ◌∷◌}
use Rattle.osm_elements.specs.Maps.{Rows}
use Rattle.room_interface.specs.declared.call.Call.{Call}
use Rattle.room_history.specs.declared.entry.Entry.{Entry}
use Rattle.room_interface.specs.declared.reply.Reply.{Reply}
use Rattle.room_interface.specs.declared.reply.Reply.TheVariants.{Memory}
use Rattle.room_history.specs.Answers.{answer}
use Rattle.room_history.specs.Headline.{Holds}
use Rattle.room_history.specs.Rooms.{RoomState}

module _ {A : Type 0} where
  -- one call: the specified answer, or `Memory` and the journal is unchanged
  abbrev pub IsStep : Rows A → ℕ → List (Entry A) → Call A → Reply A → List (Entry A) → Type 0
  IsStep base limit j c reply k = ((reply, k) ≡ answer base limit j c) ⊎ ((reply ≡ Memory) × (k ≡ j))

  -- calls and their replies in order: there are as many replies as calls, and the journal holds before the first call
  -- and after each call
  abbrev pub IsRun : Rows A → ℕ → List (Entry A) → List (Call A) → List (Reply A) → List (Entry A) → Type 0
  IsRun base limit j [] [] end = Holds base limit j × (end ≡ j)
  IsRun base limit j [] (r ∷ rs) end = ⊥
  IsRun base limit j (c ∷ cs) [] end = ⊥
  IsRun base limit j (c ∷ cs) (r ∷ rs) end =
      Holds base limit j × ((k : List (Entry A)) × IsStep base limit j c r k × IsRun base limit k cs rs end)

  -- the room has this limit and began with this map, and these are its replies to the calls in order
  pub record Answers (base : Rows A) (limit : ℕ) (calls : List (Call A)) (room : RoomState A) (replies : List (Reply A))
      : Type 0 where
    pub base_is : room.base ≡ base
    pub limit_is : room.limit ≡ limit
    pub run : IsRun base limit [] calls replies room.journal
