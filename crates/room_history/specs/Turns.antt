-- A room as the value that a desk passes from turn to turn: its list is its journal, over its base map and its limit.
use Rattle.std.specs.Prelude.{◌≡◌, true, List}
use Rattle.room_interface.specs.MadeCalls.{is_made_room_call}
use Rattle.room_interface.specs.declared.ask.RoomCall.{RoomCall}
use Rattle.room_interface.specs.declared.ask.RoomReply.{RoomReply}
use Rattle.room_history.specs.declared.entry.Entry.{Entry}
use Rattle.room_history.specs.declared.turned.Opening.{Opening}
use Rattle.room_history.specs.Asking.{IsAnswered}

module _ {A : Type 0} where
  -- the values of the call or query are made, and the room with the journal gives this reply and the journal after it
  abbrev pub IsTurn : Opening A → List (Entry A) → RoomCall A → RoomReply A → List (Entry A) → Type 0
  IsTurn opening j call reply k = (is_made_room_call call ≡ true) × IsAnswered opening.base opening.limit j call reply k
