-- A room, a seat at its desk and a reference to the desk can go to another thread under three conditions on the
-- allocator: it can go too, threads can share it, because rooms share values, and any thread can give blocks back to
-- it. Rattle proves this by itself for each type of this crate except the room, because it writes no such proof for a
-- type with a `Snapshot`.
use mathlib.Core.List.{List, [], ◌∷◌}
use Prim.Native.Nat.{ℕ}
use mir.Syntax.{Dict, Sym, Ty}
use denote.Exit.{yes}
use denote.Param.{param, arg}
use denote.Param.Send.{IsSend, IsSync, Frees, AllSend, sendable, arg_send, param_send, recorded_send, struct_send}
use denote.RattleType.{RattleType}
use denote.Struct.Declared.{shape}
use denote.Struct.Field.{rows}
use denote.Struct.Tuple.{TupleAt, parts, type_at}
use Rattle.std.proofs.Crossing.{crosses}
use Rattle.std.proofs.vec.Vec.TheSendSync as vec
use Rattle.std.specs.contracts.option.Option as Option
use Rattle.edit_footprint.specs.contracts.footprint.Footprint as Footprint
use Rattle.std.specs.declared.alloc.Allocator as alloc
use Rattle.std.specs.declared.clone.Clone as clone
use Rattle.osm_changes.proofs.store.Store.TheSendSync as store
use Rattle.room_history.proofs.kept.Kept.TheSendSync as kept
use Rattle.edit_footprint.proofs.footprint.Footprint.TheSendSync as footprint
use Rattle.edit_footprint.proofs.holders.Holders.TheSendSync as holders
use Rattle.room_stacks.proofs.stacks.Stacks.TheSendSync as stacks
use Rattle.room_history.proofs.changers.Changers.TheSendSync as changers
use Rattle.turn_desk.proofs.desk.Desk.TheSendSync as desk
use Rattle.turn_desk.proofs.seat.Seat.TheSendSync as seat
use Rattle.turn_desk.specs.contracts.desk.Desk as Desk
use Rattle.turn_desk.specs.contracts.seat.Seat as Seat
use Rattle.room_history.proofs.entry.Entry.TheSendSync as entry
use Rattle.room_interface.specs.contracts.ask.RoomCall as RoomCall
use Rattle.room_interface.specs.contracts.ask.RoomReply as RoomReply
use Rattle.room_history.specs.contracts.entry.Entry as Entry
use Rattle.room_history.specs.contracts.room.Room as Room
use Rattle.room_history.specs.contracts.turned.Opening as Opening
use Rattle.room_history.specs.contracts.turned.RoomTurned.TheImpl as turned

-- the footprint of an entry, if it is active
footprint_send : (A : RattleType) (g : alloc.Ghosts A.Denot) → IsSend A → Frees g g.dealloc_token → IsSend (Option.the_row (Footprint.the_row A g))
footprint_send A g a f = search (sendable, crosses, footprint.the_send) depth 14

pub room_send : (A : RattleType) (g : alloc.Ghosts A.Denot) → IsSend A → IsSync A → Frees g g.dealloc_token → IsSend (Room.the_row A g)
room_send A g a s f = search (sendable, crosses, store.the_send, kept.the_send, footprint_send, holders.the_send, changers.the_send, stacks.the_send, entry.the_send, vec.the_send) depth 16

module _ (A : RattleType) (g : alloc.Ghosts A.Denot) (own : Dict) (k : clone.Ghosts A.Denot) (copy : Dict) where
  pub seat_send : IsSend A → IsSync A → Frees g g.dealloc_token → IsSend (Seat.the_row (Room.the_row A g) (RoomCall.the_row A g) (RoomReply.the_row A g) (Entry.the_row A g) (Opening.the_row A g) (turned.ghosts A g own k copy))
  seat_send a s f = seat.the_send (Room.the_row A g) (RoomCall.the_row A g) (RoomReply.the_row A g) (Entry.the_row A g) (Opening.the_row A g) (turned.ghosts A g own k copy) (room_send A g a s f)

  pub desk_sync : IsSend A → IsSync A → Frees g g.dealloc_token → IsSync (Desk.the_row (Room.the_row A g) A (RoomCall.the_row A g) (RoomReply.the_row A g) (Entry.the_row A g) (Opening.the_row A g) (turned.ghosts A g own k copy) g)
  desk_sync a s f = desk.the_sync (Room.the_row A g) A (RoomCall.the_row A g) (RoomReply.the_row A g) (Entry.the_row A g) (Opening.the_row A g) (turned.ghosts A g own k copy) g (room_send A g a s f) a s f

-- a closure can go to another thread if all its captured values can
all_parts : (Ts : List RattleType) → AllSend Ts → AllSend (rows (parts Ts))
all_parts [] all = tt
all_parts (R ∷ Ts) all = (all.0, all_parts Ts all.1)

pub closure_send : (i : ℕ) (δ : Ty) (ν : Sym) (Ts : List RattleType) → AllSend Ts → IsSend (param i (arg δ yes (TupleAt ν Ts)))
closure_send i δ ν Ts all = let T = type_at ν Ts in param_send i _ (arg_send δ yes _ (recorded_send _ T.D T.to T.to_one (struct_send (shape T) (all_parts Ts all))))
