-- A table and the seats at its desks may go to other threads. Rattle does not derive these proofs.
use denote.Param.Send.{IsSend, IsSync, sendable, view_sync, recorded_sync, struct_sync}
use Rattle.std.proofs.Crossing.{crosses, send, sync, frees}
use denote.Struct.Declared.{shape}
use denote.Struct.Field.{u64-field}
use Rattle.room_history.proofs.Crossing.{seat_send, desk_sync}
use Rattle.room_history.specs.contracts.turned.RoomTurned.TheImpl.{no_dict}
use Rattle.std.proofs.vec.Vec.TheSendSync as vec
use Rattle.std.specs.contracts.alloc.Global as Heap
use Rattle.std.specs.contracts.impls.GlobalAllocator.TheImpl as heap
use Rattle.std.below.core.specs.contracts.clone.Clone+copy.TheImpl as cloning
use Rattle.indexmap.proofs.set.IndexSet.TheSendSync as set
use Rattle.room_interface.proofs.author.Author.TheSendSync as author
use Rattle.turn_desk.specs.contracts.desk.Desk as Desk
use Rattle.turn_desk.specs.contracts.seat.Seat as Seat
use Rattle.room_interface.specs.contracts.ask.RoomCall as RoomCall
use Rattle.room_interface.specs.contracts.ask.RoomReply as RoomReply
use Rattle.room_history.specs.contracts.entry.Entry as Entry
use Rattle.room_history.specs.contracts.room.Room as Room
use Rattle.room_history.specs.contracts.turned.Opening as Opening
use Rattle.room_history.specs.contracts.turned.RoomTurned.TheImpl as turned
use Rattle.std.specs.contracts.vec.Vec as Vec
use Rattle.std.specs.contracts.net.tcp.TcpStream as TcpStream
use Rattle.std.proofs.net.tcp.TcpStream.TheSendSync as stream
use Rattle.crossbeam_channel.specs.contracts.channel.Receiver as Receiver
use Rattle.crossbeam_channel.proofs.channel.Receiver.TheSendSync as receiver
use Rattle.room_server.specs.contracts.job.Job as Job
use Rattle.room_socket.specs.contracts.admission.Admission as Admission
use Rattle.room_socket.proofs.admission.Admission.TheSendSync as admission
use Rattle.room_server.proofs.job.Job.TheSendSync as job
use Rattle.room_server.specs.contracts.table.RoomTable as RoomTable

desk : IsSync (Desk.the_row (Room.the_row Heap.the_row heap.ghosts) Heap.the_row (RoomCall.the_row Heap.the_row heap.ghosts) (RoomReply.the_row Heap.the_row heap.ghosts) (Entry.the_row Heap.the_row heap.ghosts) (Opening.the_row Heap.the_row heap.ghosts) (turned.ghosts Heap.the_row heap.ghosts no_dict (cloning.ghosts Heap.the_row) no_dict) heap.ghosts)
desk = desk_sync Heap.the_row heap.ghosts no_dict (cloning.ghosts Heap.the_row) no_dict send sync frees

desks : IsSync (Vec.the_row (Desk.the_row (Room.the_row Heap.the_row heap.ghosts) Heap.the_row (RoomCall.the_row Heap.the_row heap.ghosts) (RoomReply.the_row Heap.the_row heap.ghosts) (Entry.the_row Heap.the_row heap.ghosts) (Opening.the_row Heap.the_row heap.ghosts) (turned.ghosts Heap.the_row heap.ghosts no_dict (cloning.ghosts Heap.the_row) no_dict) heap.ghosts) Heap.the_row heap.ghosts)
desks = vec.the_sync _ _ heap.ghosts desk sync

inside : IsSync RoomTable.TheInside.the_row
inside = let T = RoomTable.TheInside.the_type in recorded_sync _ T.D T.to T.to_one (struct_sync (shape T) (search (sendable, crosses, set.the_sync, author.the_sync, sync, frees) depth 14, (desks, tt)))

pub table_sync : IsSync RoomTable.the_row
table_sync = view_sync RoomTable.TheInside.the_row _ _ _ _ inside

seat : IsSend (Seat.the_row (Room.the_row Heap.the_row heap.ghosts) (RoomCall.the_row Heap.the_row heap.ghosts) (RoomReply.the_row Heap.the_row heap.ghosts) (Entry.the_row Heap.the_row heap.ghosts) (Opening.the_row Heap.the_row heap.ghosts) (turned.ghosts Heap.the_row heap.ghosts no_dict (cloning.ghosts Heap.the_row) no_dict))
seat = seat_send Heap.the_row heap.ghosts no_dict (cloning.ghosts Heap.the_row) no_dict send sync frees

pub seats_send : IsSend (Vec.the_row (Seat.the_row (Room.the_row Heap.the_row heap.ghosts) (RoomCall.the_row Heap.the_row heap.ghosts) (RoomReply.the_row Heap.the_row heap.ghosts) (Entry.the_row Heap.the_row heap.ghosts) (Opening.the_row Heap.the_row heap.ghosts) (turned.ghosts Heap.the_row heap.ghosts no_dict (cloning.ghosts Heap.the_row) no_dict)) Heap.the_row heap.ghosts)
seats_send = vec.the_send _ _ _ seat send frees

pub jobs_sync : IsSync (Receiver.the_row (Job.the_row TcpStream.the_row) Heap.the_row heap.ghosts)
jobs_sync = search (sendable, crosses, receiver.the_sync, job.the_send, stream.the_send, send, sync, frees) depth 14

pub u64_send : IsSend (u64-field).row
u64_send = search sendable

pub admission_sync : IsSync Admission.the_row
admission_sync = search (sendable, crosses, admission.the_sync, send, sync, frees) depth 14
