use mathlib.Core.List.{[], ◌∷◌}
use denote.Exit.{yes}
use mir.Syntax.{named}
use denote.Param.{param}
use denote.Param.Send.{param_send, arg_send, shr_send}
use Rattle.std.proofs.Crossing.{send, sync, frees}
use Rattle.std.specs.contracts.alloc.Global as Heap
use Rattle.std.specs.contracts.impls.GlobalAllocator.TheImpl as heap
use Rattle.std.below.core.specs.contracts.clone.Clone+copy.TheImpl as cloning
use Rattle.room_history.proofs.Crossing.{seat_send, desk_sync, closure_send}
use Rattle.room_history.specs.contracts.turned.RoomTurned.TheImpl.{no_dict}
use Rattle.part_lines.proofs.rooms.turns.Work.TheSendSync as work
use Rattle.part_lines.proofs.rooms.turns.+fn-in_threads-join+arg3+in_threads.Goals as goal

-- the closure takes references to the runtime, the desk and the work, and the seat
pub join-other-requires-send-F : goal.join-other-requires-send-F
join-other-requires-send-F g t c κs within =
    closure_send 1 _ _ (_ ∷ _ ∷ _ ∷ _ ∷ []) (
      shr_send (named 6) κs.1.1.1.1.1.1.0 (param 0 g.row.R) (search),
      (
        shr_send (named 7) κs.1.1.1.1.1.1.1.0 _ (desk_sync Heap.the_row heap.ghosts no_dict (cloning.ghosts Heap.the_row) no_dict send sync frees),
        (
          seat_send Heap.the_row heap.ghosts no_dict (cloning.ghosts Heap.the_row) no_dict send sync frees,
          (shr_send (named 8) κs.1.1.1.1.1.1.1.1.0 _ work.the_sync, tt),
        ),
      ),
    )

pub join-other-requires-send-A : goal.join-other-requires-send-A
join-other-requires-send-A g t c κs within = param_send 3 _ (arg_send _ yes _ (seat_send Heap.the_row heap.ghosts no_dict (cloning.ghosts Heap.the_row) no_dict send sync frees))
