use Rattle.std.proofs.Common.{◌≡◌, ◌++◌, drop, option_map, option_to_list}
use Rattle.websocket.specs.Headers.{fields_of}
use Rattle.room_socket.specs.Prelude.{values_of}
use Rattle.room_socket.proofs.admission.sole_value.Given as goal

-- the values so far are the one that was found, if any
abbrev pub invariant-loop-field : goal.invariant-loop-field
invariant-loop-field l =
    values_of (fields_of l.head l.spans) l.name
    ≡ option_to_list (option_map (λ value. value.now) l.found) ++ values_of (fields_of l.head (drop l.field-index l.spans)) l.name
