use Rattle.std.proofs.Common.{◌≡◌, drop}
use Rattle.websocket.specs.Headers.{fields_of}
use Rattle.room_socket.specs.Prelude.{lets_in, rule_of}
use Rattle.room_socket.proofs.admission.Admission.lets_in.Given as goal

-- no origin so far is refused
abbrev pub invariant-loop-field : goal.invariant-loop-field
invariant-loop-field l =
    lets_in (rule_of l.self) (fields_of l.head l.spans) ≡ lets_in (rule_of l.self) (fields_of l.head (drop l.field-index l.spans))
