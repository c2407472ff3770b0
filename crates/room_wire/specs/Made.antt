-- The values that a message asks for are as their types require.
use Rattle.std.specs.Prelude.{Bool, true}
use Rattle.room_interface.specs.MadeCalls.{is_made_request}
use Rattle.room_wire.specs.declared.incoming.Body.{Body}
use Rattle.room_wire.specs.declared.incoming.Body.TheVariants.{Hello, Change, Get, Map, Undos}

abbrev pub is_made_body : Body → Bool
is_made_body (Change request) = is_made_request request
is_made_body (Get name) = true
is_made_body Map = true
is_made_body Undos = true
is_made_body (Hello room name) = true
