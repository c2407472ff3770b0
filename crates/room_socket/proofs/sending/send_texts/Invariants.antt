use Rattle.std.proofs.Common.{drop}
use Rattle.tungstenite.specs.Socket.{Socket}
use Rattle.room_socket.specs.Prelude.{Timely, contents_of, WritesTexts}
use Rattle.room_socket.proofs.sending.send_texts.Given as goal

-- if the texts that are left are written from here, all texts were written
abbrev pub invariant-loop-text : goal.invariant-loop-text
invariant-loop-text g l = (new : Socket (Timely g.row.S.Denot)) → WritesTexts (contents_of g.S.Write.contents) (drop l.text-index l.texts) l.socket new → WritesTexts (contents_of g.S.Write.contents) l.texts l.fn.socket new
