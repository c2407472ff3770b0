use Rattle.std.proofs.Common.{◌≡◌, None, Some, false, is_err, refl, ◌∙◌, ap, sym}
use Rattle.room_socket.specs.Timely.{remaining_of, contents_of}
use Rattle.room_socket.proofs.Written.{sends}
use Rattle.room_socket.proofs.sending.send.Goals as goal

pub returns-in-None : goal.returns-in-None
returns-in-None g c =
    let fine : is_err c.send_texts.result ≡ false = sym c.is_err.ensures.value ∙ c.if-is_err.false in
    sends (remaining_of g.S.Read.remaining) (contents_of g.S.Write.contents) c.args.sent c.in-Ok.sent c.send_texts.result c.args.socket.now c.send_texts.new.socket c.send_texts.new.socket None c.in-Ok.is fine c.send_texts.ensures.ok (rw c.in-None.is (refl, refl))

pub returns : goal.returns
returns g c =
    let fine : is_err c.send_texts.result ≡ false = sym c.is_err.ensures.value ∙ c.if-is_err.false in
    sends (remaining_of g.S.Read.remaining) (contents_of g.S.Write.contents) c.args.sent c.in-Ok.sent c.send_texts.result c.args.socket.now c.send_texts.new.socket c.send_close.new.socket (Some c.send_close.result) c.in-Ok.is fine c.send_texts.ensures.ok (rw c.in-Some.is (ap Some c.send_close.ensures.end, c.send_close.ensures.closes))
