use Rattle.std.proofs.Common.{rules, ◌∙◌, ap, arith, subst, sym, ◌≡◌, ◌≢◌, ◌∷◌, ◌+◌, [], OnOk, drop, refl}
use Rattle.std.proofs.lemmas.List.{drop_more}
use Rattle.tungstenite.specs.Connection.{write_step}
use Rattle.tungstenite.specs.Content.{text}
use Rattle.tungstenite.specs.Socket.{Writes, content_of}
use Rattle.room_socket.specs.Prelude.{contents_of, SendsTexts, WritesTexts}
use Rattle.room_socket.proofs.Written.{drop_past, sent_all}
use Rattle.room_socket.proofs.sending.send_texts.Goals as goal

pub loop-text-preserved : goal.loop-text-preserved
loop-text-preserved g c = λ new later.
    let l = c.loop-text in
    let contents = contents_of g.S.Write.contents in
    let xs = c.as_slice-texts.result.now in
    let x = c.text-item.result in
    let here : drop l.text-index xs ≡ x ∷ drop (l.text-index + 1) xs = drop_more xs l.text-index x (omega arith) ∙ ap (λ y. y ∷ drop (l.text-index + 1) xs) (sym c.text-item.is) in
    let said : content_of c.in_ok-text.field-0 ≡ text x = c.in_ok-text.ensures ∙ ap (λ words. text words) c.as_str.ensures in
    let wrote : Writes contents l.socket c.write.new.self (write_step l.socket.conn (text x)) = subst (λ content. Writes contents l.socket c.write.new.self (write_step l.socket.conn content)) said c.in_ok-write.ensures.wrote in
    l.invariant new (subst (λ ys. WritesTexts contents ys l.socket new) (sym here) (c.write.new.self, wrote, later))

pub returns-clause-ok : goal.returns-clause-ok
returns-clause-ok g c =
    let l = c.loop-text in
    let contents = contents_of g.S.Write.contents in
    let xs = c.as_slice-texts.result.now in
    let some : xs ≢ [] = search rules in
    let none_left : drop l.text-index xs ≡ [] = drop_past l.text-index xs (omega arith) in
    let written : WritesTexts contents xs c.args.socket.now l.socket = l.invariant l.socket (subst (λ ys. WritesTexts contents ys l.socket l.socket) (sym none_left) refl) in
    subst (λ texts. OnOk c.flush.result (SendsTexts contents texts c.args.socket.now c.flush.new.self)) c.as_slice-texts.ensures (sent_all contents c.flush.result xs c.args.socket.now l.socket c.flush.new.self some written c.flush.ensures.sent c.flush.ensures.empty)
