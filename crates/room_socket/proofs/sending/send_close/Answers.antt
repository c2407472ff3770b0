use Rattle.std.proofs.Common.{rules, subst, sym, ◌≡◌}
use Rattle.room_socket.specs.Prelude.{remaining_of, contents_of, Closes, code_of}
use Rattle.tungstenite.specs.declared.CloseCode.TheVariants as codes
use Rattle.room_socket.proofs.sending.send_close.Goals as goal

pub returns-then-code-eq-UNSUPPORTED_DATA-clause-closes : goal.returns-then-code-eq-UNSUPPORTED_DATA-clause-closes
returns-then-code-eq-UNSUPPORTED_DATA-clause-closes g c =
    let same : code_of c.args.code ≡ codes.Unsupported = search rules in
    subst (λ code. Closes (remaining_of g.S.Read.remaining) (contents_of g.S.Write.contents) code c.args.socket.now c.close.new.socket) (sym same) c.close.ensures

pub returns-else-code-eq-UNSUPPORTED_DATA-clause-closes : goal.returns-else-code-eq-UNSUPPORTED_DATA-clause-closes
returns-else-code-eq-UNSUPPORTED_DATA-clause-closes g c =
    let same : code_of c.args.code ≡ codes.Error = search rules in
    subst (λ code. Closes (remaining_of g.S.Read.remaining) (contents_of g.S.Write.contents) code c.args.socket.now c.close-else-code-eq-UNSUPPORTED_DATA.new.socket) (sym same) c.close-else-code-eq-UNSUPPORTED_DATA.ensures
