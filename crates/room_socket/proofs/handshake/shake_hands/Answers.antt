use Rattle.std.proofs.Common.{◌≡◌, ◌∙◌, Ok, sym, subst, take, true}
use Rattle.httparse.specs.Spans.{IsRequestOf, IsRequestWithin, span_bytes}
use Rattle.websocket.specs.Handshake.{requested_key}
use Rattle.websocket.specs.Headers.{fields_of}
use Rattle.room_socket.specs.Prelude.{caller_of, lets_in, rule_of}
use Rattle.room_socket.proofs.Greeting.{answered}
use Rattle.room_socket.proofs.handshake.shake_hands.Goals as goal

-- the head that was read is the one that was parsed, and it says who calls and from where
pub returns-clause-ok : goal.returns-clause-ok
returns-clause-ok g c =
    let head = c.in-Some.head.items in
    let found = c.in-Ok-Complete.found in
    let spans = c.parse_request.new.headers in
    let rule = rule_of c.args.admission.now in
    let within : IsRequestWithin c.deref.result.now spans found = rw c.in-Ok-Complete.field-0-is at c.in-Ok-Complete.ensures.within in
    let is : IsRequestOf c.deref.result.now spans found = rw c.in-Ok-Complete.field-0-is at c.in-Ok-Complete.ensures.complete in
    let key = answered _ _ c.in-Ok.accept c.in-Ok.is c.check_request.ensures in (
      (
        head,
        record {
          request = found;
          spans = spans;
          within = subst (λ h. IsRequestWithin h spans found) c.deref.ensures.value within;
          is = subst (λ h. IsRequestOf h spans found) c.deref.ensures.value is;
          key = key.0;
          asked = subst (λ h. requested_key (span_bytes h found.method) found.version (fields_of h (take found.headers spans)) ≡ Ok key.0) c.deref-2.ensures.value key.1;
          valid = key.2;
          origin = subst (λ h. lets_in rule (fields_of h (take found.headers spans)) ≡ true) c.deref-3.ensures.value (sym c.lets_in.ensures ∙ c.if-not-lets_in.false);
          called = subst (λ h. c.caller-caller.result ≡ caller_of rule (fields_of h (take found.headers spans))) c.deref-4.ensures.value c.caller-caller.ensures;
        },
      ),
      (_, c.from_raw_socket-socket.ensures.fresh),
    )
