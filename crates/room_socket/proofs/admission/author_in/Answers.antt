use Rattle.std.proofs.Common.{◌≡◌, ◌∙◌, Bool, true, false, None, Err, ap, is_ok, refl, sym, true≢false}
use Rattle.room_interface.proofs.Ascii.{name_is_read}
use Rattle.room_socket.specs.Prelude.{author_of, is_author}
use Rattle.room_socket.proofs.admission.author_in.Goals as goal

pub returns-in-Err : goal.returns-in-Err
returns-in-Err c = by (is_author c.args.bytes.now) refl
  where
    by : (b : Bool) → is_author c.args.bytes.now ≡ b → None ≡ author_of c.args.bytes.now
    by true is = absurd (true≢false (sym (name_is_read _ _ c.args.bytes.now c.from_utf8.result is c.from_utf8.ensures.cases) ∙ ap is_ok c.in-Err.is))
    by false is = rw is refl
