-- The bytes are UTF-8, so they make a text.
use Rattle.std.proofs.Common.{IsUtf8, subst, sym}
use Rattle.std.proofs.Math.Logic.{∥∥₁_elim}
use Rattle.room_wire.proofs.json_text.Json.as_str.Goals as goal

pub unreachable-requires : goal.unreachable-requires
unreachable-requires c =
    ∥∥₁_elim c.self.inside.utf8 (λ x y. absurd x) (λ utf8. c.in-Err.ensures.cases.0 (subst IsUtf8 (sym c.deref.ensures.value) utf8))
