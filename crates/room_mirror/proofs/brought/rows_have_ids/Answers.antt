use Rattle.std.proofs.Common.{All, subst}
use Rattle.room_mirror.specs.Prelude.{names_of, HasId}
use Rattle.room_mirror.proofs.FromCalls.{ids_of_rows}
use Rattle.room_mirror.proofs.brought.rows_have_ids.Goals as goal

pub returns : goal.returns
returns c = subst (λ m. All HasId (names_of m)) c.as_slice.ensures (ids_of_rows c.as_slice.result.now c.each_has_id.ensures)
