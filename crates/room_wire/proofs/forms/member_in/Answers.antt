use Rattle.std.proofs.Common.{inr, ap, arith}
use Rattle.room_wire.specs.Prelude.{or_fault, BadField}
use Rattle.room_wire.proofs.MemberPairs.{not_two}
use Rattle.room_wire.specs.declared.field.Field.TheVariants as field
use Rattle.room_wire.proofs.forms.member_in.Goals as goal

pub returns-then-items-ne2 : goal.returns-then-items-ne2
returns-then-items-ne2 c = inr (ap (or_fault (BadField field.Members)) (not_two c.args.items.now (λ e. omega (arith, e))))
