use Rattle.std.proofs.Common.{ap, ◌∙◌, is_lt}
use Rattle.osm_elements.specs.Facts.NameOrder.{name_cmp_is}
use Rattle.room_wire.proofs.rising.is_before.Goals as goal

pub returns-in-Less : goal.returns-in-Less
returns-in-Less c = ap is_lt c.in-Less.ensures ∙ ap (λ R. is_lt (R c.args.one.now c.args.other.now)) name_cmp_is

pub returns-in-Equal : goal.returns-in-Equal
returns-in-Equal c = ap is_lt c.in-Equal.ensures ∙ ap (λ R. is_lt (R c.args.one.now c.args.other.now)) name_cmp_is

pub returns-in-Greater : goal.returns-in-Greater
returns-in-Greater c = ap is_lt c.in-Greater.ensures ∙ ap (λ R. is_lt (R c.args.one.now c.args.other.now)) name_cmp_is
