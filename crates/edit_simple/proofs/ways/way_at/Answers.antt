use Rattle.std.proofs.Common.{sym}
use Rattle.edit_simple.proofs.Relisted.{way_or_none}
use Rattle.edit_simple.proofs.ways.way_at.Goals as goal

pub unreachable-requires : goal.unreachable-requires
unreachable-requires g c = way_or_none c.args.rows.now c.args.name.now c.in-Some.element.now c.requires.sound (sym c.requires.kind) c.in-Some.ensures c.in_default-element.not-Way
