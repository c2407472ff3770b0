use Rattle.edit_simple.proofs.Relisted.{relation_or_none}
use Rattle.edit_simple.proofs.members.relation_at.Goals as goal

pub unreachable-requires : goal.unreachable-requires
unreachable-requires g c = relation_or_none c.args.rows.now c.args.name.now c.in-Some.element.now c.requires c.if-not-is_relation.ensures c.in-Some.ensures c.in_default-element.not-Relation
