use Rattle.std.proofs.Common.{ap, ◌∙◌}
use Rattle.std.proofs.lemmas.Int.{to_z-of_z}
use Rattle.room_wire.specs.Prelude.{w64, name_with, new_is}
use Rattle.osm_elements.specs.declared.name.Kind.TheVariants as kind
use Rattle.room_wire.proofs.forms.node_with.Goals as goal

pub returns-clause-value : goal.returns-clause-value
returns-clause-value c = new_is kind.Node _ c.new.result c.new.ensures ∙ ap (name_with kind.Node) (to_z-of_z w64 c.args.id c.ranges.id)
