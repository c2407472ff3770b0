use Rattle.std.proofs.Common.{ap, ◌∙◌}
use Rattle.serde_json.specs.Read.{read}
use Rattle.room_wire.specs.Trees.{map_tree}
use Rattle.room_wire.proofs.Shallow.{map_is_shallow}
use Rattle.room_wire.proofs.Texts.{is_read, is_written}
use Rattle.room_wire.proofs.write_map.map_text.Goals as goal

pub from_writer-requires : goal.from_writer-requires
from_writer-requires c = c.in_ok-answered.ensures.before ∙ c.in_ok-out.ensures.0

pub returns-clause-text : goal.returns-clause-text
returns-clause-text c = c.from_writer.ensures ∙ is_written c.in_ok-out.out c.answered.new.out (map_tree c.args.id c.args.map.now c.args.front) c.in_ok-out.ensures.1 c.in_ok-answered.ensures

pub returns-clause-reads_back : goal.returns-clause-reads_back
returns-clause-reads_back c = ap read c.from_writer.ensures ∙ is_read c.in_ok-out.out c.answered.new.out (map_tree c.args.id c.args.map.now c.args.front) c.in_ok-out.ensures.1 c.in_ok-answered.ensures (map_is_shallow c.args.id c.args.map.now c.args.front)
