use Rattle.std.proofs.Common.{ap, ◌∙◌}
use Rattle.serde_json.specs.Read.{read}
use Rattle.room_wire.specs.Trees.{tree_of}
use Rattle.room_wire.proofs.Shallow.{tree_is_shallow}
use Rattle.room_wire.proofs.Texts.{is_read, is_written}
use Rattle.room_wire.proofs.write.reply_text.Goals as goal

pub from_writer-requires : goal.from_writer-requires
from_writer-requires c = c.in_ok-write_reply.ensures.before ∙ c.in_ok-out.ensures.0

pub returns-clause-text : goal.returns-clause-text
returns-clause-text c = c.from_writer.ensures ∙ is_written c.in_ok-out.out c.write_reply.new.out (tree_of c.args.id c.args.answer.now) c.in_ok-out.ensures.1 c.in_ok-write_reply.ensures

pub returns-clause-reads_back : goal.returns-clause-reads_back
returns-clause-reads_back c = ap read c.from_writer.ensures ∙ is_read c.in_ok-out.out c.write_reply.new.out (tree_of c.args.id c.args.answer.now) c.in_ok-out.ensures.1 c.in_ok-write_reply.ensures (tree_is_shallow c.args.id c.args.answer.now)
