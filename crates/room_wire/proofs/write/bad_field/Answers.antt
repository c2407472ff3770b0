use Rattle.std.proofs.Common.{OnOk, codes, subst}
use Rattle.serde_json.specs.Data.{member, no_members, string}
use Rattle.room_wire.specs.Inner.Writing.{Tells}
use Rattle.room_wire.specs.Trees.{no_tree, with_position}
use Rattle.room_wire.proofs.write.bad_field.Goals as goal

pub returns : goal.returns
returns c =
    subst (λ field. OnOk c.why.result (Tells c.args.out.now c.why.new.out (no_tree c.args.id (with_position c.args.action (member (codes "field") (string field) (member (codes "why") (string (codes "bad_field")) no_members)))))) c.as_str.ensures c.why.ensures
