use Rattle.std.proofs.Common.{OnOk, codes, subst}
use Rattle.serde_json.specs.Data.{member, no_members, string}
use Rattle.room_wire.specs.Inner.Writing.{Tells}
use Rattle.room_wire.specs.Trees.{no_tree, with_position}
use Rattle.room_wire.proofs.write.tag_conflict.Goals as goal

pub returns : goal.returns
returns c =
    subst (λ key. OnOk c.why.result (Tells c.args.out.now c.why.new.out (no_tree c.args.id (with_position c.args.action (member (codes "key") (string key) (member (codes "why") (string (codes "tag_conflict")) no_members)))))) c.as_str.ensures.value c.why.ensures
