use Rattle.std.proofs.Common.{map, ◌∙◌}
use Rattle.json.specs.Token.{begin_object, end_object}
use Rattle.room_wire.specs.Inner.Writing.{members_tokens}
use Rattle.room_wire.proofs.Written.{closed, members_closed, object_is_readable, opened}
use Rattle.room_wire.proofs.told.write_object.Goals as goal

pub returns : goal.returns
returns g c =
    let ms = map g.M.ToldMember.pair c.args.members.now in
    let told = c.in_ok-write_members.ensures in
    record {
      before = c.in_ok-end_object.ensures.room.0 ∙ told.before ∙ c.in_ok-begin_object.ensures.room.0;
      tokens = closed _ _ _ (members_tokens ms) end_object told.tokens c.in_ok-end_object.ensures.ok ∙ opened _ _ begin_object c.in_ok-begin_object.ensures.ok _ ∙ members_closed _ ms;
      readable = object_is_readable ms c.requires told.readable;
    }
