use Rattle.std.proofs.Common.{◌∷◌, map, ◌∙◌}
use Rattle.json.specs.Token.{begin_object, end_object}
use Rattle.room_wire.specs.Inner.Writing.{IsReadable, members_tokens}
use Rattle.room_wire.proofs.Written.{closed, members_closed, object_is_readable, opened, put_first, then_members}
use Rattle.room_wire.proofs.told.write_object_from.Goals as goal

pub returns : goal.returns
returns g c =
    let m = g.F.ToldMember.pair c.args.first.now in
    let ms = map g.M.ToldMember.pair c.args.members.now in
    let first = c.in_ok-write.ensures in
    let told = c.in_ok-write_members.ensures in
    record {
      before = c.in_ok-end_object.ensures.room.0 ∙ told.before ∙ first.before ∙ c.in_ok-begin_object.ensures.room.0;
      tokens =
          closed _ _ _ (members_tokens (m ∷ ms)) end_object (then_members _ _ _ m ms first.tokens told.tokens) c.in_ok-end_object.ensures.ok
          ∙ opened _ _ begin_object c.in_ok-begin_object.ensures.ok _
          ∙ members_closed _ (m ∷ ms);
      readable = object_is_readable (m ∷ ms) c.requires (put_first (λ n. IsReadable n.1) m ms first.readable told.readable);
    }
