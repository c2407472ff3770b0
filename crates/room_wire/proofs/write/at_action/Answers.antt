use Rattle.std.proofs.Common.{rules, ◌∙◌, ◌≡◌, ◌∷◌, ◌++◌, [], map, codes, decimal}
use Rattle.json.specs.Token.{begin_object, end_object, key, number as number_token}
use Rattle.serde_json.specs.Data.{Data, object}
use Rattle.room_wire.specs.Trees.{with_action}
use Rattle.room_wire.specs.Inner.Writing.{members_of, shown_tree, tree_tokens}
use Rattle.room_wire.proofs.ToldParts.{under_is_readable, whole_is_readable}
use Rattle.room_wire.proofs.Written.{closed, opened}
use Rattle.room_wire.proofs.write.at_action.Goals as goal

pub returns : goal.returns
returns c =
    let d : Data = object (with_action c.args.position (members_of (map (λ m. (m.0.now, shown_tree m.1)) c.args.members.now))) in
    let number : c.u64.new.self.tokens ≡ c.key.new.self.tokens ++ number_token (decimal c.args.id) ∷ [] = search rules in
    let told = c.in_ok-write_object_from.ensures in
    record {
      before = c.in_ok-end_object.ensures.room.0 ∙ told.before ∙ c.in_ok-key-2.ensures.room.0 ∙ c.in_ok-u64.ensures.room.0 ∙ c.in_ok-key.ensures.room.0 ∙ c.in_ok-begin_object.ensures.room.0;
      tokens =
          closed _ _ _ (tree_tokens d) end_object told.tokens c.in_ok-end_object.ensures.ok
          ∙ opened _ _ (key (codes "no")) c.in_ok-key-2.ensures.ok _
          ∙ opened _ _ (number_token (decimal c.args.id)) number _
          ∙ opened _ _ (key (codes "id")) c.in_ok-key.ensures.ok _
          ∙ opened _ _ begin_object c.in_ok-begin_object.ensures.ok _;
      readable = under_is_readable c.args.id (codes "no") d tt (whole_is_readable c.args.id c.ranges.id.fits) told.readable;
    }
