use Rattle.std.proofs.Common.{◌∷◌, [], codes, ◌∙◌, arith}
use Rattle.json.specs.Token.{begin_object, end_object, key}
use Rattle.room_wire.specs.News.{told_tree}
use Rattle.room_wire.specs.Inner.Writing.{IsReadable, tree_tokens}
use Rattle.room_wire.proofs.Written.{closed, object_is_readable, opened, put_first}
use Rattle.room_wire.proofs.write_news.write_news.Goals as goal

pub returns : goal.returns
returns c =
    let told = c.in_ok-write_told.ensures in
    let d = told_tree c.args.news.now in
    record {
      before = c.in_ok-end_object.ensures.room.0 ∙ told.before ∙ c.in_ok-key.ensures.room.0 ∙ c.in_ok-begin_object.ensures.room.0;
      tokens = closed _ _ _ (tree_tokens d) end_object told.tokens c.in_ok-end_object.ensures.ok ∙ opened _ _ (key (codes "news")) c.in_ok-key.ensures.ok _ ∙ opened _ _ begin_object c.in_ok-begin_object.ensures.ok _;
      readable = object_is_readable ((codes "news", d) ∷ []) tt (put_first (λ m. IsReadable m.1) (codes "news", d) [] told.readable (λ i e l. absurd (omega (arith, l))));
    }
