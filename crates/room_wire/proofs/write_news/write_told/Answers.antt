use Rattle.std.proofs.Common.{OnOk, codes, subst}
use Rattle.serde_json.specs.Data.{member, no_members, object, string}
use Rattle.room_wire.specs.Prelude.{news_rows_tree, whole}
use Rattle.room_wire.specs.Inner.Writing.{Tells}
use Rattle.room_wire.proofs.write_news.write_told.Goals as goal

pub returns : goal.returns
returns c =
    let news = c.args.news.now in
    subst (λ by. OnOk c.write_object.result (Tells c.args.out.now c.write_object.new.out (object (member (codes "by") (string by) (member (codes "rows") (news_rows_tree news.rows) (member (codes "seq") (whole news.seq) no_members)))))) c.as_str.ensures c.write_object.ensures
