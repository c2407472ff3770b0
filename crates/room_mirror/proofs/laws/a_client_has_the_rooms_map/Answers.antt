use Rattle.std.proofs.Common.{◌-◌, take, ap, ◌∙◌, arith, option_and_then}
use Rattle.room_mirror.specs.Prelude.{result_ok, news, Welcome, IsReadBack, followed, mirror_of}
use Rattle.room_mirror.proofs.ClientTexts.{all_front, followed_is}
use Rattle.room_mirror.proofs.laws.a_client_has_the_rooms_map.Goals as goal

pub returns : goal.returns
returns c = λ base limit j id a b welcome texts sound legal ids brought few number l m tree spelled.
    let back = c.a_rooms_texts_are_read_back.ensures in
    ap (λ r. option_and_then (λ (w : Welcome). followed (record { seq = w.seq; rows = w.rows }) texts) (result_ok r))
    (back.welcome_text base limit j id a welcome sound legal ids brought few number (omega (arith, l, m)) tree)
    ∙ followed_is (mirror_of base j a) texts (take (b - a) (news base j a)) spelled (all_front IsReadBack (b - a) (news base j a) (back.news_text base limit j a sound legal ids brought few))
    ∙ ap result_ok (c.mirrors_follow.ensures base limit j a b sound legal l m)
