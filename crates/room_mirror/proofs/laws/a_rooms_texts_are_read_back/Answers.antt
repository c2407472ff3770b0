use Rattle.std.proofs.Common.{drop, take, get_or}
use Rattle.std.proofs.lemmas.List.{take-append-drop}
use Rattle.room_mirror.specs.Prelude.{news, welcome_to}
use Rattle.room_mirror.proofs.ClientTexts.{room_news, room_welcome}
use Rattle.room_mirror.proofs.Following.{all_steps}
use Rattle.room_mirror.proofs.laws.a_rooms_texts_are_read_back.Goals as goal

pub returns-clause-news : goal.returns-clause-news
returns-clause-news c = λ base limit j a sound legal ids brought few.
    let laws = c.entries_change_their_maps.ensures in
    room_news base limit j ids brought few (λ n. c.journals_hold.ensures base limit (take n j) sound (c.journals_begin.ensures base limit j n legal)) a
    (all_steps base limit j sound legal laws.changes laws.from laws.leads (take a j) (drop a j) (take-append-drop a j))

pub returns-clause-welcome : goal.returns-clause-welcome
returns-clause-welcome c = λ base limit j id a sound legal ids brought few number l.
    room_welcome base limit j ids brought few (λ n. c.journals_hold.ensures base limit (take n j) sound (c.journals_begin.ensures base limit j n legal)) id a number l

pub returns-clause-news_text : goal.returns-clause-news_text
returns-clause-news_text c = λ base limit j a sound legal ids brought few k d l text tree.
    let laws = c.entries_change_their_maps.ensures in
    c.news_are_read_back.ensures text (get_or (news base j a) k d) tree
    (room_news base limit j ids brought few (λ n. c.journals_hold.ensures base limit (take n j) sound (c.journals_begin.ensures base limit j n legal)) a
    (all_steps base limit j sound legal laws.changes laws.from laws.leads (take a j) (drop a j) (take-append-drop a j)) k d l)

pub returns-clause-welcome_text : goal.returns-clause-welcome_text
returns-clause-welcome_text c = λ base limit j id a text sound legal ids brought few number l tree.
    c.a_welcome_is_read_back.ensures text (welcome_to id base j a) tree
    (room_welcome base limit j ids brought few (λ n. c.journals_hold.ensures base limit (take n j) sound (c.journals_begin.ensures base limit j n legal)) id a number l)
