use Rattle.std.proofs.Common.{◌≡◌, ◌++◌, take}
use Rattle.room_session.specs.NewsTexts.{news_texts}
use Rattle.room_session.proofs.news.add.Given as goal

abbrev pub invariant-loop-one : goal.invariant-loop-one
invariant-loop-one l = l.texts ≡ l.initial.texts ++ news_texts (take l.one-index l.news)
