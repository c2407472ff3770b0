-- News appended to texts.
use Rattle.std.specs.Prelude.{◌≡◌, ◌⊎◌, ◌++◌, ℕ, List, length}
use Rattle.room_history.specs.News.{news}
use Rattle.room_session.specs.Events.{AsksForNews, FindsNoNews}
use Rattle.room_session.specs.NewsTexts.{news_texts}
use Rattle.room_session.specs.Rooms.{Known, IsJournalOf}

-- The texts are followed by the news of all entries after `told`, up to the last one seen of the room. What has been
-- seen is a legal journal, whose length is the number.
abbrev pub Tells : Known → ℕ → ℕ → List (List ℕ) → List (List ℕ) → ℕ → Known → Type 0
Tells before room told texts all front after =
    let opening = (before.at room).opening in
    let journal = (after.at room).seen in
    (FindsNoNews before room told after ⊎ AsksForNews before room told after)
    × IsJournalOf opening journal × (all ≡ texts ++ news_texts (news opening.base journal told))
    × (front ≡ length journal)
