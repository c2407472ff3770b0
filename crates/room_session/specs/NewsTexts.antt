-- The texts of news: compact JSON (RFC 8259), whose members this project defines.
use Rattle.std.specs.Prelude.{ℕ, List, map}
use Rattle.serde_json.specs.Written.{compact_text}
use Rattle.room_wire.specs.Prelude.{Global, news_tree}
use Rattle.room_interface.specs.declared.news.News.{News}

-- the texts of several news, in order
abbrev pub news_texts : List (News Global) → List (List ℕ)
news_texts list = map (λ news. compact_text (news_tree news)) list
