-- The number of the last news.
use Rattle.std.specs.Prelude.{ℕ, List, [], ◌∷◌}
use Rattle.std.specs.declared.alloc.Global.{Global}
use Rattle.room_interface.specs.declared.news.News.{News}

-- the number of the last news, or `before` if there are no news
abbrev pub last_told : ℕ → List (News Global) → ℕ
last_told before [] = before
last_told before (n ∷ rest) = last_told n.seq rest
