-- The news of an entry: its number, its author, and the names that it changed, with their rows in the map after it. A
-- map can be updated by news. (The news of a room are this project's.)
use Rattle.std.specs.Prelude.{◌+◌, ◌++◌, List, [], ◌∷◌, ℕ, drop, length, map, take, fold}
use Rattle.edit_groups.specs.Prelude.{Rows, row_at, changed_names, with_row}
use Rattle.osm_elements.specs.declared.name.Name.{Name}
use Rattle.room_history.specs.declared.entry.Entry.{Entry}
use Rattle.room_history.specs.declared.entry.EntryKind.{EntryKind}
use Rattle.room_interface.specs.declared.news.News.{News}
use Rattle.room_interface.specs.declared.news.NewsRow.{NewsRow}
use Rattle.room_history.specs.Replays.{Past, mapof, past, recorded_next}

module _ {A : Type 0} where
  -- the names that the next entry changes, in rising order, each once; for an undo, the names that it restores
  abbrev pub names_changed : Past A → EntryKind A → List Name
  names_changed p k = changed_names (recorded_next p k).changes

  -- a name with its row in a map, or without one if it is absent
  abbrev pub news_row : Rows A → Name → NewsRow A
  news_row m x = record { name = x; element = row_at m x }

  -- the news of the entry e, which comes after the entries i
  abbrev pub news_of : Rows A → List (Entry A) → Entry A → News A
  news_of base i e = record {
    seq = length i + 1;
    author = e.author;
    rows = map (news_row (mapof base (i ++ e ∷ []))) (names_changed (past base i) e.kind);
  }

  -- the news of the entries k, which come after the entries i, in order
  abbrev pub news_behind : Rows A → List (Entry A) → List (Entry A) → List (News A)
  news_behind base i [] = []
  news_behind base i (e ∷ k) = news_of base i e ∷ news_behind base (i ++ e ∷ []) k

  -- the news of each entry after the first `from`, in order
  abbrev pub news : Rows A → List (Entry A) → ℕ → List (News A)
  news base j from = news_behind base (take from j) (drop from j)

  -- a map with one news applied: each name of the news has its row
  abbrev pub mirrored : Rows A → List (NewsRow A) → Rows A
  mirrored m rows = fold (λ n (r : NewsRow A). with_row n r.name r.element) m rows
