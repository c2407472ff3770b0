-- The tags that a retag leads to. (OpenStreetMap wiki, "Elements": no two tags of an element have the same key. The
-- limits are this project's.)
use Rattle.std.specs.Prelude.{ℕ, List, Option, Some, None, fold}
use Rattle.room_interface.specs.Prelude.{put, text_cmp, without_key, Pairs, GivenTags}

-- an element has at most 1,000 tags
abbrev pub most_tags : ℕ
most_tags = 1000

-- the tags after a key gets its value or loses its tag
abbrev pub tagged : Pairs → List ℕ → Option (List ℕ) → Pairs
tagged tags key None = without_key tags key
tagged tags key (Some value) = put text_cmp key value tags

-- the tags after each given key gets its value or loses its tag
abbrev pub retagged : Pairs → GivenTags → Pairs
retagged tags given = fold (λ t g. tagged t g.0 g.1) tags given
