-- A retag in two passes: the first removes tags, and the second sets values.
use Rattle.std.specs.Prelude.{ℕ, List, Option, Some, None, fold}
use Rattle.room_interface.specs.Prelude.{put, text_cmp, without_key, Pairs, GivenTags}

-- the tags after the first pass for one key
abbrev pub removed : Pairs → List ℕ → Option (List ℕ) → Pairs
removed tags key None = without_key tags key
removed tags key (Some value) = tags

-- the tags after the second pass for one key
abbrev pub valued : Pairs → List ℕ → Option (List ℕ) → Pairs
valued tags key None = tags
valued tags key (Some value) = put text_cmp key value tags

-- the tags after the tags of all keys without a value are removed
abbrev pub all_removed : Pairs → GivenTags → Pairs
all_removed tags given = fold (λ t g. removed t g.0 g.1) tags given

-- the tags after the values of all keys with a value are set
abbrev pub all_valued : Pairs → GivenTags → Pairs
all_valued tags given = fold (λ t g. valued t g.0 g.1) tags given
