-- Unites the tags of two elements. (OpenStreetMap wiki, "Elements": no two tags of an element have the same key.)
use Rattle.std.specs.Prelude.{◌≡◌, ◌≢◌, ℕ, Bool, false, not, List, Option, Some, None, fold, find, option_map}
use Rattle.edit_simple.specs.Prelude.{put, text_cmp, value_at, Pairs, is_same_text}

-- the tags of both elements; if both have a key, the value is the other element's
abbrev pub both_tags : Pairs → Pairs → Pairs
both_tags tags others = fold (λ t p. put text_cmp p.0 p.1 t) tags others

-- there is a value, and it differs from the given value
abbrev pub is_another : Option (List ℕ) → List ℕ → Bool
is_another None value = false
is_another (Some other) value = not (is_same_text other value)

-- the first key that has two values; keys rise, so it is the least
abbrev pub conflict : Pairs → Pairs → Option (List ℕ)
conflict tags others = option_map (λ p. p.0) (find (λ p. is_another (value_at others p.0) p.1) tags)

-- the key has a value in both lists, and the two values differ
pub record HasTwo (tags others : Pairs) (key : List ℕ) : Type 0 where
  pub one : List ℕ
  pub other : List ℕ
  pub ours : value_at tags key ≡ Some one
  pub theirs : value_at others key ≡ Some other
  pub differ : one ≢ other
