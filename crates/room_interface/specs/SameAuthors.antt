-- Equality of authors.
use Rattle.std.specs.Prelude.{ℕ, Bool, List}
use Rattle.osm_elements.specs.Texts.{is_same_text}

-- both authors have the same name
abbrev pub is_same_author : List ℕ → List ℕ → Bool
is_same_author = is_same_text
