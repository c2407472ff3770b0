-- The values that a retag gives. (OpenStreetMap wiki, "Elements": no two tags of an element have the same key. The
-- limits are this project's.)
use Rattle.std.specs.Prelude.{ℕ, Bool, List, Option, T}
use Rattle.osm_elements.specs.Prelude.{is_row, are_rows, is_short, is_none_or}
use Rattle.osm_elements.specs.declared.keyed.Keyed.{Keyed}

-- keys, each with its new value, or without a value to remove its tag
abbrev pub GivenTags : Type 0
GivenTags = List (List ℕ × Option (List ℕ))

abbrev pub given_pair : {A : Type 0} → Keyed (Option (List ℕ)) A → List ℕ × Option (List ℕ)
given_pair g = (g.key, g.value)

-- the key has 1 to 255 characters, and the value, if there is one, at most 255
abbrev pub is_given : List ℕ × Option (List ℕ) → Bool
is_given g = is_row (is_none_or is_short) g

-- the keys rise by their bytes, there are at most 1,000, and each row keeps its limits
abbrev pub are_given : GivenTags → Bool
are_given given = are_rows (is_none_or is_short) given

-- the condition that the rows of every retag keep
abbrev pub AreGiven : GivenTags → Type 0
AreGiven given = T (are_given given)
