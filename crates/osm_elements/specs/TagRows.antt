-- The tags of an element as rows. (OpenStreetMap wiki, "Elements".)
use Rattle.std.specs.Prelude.{ℕ, Bool, List, T}
use Rattle.osm_elements.specs.declared.keyed.Keyed.{Keyed}
use Rattle.osm_elements.specs.KeyedRows.{is_row, are_rows}
use Rattle.osm_elements.specs.KeyedValues.{is_short}

-- a key and its value
abbrev pub Pairs : Type 0
Pairs = List (List ℕ × List ℕ)

abbrev pub tag_pair : {A : Type 0} → Keyed (List ℕ) A → List ℕ × List ℕ
tag_pair t = (t.key, t.value)

-- the key has 1 to 255 characters, and the value at most 255
abbrev pub is_tag : List ℕ × List ℕ → Bool
is_tag e = is_row is_short e

-- the keys rise by their bytes, there are at most 1,000 rows, and each row is a tag
abbrev pub are_tags : Pairs → Bool
are_tags rows = are_rows is_short rows

-- the condition that the tags of every element keep
abbrev pub AreTagRows : Pairs → Type 0
AreTagRows rows = T (are_tags rows)
