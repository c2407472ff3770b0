-- Values under keys: a text, or an optional value.
use Rattle.std.specs.Prelude.{ℕ, Bool, true, not, List, Option, Some, None}
use Rattle.osm_elements.specs.Texts.{is_long}

-- a value has at most 255 characters
abbrev pub is_short : List ℕ → Bool
is_short value = not (is_long value)

-- the value, if there is one, passes a test
abbrev pub is_none_or : {V : Type 0} → (V → Bool) → Option V → Bool
is_none_or keeps None = true
is_none_or keeps (Some value) = keeps value
