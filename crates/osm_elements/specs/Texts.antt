-- Which texts are refused, and which are the same. (The limit of 255 Unicode characters is this project's.)
use Rattle.std.specs.Prelude.{ℕ, Bool, List, length, Option, Some, None, if◌then◌else◌, nat_eq, nat_lt, chars}
use Rattle.std.specs.Cmp.Lexicographic.{pointwise}
use Rattle.osm_elements.specs.declared.fault.TextFault.{TextFault}
use Rattle.osm_elements.specs.declared.fault.TextFault.TheVariants.{TextTooLong}

-- the text has more than 255 characters
unfoldable pub is_long : List ℕ → Bool
is_long text = nat_lt 255 (length (chars text))

abbrev pub text_refusal : List ℕ → Option TextFault
text_refusal text = if is_long text then Some TextTooLong else None

-- two texts have the same bytes
abbrev pub is_same_text : List ℕ → List ℕ → Bool
is_same_text = pointwise nat_eq
