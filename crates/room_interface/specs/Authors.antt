-- Names of authors: 1 to 32 characters of a-z, 0-9 and _.
use Rattle.std.specs.Prelude.{◌&&◌, ◌||◌, ℕ, Bool, List, Option, Some, None, length, nat_eq, nat_le, if◌then◌else◌}
use Rattle.std.specs.List.{list_all}

-- a-z, 0-9 or _
abbrev pub is_name_character : ℕ → Bool
is_name_character b = (nat_le 97 b && nat_le b 122) || ((nat_le 48 b && nat_le b 57) || nat_eq b 95)

-- the text is a name
abbrev pub is_author : List ℕ → Bool
is_author text = nat_le 1 (length text) && (nat_le (length text) 32 && list_all is_name_character text)

-- the author with this name, if the text is a name
abbrev pub author_of : List ℕ → Option (List ℕ)
author_of text = if is_author text then Some text else None
