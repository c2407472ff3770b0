-- Whether a name can be added to the names of a table.
use Rattle.std.specs.Prelude.{◌≡◌, ℕ, Bool, true, List, Some, None}
use Rattle.room_socket.specs.Prelude.{list_any, author_of, is_same_author}
use Rattle.room_server.specs.declared.table.TableFault.{TableFault}
use Rattle.room_server.specs.declared.table.TableFault.TheVariants.{BadName, Twice, Unsound, Memory}

-- the list has this name
abbrev pub contains_name : List (List ℕ) → List ℕ → Bool
contains_name names name = list_any (is_same_author name) names

-- the text at a position is refused, because it is not a name or is one of the earlier names
abbrev pub IsRefused : List (List ℕ) → List ℕ → ℕ → TableFault → Type 0
IsRefused names text position (BadName at) = (at ≡ position) × (author_of text ≡ None)
IsRefused names text position (Twice at) =
    (at ≡ position) × (author_of text ≡ Some text) × (contains_name names text ≡ true)
IsRefused names text position (Unsound x why) = ⊥
IsRefused names text position Memory = ⊥
