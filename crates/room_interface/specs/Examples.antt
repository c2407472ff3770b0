-- Examples of authors' names, worked out by hand from docs/PROTOCOL.md ("Fields").
use Rattle.std.specs.Prelude.{◌≡◌, [], Some, None, codes, replicate}
use Rattle.room_interface.specs.Authors.{author_of}

-- a name has 1 to 32 characters of a-z, 0-9 and _
unfoldable pub authors_read : Type 0
authors_read =
    (author_of (codes "anna_7") ≡ Some (codes "anna_7"))
    × (author_of (replicate 32 97) ≡ Some (replicate 32 97))
    × (author_of (replicate 33 97) ≡ None)
    × (author_of [] ≡ None)
    × (author_of (codes "Anna") ≡ None)
    × (author_of (codes "an-na") ≡ None)
