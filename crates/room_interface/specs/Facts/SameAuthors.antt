-- Authors with the same name.
use Rattle.std.specs.Prelude.{◌≡◌, true}
use Rattle.std.specs.Cmp.Lexicographic.{bytes_decides}
use Rattle.room_interface.specs.declared.author.Author.{Author}
use Rattle.room_interface.specs.SameAuthors.{is_same_author}

-- two authors with the same name are equal
pub one_author : (q author : Author) → is_same_author q author ≡ true → q ≡ author
one_author q author = (bytes_decides q author).0
