-- The spent ids, as the code keeps them.
use Rattle.std.specs.Prelude.{◌<◌, ◌&&◌, ℕ, Bool, List, map, length, nat_eq, All}
use Rattle.room_interface.specs.Prelude.{IsDistinct, is_same_author}
use Rattle.room_interface.specs.declared.author.Author.{Author}
use Rattle.room_stacks.specs.declared.deed.Deed.{Deed}
use Rattle.room_stacks.specs.declared.spent_ids.Spending.{Spending}
use Rattle.room_stacks.specs.declared.spent_ids.Work.{Work}
use Rattle.room_stacks.specs.declared.spent_ids.Work.TheVariants.{Did, Undid, Redid}
use Rattle.room_stacks.specs.Inner.Lists.{author_at}
use Rattle.room_stacks.specs.declared.deed.Deed.TheVariants as deeds

-- the spent ids with their works, and the capacity for more
pub record Spent : Type 0 where
  pub works : List (Spending × Work)
  pub room : ℕ

-- a key has the id and the author's number n
abbrev pub is_key : ℕ → ℕ → Spending → Bool
is_key n id k = nat_eq id k.id && nat_eq n k.author

-- the number of the work's entry
abbrev pub work_number : Work → ℕ
work_number (Did seq) = seq
work_number (Undid of seq) = seq
work_number (Redid of seq) = seq

-- the deed of an author under an id
abbrev pub deed_of : Author → ℕ → Work → Deed
deed_of author id (Did seq) = deeds.Did author id seq
deed_of author id (Undid of seq) = deeds.Undid author id of seq
deed_of author id (Redid of seq) = deeds.Redid author id of seq

-- the deed of the author with a number under an id
abbrev pub deed_at : List Author → Spending × Work → Deed
deed_at authors e = deed_of (author_at authors e.0.author) e.0.id e.1

abbrev pub deeds_of : List Author → List (Spending × Work) → List Deed
deeds_of authors es = map (deed_at authors) es

-- each author has one number, and each spent id has the number of an author
pub record AreNumbered (authors : List Author) (es : List (Spending × Work)) : Type 0 where
  pub distinct : IsDistinct is_same_author authors
  pub within : All (λ e. e.0.author < length authors) es
