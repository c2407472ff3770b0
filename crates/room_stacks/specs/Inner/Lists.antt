-- The entries that authors can undo and redo, as the code keeps them.
use Rattle.std.specs.Prelude.{◌≡◌, ◌<◌, ◌≤◌, ℕ, Bool, true, false, not, cond, List, [], ◌∷◌, length, map, Option, Some, None, nat_eq, ⊤, slice_index_or, filter, All}
use Rattle.room_interface.specs.Prelude.{lookup, is_same_author}
use Rattle.room_interface.specs.declared.author.Author.{Author}

-- the active entries, the redo stack, and whether each has capacity for one more number
pub record Usable : Type 0 where
  pub standing : List ℕ
  pub redo : List ℕ
  pub has_room : Bool

-- the known authors, each with its stacks; an author's number is its place
abbrev pub Lists : Type 0
Lists = List (Author × Usable)

abbrev pub authors_of : Lists → List Author
authors_of lists = map (λ e. e.0) lists

-- the author with the number n
abbrev pub author_at : List Author → ℕ → Author
author_at authors n = slice_index_or authors n []

-- the authors before keep their numbers
pub record KeepsNumbers (before after : List Author) : Type 0 where
  pub fits : length before ≤ length after
  pub same : (n : ℕ) → n < length before → author_at after n ≡ author_at before n

-- the numbers rise, each once
abbrev pub IsRising : List ℕ → Type 0
IsRising [] = ⊤
IsRising (n ∷ ns) = All (λ m. n < m) ns × IsRising ns

-- the numbers without s
abbrev pub without : ℕ → List ℕ → List ℕ
without s ns = filter (λ n. not (nat_eq n s)) ns

abbrev pub usable_at : Lists → Author → Option Usable
usable_at lists q = lookup (is_same_author q) lists

abbrev pub standing_of : Option Usable → List ℕ
standing_of None = []
standing_of (Some u) = u.standing

abbrev pub redo_of : Option Usable → List ℕ
redo_of None = []
redo_of (Some u) = u.redo

abbrev pub has_room_of : Option Usable → Bool
has_room_of None = false
has_room_of (Some u) = u.has_room

abbrev pub standing_at : Lists → Author → List ℕ
standing_at lists q = standing_of (usable_at lists q)

abbrev pub redo_at : Lists → Author → List ℕ
redo_at lists q = redo_of (usable_at lists q)

abbrev pub has_room_at : Lists → Author → Bool
has_room_at lists q = has_room_of (usable_at lists q)

-- each author has the same stacks before and after
pub record SameStacks (before after : Lists) : Type 0 where
  pub standing : (q : Author) → standing_at after q ≡ standing_at before q
  pub redo : (q : Author) → redo_at after q ≡ redo_at before q

-- each author with reserved memory before has it afterwards
abbrev pub KeepsRooms : Lists → Lists → Type 0
KeepsRooms before after = (q : Author) → has_room_at before q ≡ true → has_room_at after q ≡ true

-- one author has the given stacks, and the other authors have the same stacks as before
pub record IsRewritten (before after : Lists) (author : Author) (standing redo : List ℕ) : Type 0 where
  pub standing_is : (q : Author) → standing_at after q ≡ cond (is_same_author q author) standing (standing_at before q)
  pub redo_is : (q : Author) → redo_at after q ≡ cond (is_same_author q author) redo (redo_at before q)
