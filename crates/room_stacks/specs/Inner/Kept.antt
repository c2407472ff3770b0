-- The relation between the collections in the code and the deeds of the authors.
use Rattle.std.specs.Prelude.{◌≡◌, ◌<◌, ℕ, true, List, Option, IfSome, length, map}
use Rattle.room_interface.specs.declared.author.Author.{Author}
use Rattle.room_stacks.specs.declared.deed.Deed.{Deed}
use Rattle.room_stacks.specs.Stacks.{number, standing, redo}
use Rattle.room_stacks.specs.Inner.SpentIds.{Spent, AreNumbered, deeds_of}
use Rattle.room_stacks.specs.Inner.Lists.{Lists, IsRising, author_at, authors_of, standing_at, redo_at, has_room_at}

-- if an author is ready, it is known, and there is memory for its next deed
abbrev pub IsReady : Option ℕ → Spent → Lists → Type 0
IsReady ready ids lists = IfSome ready (λ n.
    (n < length lists) × (0 < ids.room) × (has_room_at lists (author_at (authors_of lists) n) ≡ true))

-- the numbers of the deeds rise, and each author has the stacks that the deeds give it
pub record AreKept (deeds : List Deed) (lists : Lists) : Type 0 where
  pub rising : IsRising (map number deeds)
  pub standing_kept : (q : Author) → standing_at lists q ≡ standing deeds q
  pub redo_kept : (q : Author) → redo_at lists q ≡ redo deeds q

pub record IsKept (ready : Option ℕ) (ids : Spent) (lists : Lists) : Type 0 where
  pub numbered : AreNumbered (authors_of lists) ids.works
  pub kept : AreKept (deeds_of (authors_of lists) ids.works) lists
  pub room : IsReady ready ids lists
