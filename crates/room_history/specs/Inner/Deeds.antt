-- The deeds of a journal's authors.
use Rattle.std.specs.Prelude.{◌≡◌, ⊤, ℕ, true, List, Some}
use Rattle.room_stacks.specs.Prelude.{deeds_from, is_standing, redo, top}
use Rattle.room_interface.specs.declared.author.Author.{Author}
use Rattle.room_stacks.specs.declared.deed.Deed.{Deed}
use Rattle.room_stacks.specs.declared.deed.Deed.TheVariants.{Did, Undid, Redid}
use Rattle.room_history.specs.declared.entry.Entry.{Entry}
use Rattle.room_history.specs.declared.entry.EntryKind.{EntryKind}
use Rattle.room_history.specs.declared.entry.EntryKind.TheVariants.{Do, Undo, Redo}

module _ {A : Type 0} where
  -- the deed of an entry of this kind
  abbrev pub deed_by : ℕ → Author → ℕ → EntryKind A → Deed
  deed_by seq author id (Do a) = Did author id seq
  deed_by seq author id (Undo s) = Undid author id s seq
  deed_by seq author id (Redo t) = Redid author id t seq

  abbrev pub deed : ℕ → Entry A → Deed
  deed seq e = deed_by seq e.author e.id e.kind

  abbrev pub deeds : List (Entry A) → List Deed
  deeds j = deeds_from deed 1 j

  -- the author may record an entry of this kind: an undo must be of an active entry of its own, and a redo of the top
  -- of its redo stack
  abbrev pub MayNote : List Deed → Author → EntryKind A → Type 0
  MayNote ds author (Do a) = ⊤
  MayNote ds author (Undo s) = is_standing ds author s ≡ true
  MayNote ds author (Redo t) = top (redo ds author) ≡ Some t
