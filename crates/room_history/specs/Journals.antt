-- Journals: entries numbered from 1. Names say that an active entry stands. (The rules of a room are this project's.)
use Rattle.std.specs.Prelude.{◌&&◌, ◌+◌, ◌-◌, ◌++◌, ℕ, suc, zero, Bool, true, false, not, List, [], ◌∷◌, Option, Some, None, length, reverse, take, nat_eq, slice_get, if◌then◌else◌, filter, fold}
use Rattle.room_stacks.specs.Prelude.{list_any, is_same_author}
use Rattle.room_interface.specs.declared.author.Author.{Author}
use Rattle.room_history.specs.declared.entry.Entry.{Entry}
use Rattle.room_history.specs.declared.entry.EntryKind.{EntryKind}
use Rattle.room_history.specs.declared.entry.EntryKind.TheVariants.{Do, Undo, Redo}

-- the item with a number, counted from 1
abbrev pub numbered : {X : Type 0} → List X → ℕ → Option X
numbered xs zero = None
numbered xs (suc i) = slice_get xs i

-- the last of a list
abbrev pub last : {X : Type 0} → List X → Option X
last xs = slice_get (reverse xs) 0

module _ {A : Type 0} where
  -- an undo of s
  abbrev pub is_undo_of : ℕ → EntryKind A → Bool
  is_undo_of s (Do a) = false
  is_undo_of s (Undo t) = nat_eq s t
  is_undo_of s (Redo t) = false

  -- the entry did or redid an action
  abbrev pub is_work : EntryKind A → Bool
  is_work (Do a) = true
  is_work (Undo t) = false
  is_work (Redo t) = true

  -- the numbers, from n on, of the entries that did or redid an action and that no later entry undoes
  abbrev pub standing_from : ℕ → List (Entry A) → List ℕ
  standing_from n [] = []
  standing_from n (e ∷ later) =
      if is_work e.kind && not (list_any (λ (l : Entry A). is_undo_of n l.kind) later)
      then n ∷ standing_from (n + 1) later
      else standing_from (n + 1) later

  -- the active entries, in rising order
  abbrev pub standing : List (Entry A) → List ℕ
  standing j = standing_from 1 j

  -- the entry s is active
  abbrev pub is_standing : List (Entry A) → ℕ → Bool
  is_standing j s = list_any (λ t. nat_eq t s) (standing j)

  -- the entry is the author's own
  abbrev pub is_by : Author → Option (Entry A) → Bool
  is_by author None = false
  is_by author (Some e) = is_same_author author e.author

  -- an author's active entries, in rising order
  abbrev pub undos : List (Entry A) → Author → List ℕ
  undos j author = filter (λ s. is_by author (numbered j s)) (standing j)

  -- the active entries except s
  abbrev pub others : List (Entry A) → ℕ → List ℕ
  others j s = filter (λ t. not (nat_eq t s)) (standing j)

  -- an author's redo stack, bottom first, after one more of its entries: an undo pushes the entry that it undid, a redo
  -- pops the top, and a new action empties the stack
  abbrev pub redos_after : List ℕ → EntryKind A → List ℕ
  redos_after stack (Do a) = []
  redos_after stack (Undo s) = stack ++ s ∷ []
  redos_after stack (Redo t) = take (length stack - 1) stack

  -- an author's redo stack after all of its entries
  abbrev pub redos : List (Entry A) → Author → List ℕ
  redos j author =
      fold (λ stack (e : Entry A). redos_after stack e.kind) []
      (filter (λ (e : Entry A). is_same_author author e.author) j)
