-- Examples of what authors can still use, worked out by hand from docs/PROTOCOL.md ("Undo and redo").
use Rattle.std.specs.Prelude.{◌≡◌, ◌++◌, ℕ, List, [], ◌∷◌, Some, None, true, false, codes}
use Rattle.room_stacks.specs.declared.deed.Deed.{Deed}
use Rattle.room_stacks.specs.declared.deed.Deed.TheVariants.{Did, Undid, Redid}
use Rattle.room_stacks.specs.Stacks.{spent, standing, is_standing, redo, top}

abbrev pub anna : List ℕ
anna = codes "anna"

abbrev pub bob : List ℕ
bob = codes "bob"

-- both do something, and anna once more; then she undoes entry 1, though 3 is her last, and bob undoes his entry
abbrev pub five : List Deed
five = Did anna 1 1 ∷ Did bob 1 2 ∷ Did anna 2 3 ∷ Undid anna 3 1 4 ∷ Undid bob 4 2 5 ∷ []

-- anna redoes what she undid, as entry 6
abbrev pub six : List Deed
six = five ++ Redid anna 7 1 6 ∷ []

-- each author has ids of their own, and an undo and a redo spend an id, too
unfoldable pub ids_spent : Type 0
ids_spent =
    (spent six anna 1 ≡ Some 1)
    × (spent six bob 1 ≡ Some 2)
    × (spent six anna 2 ≡ Some 3)
    × (spent six anna 3 ≡ Some 4)
    × (spent six bob 4 ≡ Some 5)
    × (spent six anna 7 ≡ Some 6)
    × (spent six anna 4 ≡ None)
    × (spent six bob 7 ≡ None)

-- what is active before and after the redo: the redone action has the redo's number, and an undo is never active
unfoldable pub entries_active : Type 0
entries_active =
    (standing five anna ≡ 3 ∷ [])
    × (standing five bob ≡ [])
    × (standing six anna ≡ 3 ∷ 6 ∷ [])
    × (standing six bob ≡ [])
    × (is_standing six anna 6 ≡ true)
    × (is_standing six anna 1 ≡ false)
    × (is_standing six anna 4 ≡ false)
    × (is_standing six bob 3 ≡ false)

-- an undo pushes the entry that it took back, a redo pops the top, and a new action empties its own author's stack
unfoldable pub redos_stacked : Type 0
redos_stacked =
    (redo five anna ≡ 1 ∷ [])
    × (redo six anna ≡ [])
    × (redo six bob ≡ 2 ∷ [])
    × (redo (five ++ Undid anna 7 3 6 ∷ []) anna ≡ 1 ∷ 3 ∷ [])
    × (top (1 ∷ 3 ∷ []) ≡ Some 3)
    × (redo (five ++ Undid anna 7 3 6 ∷ Redid anna 8 3 7 ∷ []) anna ≡ 1 ∷ [])
    × (redo (six ++ Undid anna 8 6 7 ∷ []) anna ≡ 6 ∷ [])
    × (redo (five ++ Did bob 5 6 ∷ []) bob ≡ [])
    × (redo (five ++ Did bob 5 6 ∷ []) anna ≡ 1 ∷ [])
