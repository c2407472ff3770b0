-- The deeds of a room's authors, and what each author can still use. (The rules of a room are this project's.)
use Rattle.std.specs.Prelude.{◌&&◌, ◌++◌, ◌-◌, ◌<◌, ℕ, Bool, true, false, not, List, [], ◌∷◌, Option, length, take, map, slice_get, nat_eq, nat_lt, filter, find, fold, All, option_map}
use Rattle.room_interface.specs.Prelude.{list_any, is_same_author}
use Rattle.room_interface.specs.declared.author.Author.{Author}
use Rattle.room_stacks.specs.declared.deed.Deed.{Deed}
use Rattle.room_stacks.specs.declared.deed.Deed.TheVariants.{Did, Undid, Redid}

-- the deeds of the authors, oldest first, and the author whose next deed has reserved memory
pub record StacksState : Type 0 where
  pub deeds : List Deed
  pub ready : Option Author

-- the author of a deed
abbrev pub doer : Deed → Author
doer (Did author id seq) = author
doer (Undid author id of seq) = author
doer (Redid author id of seq) = author

-- the id that a deed spent
abbrev pub id_of : Deed → ℕ
id_of (Did author id seq) = id
id_of (Undid author id of seq) = id
id_of (Redid author id of seq) = id

-- the number of a deed
abbrev pub number : Deed → ℕ
number (Did author id seq) = seq
number (Undid author id of seq) = seq
number (Redid author id of seq) = seq

-- the deed did an action, for the first time or again
abbrev pub is_work : Deed → Bool
is_work (Did author id seq) = true
is_work (Undid author id of seq) = false
is_work (Redid author id of seq) = true

-- the deed undid s, which came before it
abbrev pub undoes : ℕ → Deed → Bool
undoes s (Did author id seq) = false
undoes s (Undid author id of seq) = nat_eq s of && nat_lt s seq
undoes s (Redid author id of seq) = false

-- the deed is the author's and spent the id
abbrev pub spends : Author → ℕ → Deed → Bool
spends author id d = nat_eq id (id_of d) && is_same_author author (doer d)

-- the number of the author's deed that spent the id
abbrev pub spent : List Deed → Author → ℕ → Option ℕ
spent deeds author id = option_map number (find (spends author id) deeds)

-- the number is greater than those of all deeds
abbrev pub IsAboveAll : ℕ → List Deed → Type 0
IsAboveAll seq deeds = All (λ d. number d < seq) deeds

-- the numbers of the author's deeds that did an action
abbrev pub works : List Deed → Author → List ℕ
works deeds author = map number (filter (λ d. is_work d && is_same_author author (doer d)) deeds)

-- the numbers of the author's active entries: no deed of anyone undid them
abbrev pub standing : List Deed → Author → List ℕ
standing deeds author = filter (λ s. not (list_any (undoes s) deeds)) (works deeds author)

-- the author's entry s is active
abbrev pub is_standing : List Deed → Author → ℕ → Bool
is_standing deeds author s = list_any (λ t. nat_eq t s) (standing deeds author)

-- the top of a stack: its last number, if it has any
abbrev pub top : List ℕ → Option ℕ
top stack = slice_get stack (length stack - 1)

-- the rest of a stack, below its top
abbrev pub below_top : List ℕ → List ℕ
below_top stack = take (length stack - 1) stack

-- an author's redo stack, bottom first, after one more of its deeds: an undo pushes the entry that it undid, a redo
-- pops the top, and a new action empties the stack
abbrev pub redo_after : List ℕ → Deed → List ℕ
redo_after stack (Did author id seq) = []
redo_after stack (Undid author id of seq) = stack ++ of ∷ []
redo_after stack (Redid author id of seq) = below_top stack

-- an author's redo stack after all deeds
abbrev pub redo : List Deed → Author → List ℕ
redo deeds author = fold redo_after [] (filter (λ d. is_same_author author (doer d)) deeds)
