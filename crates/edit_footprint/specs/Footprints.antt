-- The footprint of an action on a map, touch by touch. (Footprints are this project's.)
use Rattle.std.specs.Prelude.{◌≡◌, ◌++◌, ◌||◌, Bool, true, not, List, [], ◌∷◌, Option, Some, None, map, filter, find, flat_map, slice_get, option_and_then, option_map, option_to_list}
use Rattle.edit_actions.specs.Prelude.{Rows, list_any, names_but, tags_at, rest_at, both_at, is_same_cell, cell_of, changed_cells, changes}
use Rattle.osm_changes.specs.Cells.{has}
use Rattle.osm_elements.specs.declared.name.Name.{Name}
use Rattle.osm_changes.specs.declared.cell.Cell.{Cell}
use Rattle.osm_changes.specs.declared.change.Change.{Change}
use Rattle.osm_changes.specs.declared.half.Half.{Half}
use Rattle.room_interface.specs.declared.action.Action.{Action}
use Rattle.room_interface.specs.declared.action.Action.TheVariants.{Create, Retag, Move, Reverse, Nodes, Members, Delete, Purge, Split, Join, Merge, Unglue}
use Rattle.edit_footprint.specs.Touches.{Touch, rivals, presence_read, presence_written, cell_read, cell_written, does, touch_set}
use Rattle.osm_changes.specs.declared.half.Half.TheVariants as halves

-- the least name at which a touch of one footprint conflicts with one of the other
abbrev pub meets : List Touch → List Touch → Option Name
meets one other = option_map (λ (t : Touch). t.name) (find (λ t. list_any (does other) (rivals t)) one)

-- a touch of the first list and one of the second conflict at the name x
pub record Shares (one two : List Touch) (x : Name) : Type 0 where
  pub touch : Touch
  pub rival : Touch
  pub name : touch.name ≡ x
  pub is_rival : does (rivals touch) rival ≡ true
  pub in_one : does one touch ≡ true
  pub in_two : does two rival ≡ true

-- a footprint writes, or reads or writes, that an element is present
abbrev pub writes_presence : List Touch → Name → Bool
writes_presence touches x = does touches (presence_written x)

abbrev pub reaches_presence : List Touch → Name → Bool
reaches_presence touches x = writes_presence touches x || does touches (presence_read x)

-- a footprint writes, or reads or writes, a cell; who writes the presence of an element writes both of its cells
abbrev pub writes : List Touch → Cell → Bool
writes touches c = writes_presence touches c.name || does touches (cell_written c)

abbrev pub reaches : List Touch → Cell → Bool
reaches touches c = writes touches c || does touches (cell_read c)

-- the touches of who reads a cell, and of who changes one: both look whether the element is present
abbrev pub reads_at : Cell → List Touch
reads_at c = presence_read c.name ∷ cell_read c ∷ []

abbrev pub changes_at : Cell → List Touch
changes_at c = presence_read c.name ∷ cell_written c ∷ []

module _ {A : Type 0} where
  -- the names that a half refers to: the nodes of a way, or the members of a relation
  abbrev pub half_references : Option (Half A) → List Name
  half_references (Some (halves.Nodes nodes)) = nodes
  half_references (Some (halves.Members members)) = map (λ m. m.0) members
  half_references _ = []

  -- the nodes of a way's half; another half has none
  abbrev pub half_nodes : Option (Half A) → List Name
  half_nodes (Some (halves.Nodes nodes)) = nodes
  half_nodes _ = []

  -- the elements that an action names as a whole; the entries of a list of nodes or members are not among them
  abbrev pub owned : Action A → List Name
  owned (Create x v) = x ∷ []
  owned (Delete x) = x ∷ []
  owned (Purge x) = x ∷ []
  owned (Split w i v) = w ∷ v ∷ []
  owned (Join w v) = w ∷ v ∷ []
  owned (Merge k g) = k ∷ g ∷ []
  owned (Unglue w i v) = w ∷ v ∷ []
  owned a = []

  -- the cells that any other action is about
  abbrev pub subjects : Action A → List Cell
  subjects (Retag x given) = tags_at x ∷ []
  subjects (Move list dlat dlon) = map rest_at list
  subjects (Reverse w) = rest_at w ∷ []
  subjects (Nodes w list) = rest_at w ∷ []
  subjects (Members r list) = rest_at r ∷ []
  subjects a = []

  -- the touches of a changed cell: the presence of its element, if the element comes or goes, or else the cell
  abbrev pub half_touches : Cell → Option (Half A) → Option (Half A) → List Touch
  half_touches c (Some before) (Some after) = changes_at c
  half_touches c before after = presence_written c.name ∷ []

  abbrev pub touches_of : Change A → List Touch
  touches_of c = half_touches (cell_of c) c.before c.after

  -- the names that a half refers to before a change and not after it, or after it and not before
  abbrev pub begun_or_ceased : Change A → List Name
  begun_or_ceased c =
      names_but (half_references c.before) (half_references c.after)
      ++ names_but (half_references c.after) (half_references c.before)

  -- the half that a cell had before the changes, or `None` if no change has the cell
  abbrev pub half_before : List (Change A) → Cell → Option (Half A)
  half_before cs c =
      option_and_then (λ (d : Change A). d.before) (find (λ (d : Change A). is_same_cell c (cell_of d)) cs)

  -- the node that an unglue takes from its way: the node at the position in the way's old list
  abbrev pub unglued_from : Action A → List (Change A) → Option Name
  unglued_from (Unglue w i v) cs = slice_get (half_nodes (half_before cs (rest_at w))) i
  unglued_from a cs = None

  -- the cells that an action reads and does not change: of its subjects, and of the node that an unglue takes
  abbrev pub cells_read : Action A → List (Change A) → List Cell
  cells_read a cs =
      filter (λ c. not (has (changed_cells cs) c)) (subjects a) ++ flat_map both_at (option_to_list (unglued_from a cs))

  -- the presence of the elements that the action names as a whole is written; each cell that it changes is written, and
  -- others are read; and the presence of each name that a changed rest begins or ceases to refer to is read; rising,
  -- each once
  abbrev pub footprint_of : Action A → List (Change A) → List Touch
  footprint_of a cs =
      touch_set (map presence_written (owned a) ++ flat_map touches_of cs
      ++ map presence_read (flat_map begun_or_ceased cs) ++ flat_map reads_at (cells_read a cs))

  -- the footprint of an action on a map
  abbrev pub footprint : Rows A → Action A → List Touch
  footprint m a = footprint_of a (changes m a)
