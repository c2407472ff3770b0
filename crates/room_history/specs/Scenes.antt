-- People, names, elements and calls of the worked examples.
use Rattle.std.specs.Prelude.{ℕ, ⊤, List, [], ◌∷◌, map, Option, Some, ℤ, pos, negsuc, None}
use Rattle.room_stacks.specs.Prelude.{named, Pairs, GivenTags, alone, at_position, Rows}
use Rattle.osm_elements.specs.declared.name.Name.{Name}
use Rattle.osm_elements.specs.declared.element.Element.{Element}
use Rattle.osm_elements.specs.declared.element.Element.TheVariants.{Node, Way, Relation}
use Rattle.room_interface.specs.declared.refusal.Refusal.{Refusal}
use Rattle.room_interface.specs.declared.action.Action.{Action}
use Rattle.room_interface.specs.declared.edit.Edit.TheVariants.{One, Group}
use Rattle.room_history.specs.Holdings.{Holdings}
use Rattle.room_interface.specs.declared.author.Author.{Author}
use Rattle.room_interface.specs.declared.call.Call.{Call}
use Rattle.room_interface.specs.declared.call.Request.TheVariants.{Do, Undo, Redo}
use Rattle.room_interface.specs.declared.reply.Reply.{Reply}
use Rattle.room_interface.specs.declared.reply.Reply.TheVariants.{Refused}
use Rattle.room_history.specs.Answers.{answers}
use Rattle.room_history.specs.Blockers.{held}
use Rattle.room_history.specs.Journals.{redos}
use Rattle.room_history.specs.Replays.{past, mapof}
use Rattle.osm_elements.specs.declared.name.Kind.TheVariants as kinds

-- no definition looks at the allocator
abbrev pub Any : Type 0
Any = ⊤

abbrev pub n-1 : Name
n-1 = named kinds.Node (negsuc 0) tt

abbrev pub n1 : Name
n1 = named kinds.Node (pos 1) tt

abbrev pub n2 : Name
n2 = named kinds.Node (pos 2) tt

abbrev pub n3 : Name
n3 = named kinds.Node (pos 3) tt

abbrev pub n4 : Name
n4 = named kinds.Node (pos 4) tt

abbrev pub n9 : Name
n9 = named kinds.Node (pos 9) tt

abbrev pub w1 : Name
w1 = named kinds.Way (pos 1) tt

abbrev pub w2 : Name
w2 = named kinds.Way (pos 2) tt

abbrev pub r1 : Name
r1 = named kinds.Relation (pos 1) tt

abbrev pub r2 : Name
r2 = named kinds.Relation (pos 2) tt

abbrev pub r3 : Name
r3 = named kinds.Relation (pos 3) tt

-- the names "anna", "bob" and "carl"
abbrev pub anna : Author
anna = 97 ∷ 110 ∷ 110 ∷ 97 ∷ []

abbrev pub bob : Author
bob = 98 ∷ 111 ∷ 98 ∷ []

abbrev pub carl : Author
carl = 99 ∷ 97 ∷ 114 ∷ 108 ∷ []

-- the tag "k" with the value "v", as a retag gives it and as an element has it
abbrev pub given : GivenTags
given = (107 ∷ [], Some (118 ∷ [])) ∷ []

abbrev pub tagged : Pairs
tagged = (107 ∷ [], 118 ∷ []) ∷ []

-- a node without tags, with coordinates in ten-millionths of a degree
abbrev pub node_at : ℤ → ℤ → Element Any
node_at lat lon = Node lat lon []

abbrev pub way_of : List Name → Element Any
way_of nodes = Way nodes []

-- a relation in which each member has the empty role
abbrev pub relation_of : List Name → Element Any
relation_of names = Relation (map (λ x. (x, [])) names) []

abbrev pub does : Author → ℕ → Action Any → Call Any
does author id a = record { author = author; id = id; request = Do (One a) None }

abbrev pub does_all : Author → ℕ → List (Action Any) → Call Any
does_all author id g = record { author = author; id = id; request = Do (Group g) None }

-- the same from an author who had seen the first n entries
abbrev pub does_since : Author → ℕ → ℕ → Action Any → Call Any
does_since author id n a = record { author = author; id = id; request = Do (One a) (Some n) }

abbrev pub does_all_since : Author → ℕ → ℕ → List (Action Any) → Call Any
does_all_since author id n g = record { author = author; id = id; request = Do (Group g) (Some n) }

abbrev pub undoes : Author → ℕ → Option ℕ → Call Any
undoes author id s = record { author = author; id = id; request = Undo s }

abbrev pub redoes : Author → ℕ → Call Any
redoes author id = record { author = author; id = id; request = Redo }

-- the refusal of one action or a whole group, and the refusal of the action at a position of a group
abbrev pub refused : Refusal Any → Reply Any
refused why = Refused (alone why)

abbrev pub refused_in : ℕ → Refusal Any → Reply Any
refused_in position why = Refused (at_position position why)

-- the replies of a room with the empty base and this limit, and the map after the calls
abbrev pub replies : ℕ → List (Call Any) → List (Reply Any)
replies limit calls = (answers [] limit [] calls).0

abbrev pub map_after : ℕ → List (Call Any) → Rows Any
map_after limit calls = mapof [] (answers [] limit [] calls).1

-- the active entries after the calls, each with its recorded footprint
abbrev pub held_after : ℕ → List (Call Any) → Holdings
held_after limit calls = let j = (answers [] limit [] calls).1 in held (past [] j) j

-- an author's redo stack after the calls
abbrev pub redos_left : ℕ → List (Call Any) → Author → List ℕ
redos_left limit calls author = redos (answers [] limit [] calls).1 author
