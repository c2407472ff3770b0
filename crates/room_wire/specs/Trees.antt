-- The tree of each reply. The members of replies are this project's (RFC 8259, sections 4 to 7).
use Rattle.std.specs.Prelude.{◌≡◌, ℕ, List, [], ◌∷◌, map, Option, Some, None, codes}
use Rattle.serde_json.specs.Data.{Data, number, string, array, object, unsigned, no_items, item, Members, no_members, member}
use Rattle.serde_json.specs.Find.{of_integer}
use Rattle.serde_json.specs.View.{items_of}
use Rattle.room_interface.specs.Prelude.{name_text, Pairs}
use Rattle.osm_coords.specs.Written.{written}
use Rattle.osm_elements.specs.declared.name.Name.{Name}
use Rattle.osm_elements.specs.declared.element.Element.{Element}
use Rattle.room_interface.specs.declared.refusal.Refusal.{Refusal}
use Rattle.room_interface.specs.declared.reply.Reply.{Reply}
use Rattle.room_wire.specs.declared.answer.Answer.{Answer}
use Rattle.room_wire.specs.declared.bad.Fault.{Fault}
use Rattle.room_wire.specs.declared.field.Field.{Field}
use Rattle.room_wire.specs.Fields.{field_text}
use Rattle.osm_elements.specs.declared.element.Element.TheVariants as elements
use Rattle.room_interface.specs.declared.refusal.Refusal.TheVariants as refusals
use Rattle.room_interface.specs.declared.reply.Reply.TheVariants as replies
use Rattle.room_wire.specs.declared.answer.Answer.TheVariants as answers
use Rattle.room_wire.specs.declared.bad.Fault.TheVariants as faults

abbrev pub whole : ℕ → Data
whole n = number (unsigned n)

abbrev pub name_tree : Name → Data
name_tree name = string (name_text name)

-- a node of a way is written as its id
abbrev pub id_tree : Name → Data
id_tree name = number (of_integer name.id)

abbrev pub nodes_tree : List Name → Data
nodes_tree names = array (items_of (map id_tree names))

-- a member of a relation is written as its name and its role
abbrev pub member_tree : Name × List ℕ → Data
member_tree m = array (item (name_tree m.0) (item (string m.1) no_items))

abbrev pub members_tree : List (Name × List ℕ) → Data
members_tree members = array (items_of (map member_tree members))

-- an object's members, one for each key
abbrev pub entry_members : {V : Type 0} → (V → Data) → List (List ℕ × V) → Members
entry_members tree [] = no_members
entry_members tree (e ∷ es) = member e.0 (tree e.1) (entry_members tree es)

abbrev pub tag_members : Pairs → Members
tag_members = entry_members string

abbrev pub tags_tree : Pairs → Data
tags_tree tags = object (tag_members tags)

abbrev pub element_tree : {A : Type 0} → Name → Element A → Data
element_tree name (elements.Node lat lon tags) =
    object (member (codes "el") (name_tree name)
    (member (codes "lat") (string (written lat))
    (member (codes "lon") (string (written lon)) (member (codes "tags") (tags_tree tags) no_members))))
element_tree name (elements.Way nodes tags) =
    object (member (codes "el") (name_tree name)
    (member (codes "nodes") (nodes_tree nodes) (member (codes "tags") (tags_tree tags) no_members)))
element_tree name (elements.Relation members tags) =
    object (member (codes "el") (name_tree name)
    (member (codes "members") (members_tree members) (member (codes "tags") (tags_tree tags) no_members)))

abbrev pub rows_tree : {A : Type 0} → List (Name × Element A) → Data
rows_tree rows = array (items_of (map (λ r. element_tree r.0 r.1) rows))

-- the numbers of entries
abbrev pub numbers_tree : List ℕ → Data
numbers_tree numbers = array (items_of (map whole numbers))

-- the reply to a message that was accepted, and to a message that was refused
abbrev pub ok_tree : ℕ → Members → Data
ok_tree id members = object (member (codes "id") (whole id) (member (codes "ok") (object members) no_members))

abbrev pub no_tree : ℕ → Members → Data
no_tree id members = object (member (codes "id") (whole id) (member (codes "no") (object members) no_members))

-- the members of a refusal: its reason, and the name or the field that it is about
abbrev pub bare : List ℕ → Members
bare why = member (codes "why") (string why) no_members

abbrev pub about : Name → List ℕ → Members
about name why = member (codes "el") (name_tree name) (bare why)

abbrev pub bad_field : Field → Members
bad_field field = member (codes "field") (string (field_text field)) (bare (codes "bad_field"))

-- a refusal of an action of a group also has the action's position
abbrev pub with_action : ℕ → Members → Members
with_action k members = member (codes "action") (whole k) members

abbrev pub with_position : Option ℕ → Members → Members
with_position None members = members
with_position (Some k) members = with_action k members

abbrev pub refusal_members : {A : Type 0} → Refusal A → Members
refusal_members (refusals.Absent name) = about name (codes "absent")
refusal_members (refusals.Present name) = about name (codes "present")
refusal_members (refusals.WrongKind name) = about name (codes "wrong_kind")
refusal_members (refusals.Same name) = about name (codes "same")
refusal_members refusals.BadPosition = bare (codes "bad_position")
refusal_members refusals.NotEndToEnd = bare (codes "not_end_to_end")
refusal_members (refusals.OutOfRange name) = about name (codes "out_of_range")
refusal_members (refusals.TooFew name) = about name (codes "too_few")
refusal_members (refusals.TooMany name) = about name (codes "too_many")
refusal_members (refusals.InUse name user) = member (codes "by") (name_tree user) (about name (codes "in_use"))
refusal_members (refusals.TagConflict key) = member (codes "key") (string key) (bare (codes "tag_conflict"))
refusal_members refusals.Nothing = bare (codes "nothing")
refusal_members refusals.Memory = bare (codes "memory")

-- a room's reply to a change, an undo or a redo
abbrev pub outcome_tree : {A : Type 0} → ℕ → Reply A → Data
outcome_tree id (replies.Done seq) = ok_tree id (member (codes "seq") (whole seq) no_members)
outcome_tree id (replies.Undid seq of) =
    ok_tree id (member (codes "seq") (whole seq) (member (codes "undid") (whole of) no_members))
outcome_tree id (replies.Redid seq of) =
    ok_tree id (member (codes "redid") (whole of) (member (codes "seq") (whole seq) no_members))
outcome_tree id (replies.Repeat seq) = no_tree id (member (codes "seq") (whole seq) (bare (codes "repeat")))
outcome_tree id replies.Full = no_tree id (bare (codes "full"))
outcome_tree id replies.NothingToUndo = no_tree id (bare (codes "nothing_to_undo"))
outcome_tree id replies.NoSuch = no_tree id (bare (codes "no_such"))
outcome_tree id replies.NotYours = no_tree id (bare (codes "not_yours"))
outcome_tree id replies.NotStanding = no_tree id (bare (codes "not_standing"))
outcome_tree id (replies.Conflict blocker shared) =
    no_tree id (member (codes "at") (name_tree shared)
    (member (codes "why") (string (codes "conflict")) (member (codes "with") (whole blocker) no_members)))
outcome_tree id replies.NothingToRedo = no_tree id (bare (codes "nothing_to_redo"))
outcome_tree id (replies.Refused refusal) = no_tree id (with_position refusal.action (refusal_members refusal.why))
outcome_tree id (replies.Changed with name) =
    no_tree id (member (codes "el") (name_tree name)
    (member (codes "why") (string (codes "changed")) (member (codes "with") (whole with) no_members)))
outcome_tree id replies.Memory = no_tree id (bare (codes "memory"))

abbrev pub fault_tree : ℕ → Fault → Data
fault_tree id faults.NotJson = no_tree id (bare (codes "not_json"))
fault_tree id faults.NotObject = no_tree id (bare (codes "not_object"))
fault_tree id faults.BadId = no_tree id (bare (codes "bad_id"))
fault_tree id faults.UnknownDo = no_tree id (bare (codes "unknown_do"))
fault_tree id (faults.BadField field) = no_tree id (bad_field field)
fault_tree id (faults.UnknownAction k) = no_tree id (with_action k (bare (codes "unknown_do")))
fault_tree id (faults.BadActionField k field) = no_tree id (with_action k (bad_field field))
fault_tree id faults.Memory = no_tree id (bare (codes "memory"))

-- a whole map, after `front` entries
abbrev pub map_tree : {A : Type 0} → ℕ → List (Name × Element A) → ℕ → Data
map_tree id rows front =
    ok_tree id (member (codes "map") (rows_tree rows) (member (codes "seq") (whole front) no_members))

-- the refusal of a hello, because the handshake named the author with this name
abbrev pub wrong_name_tree : ℕ → List ℕ → Data
wrong_name_tree id name = no_tree id (member (codes "name") (string name) (bare (codes "wrong_name")))

-- the tree of the reply to the message with this id
abbrev pub tree_of : ℕ → Answer → Data
tree_of id (answers.Reply reply) = outcome_tree id reply.now
tree_of id (answers.Is name element) = ok_tree id (member (codes "is") (element_tree name element.now) no_members)
tree_of id (answers.Absent name) = no_tree id (about name (codes "absent"))
tree_of id (answers.Map rows front) = map_tree id rows.now front
tree_of id (answers.Undos undos redos) =
    ok_tree id (member (codes "redo") (numbers_tree redos.now)
    (member (codes "undos") (numbers_tree undos.now) no_members))
tree_of id answers.Memory = no_tree id (bare (codes "memory"))
tree_of id (answers.Fault fault) = fault_tree id fault
tree_of id answers.BadLine = no_tree id (bare (codes "bad_line"))
tree_of id answers.NoHello = no_tree id (bare (codes "no_hello"))
tree_of id answers.NoRoom = no_tree id (bare (codes "no_room"))
tree_of id answers.HelloTwice = no_tree id (bare (codes "hello_twice"))
tree_of id (answers.WrongName name) = wrong_name_tree id name.now
tree_of id answers.NoName = no_tree id (bare (codes "no_name"))

-- the two answers have the same replies
abbrev pub AreToldAlike : Answer → Answer → Type 0
AreToldAlike a b = (id : ℕ) → tree_of id a ≡ tree_of id b
