-- The meaning of a message, by cases of its text's tree. The words and fields are this project's (RFC 8259: the tree).
use Rattle.std.specs.Prelude.{ℕ, ℤ, Bool, true, ◌&&◌, ◌+◌, List, [], ◌∷◌, length, Option, Some, None, Result, Ok, Err, codes, is_some, nat_le, nat_eq, if◌then◌else◌, option_and_then, option_map, bytes_eq}
use Rattle.serde_json.specs.Data.{Data, Items, no_items, item, Members as ObjectMembers, no_members, member}
use Rattle.serde_json.specs.Events.{items_len, members_len}
use Rattle.serde_json.specs.Find.{get, as_null, as_str, as_number, as_array, as_object, as_u64, as_i64}
use Rattle.serde_json.specs.Read.{read}
use Rattle.room_interface.specs.Prelude.{Global, list_any, name_of, name_with, Pairs, is_long, GivenTags, is_group_length, author_of}
use Rattle.osm_coords.specs.Latitude.{latitude_of}
use Rattle.osm_coords.specs.Longitude.{longitude_of}
use Rattle.osm_elements.specs.declared.fault.TextFault.{TextFault}
use Rattle.osm_elements.specs.declared.name.Name.{Name}
use Rattle.osm_elements.specs.declared.name.Kind.{Kind}
use Rattle.osm_elements.specs.declared.element.Element.{Element}
use Rattle.room_interface.specs.declared.action.Action.{Action}
use Rattle.room_interface.specs.declared.edit.Edit.{Edit}
use Rattle.room_interface.specs.declared.edit.Edit.TheVariants.{One, Group}
use Rattle.room_interface.specs.declared.author.Author.{Author}
use Rattle.room_wire.specs.declared.field.Field.{Field}
use Rattle.room_wire.specs.declared.field.Field.TheVariants.{El, Els, Lat, Lon, Nodes, Members, Tags, Dlat, Dlon, At, Into, With, Actions, Seq, Since}
use Rattle.room_wire.specs.declared.bad.Fault.{Fault}
use Rattle.room_wire.specs.declared.bad.Fault.TheVariants.{NotJson, NotObject, BadId, UnknownDo, BadField, UnknownAction, BadActionField, Memory}
use Rattle.room_wire.specs.declared.bad.Bad.{Bad}
use Rattle.room_wire.specs.declared.incoming.Incoming.{Incoming}
use Rattle.room_wire.specs.declared.incoming.Body.{Body}
use Rattle.room_wire.specs.declared.incoming.Body.TheVariants.{Hello, Change, Get, Map, Undos}
use Rattle.room_wire.specs.Fields.{field_text}
use Rattle.room_wire.specs.Reading.{◌>>=◌, or_fault, under}
use Rattle.osm_elements.specs.declared.fault.TextFault.TheVariants as text_faults
use Rattle.osm_elements.specs.declared.name.Kind.TheVariants as kinds
use Rattle.osm_elements.specs.declared.element.Element.TheVariants as elements
use Rattle.room_interface.specs.declared.action.Action.TheVariants as actions
use Rattle.room_interface.specs.declared.call.Request.TheVariants as requests
use Rattle.room_wire.specs.declared.field.Field.TheVariants as fields

-- a whole number in 1..=9007199254740991 (RFC 8259, section 6: integers up to 2^53 - 1 have the same value for every
-- reader)
abbrev pub ordinal : Data → Option ℕ
ordinal d =
    option_and_then (λ n. if nat_le 1 n && nat_le n 9007199254740991 then Some n else None)
    (option_and_then as_u64 (as_number d))

-- a whole number in 0..=9007199254740991
abbrev pub count_of : Data → Option ℕ
count_of d =
    option_and_then (λ n. if nat_le n 9007199254740991 then Some n else None) (option_and_then as_u64 (as_number d))

-- the string of a field
abbrev pub text_at : Field → Data → Option (List ℕ)
text_at field d = option_and_then as_str (get (field_text field) d)

-- the fields, each read by its form
abbrev pub name_at : Field → Data → Result Name Fault
name_at field d = or_fault (BadField field) (option_and_then name_of (text_at field d))

abbrev pub el_at : Data → Result Name Fault
el_at d = name_at El d

abbrev pub author_at : Field → Data → Result Author Fault
author_at field d = or_fault (BadField field) (option_and_then author_of (text_at field d))

abbrev pub lat_at : Data → Result ℤ Fault
lat_at d = or_fault (BadField Lat) (option_and_then latitude_of (text_at Lat d))

abbrev pub lon_at : Data → Result ℤ Fault
lon_at d = or_fault (BadField Lon) (option_and_then longitude_of (text_at Lon d))

-- the values of the items of an array, if each item has a value
abbrev pub items_in : {X : Type 0} → (Data → Option X) → Items → Option (List X)
items_in reading no_items = Some []
items_in reading (item d ds) = option_and_then (λ x. option_map (λ xs. x ∷ xs) (items_in reading ds)) (reading d)

-- an array of names
abbrev pub name_item : Data → Option Name
name_item d = option_and_then name_of (as_str d)

abbrev pub names_in : Items → Option (List Name)
names_in = items_in name_item

abbrev pub els_at : Data → Result (List Name) Fault
els_at d = or_fault (BadField Els) (option_and_then names_in (option_and_then as_array (get (field_text Els) d)))

-- a whole number that is an i64
abbrev pub distance_at : Field → Data → Result ℤ Fault
distance_at field d =
    or_fault (BadField field) (option_and_then as_i64 (option_and_then as_number (get (field_text field) d)))

-- a position, a whole number in 0..=4294967295
abbrev pub place_of : Data → Option ℕ
place_of d = option_and_then (λ n. if nat_le n 4294967295 then Some n else None) (option_and_then as_u64 (as_number d))

abbrev pub place_at : Data → Result ℕ Fault
place_at d = or_fault (BadField At) (option_and_then place_of (get (field_text At) d))

-- an array of whole numbers, each an i64 other than 0: the ids of nodes
abbrev pub node_of : Data → Option Name
node_of d = option_and_then (name_with kinds.Node) (option_and_then as_i64 (as_number d))

abbrev pub nodes_in : Items → Option (List Name)
nodes_in = items_in node_of

abbrev pub nodes_at : Data → Result (List Name) Fault
nodes_at d = or_fault (BadField Nodes) (option_and_then nodes_in (option_and_then as_array (get (field_text Nodes) d)))

-- at most 255 characters
abbrev pub text_of : List ℕ → Option (List ℕ)
text_of text = if is_long text then None else Some text

-- an array of members, each an array of two strings: a name, and a role of at most 255 characters
abbrev pub member_with : Data → Data → Option (Name × List ℕ)
member_with d e =
    option_and_then (λ name. option_map (λ role. (name, role)) (option_and_then text_of (as_str e))) (name_item d)

abbrev pub member_in : Items → Option (Name × List ℕ)
member_in no_items = None
member_in (item d no_items) = None
member_in (item d (item e no_items)) = member_with d e
member_in (item d (item e (item f ds))) = None

abbrev pub member_of : Data → Option (Name × List ℕ)
member_of d = option_and_then member_in (as_array d)

abbrev pub members_in : Items → Option (List (Name × List ℕ))
members_in = items_in member_of

abbrev pub members_at : Data → Result (List (Name × List ℕ)) Fault
members_at d =
    or_fault (BadField Members) (option_and_then members_in (option_and_then as_array (get (field_text Members) d)))

-- an object of at most 1,000 keys, each of 1 to 255 characters, whose values are read by their form
abbrev pub key_of : List ℕ → Option (List ℕ)
key_of text = if nat_eq (length text) 0 then None else text_of text

abbrev pub entry_of : {V : Type 0} → (Data → Option V) → List ℕ → Data → Option (List ℕ × V)
entry_of reading k d = option_and_then (λ key. option_map (λ value. (key, value)) (reading d)) (key_of k)

abbrev pub entries_in : {V : Type 0} → (Data → Option V) → ObjectMembers → Option (List (List ℕ × V))
entries_in reading no_members = Some []
entries_in reading (member k d ms) =
    option_and_then (λ e. option_map (λ es. e ∷ es) (entries_in reading ms)) (entry_of reading k d)

abbrev pub entries_of : {V : Type 0} → (Data → Option V) → ObjectMembers → Option (List (List ℕ × V))
entries_of reading ms = if nat_le (members_len ms) 1000 then entries_in reading ms else None

-- a value is a string of at most 255 characters
abbrev pub value_of : Data → Option (List ℕ)
value_of d = option_and_then text_of (as_str d)

abbrev pub tags_of : ObjectMembers → Option Pairs
tags_of = entries_of value_of

-- a key gets a value, or null for none
abbrev pub given_of : Data → Option (Option (List ℕ))
given_of d = if is_some (as_null d) then Some None else option_map Some (value_of d)

abbrev pub given_tags_of : ObjectMembers → Option GivenTags
given_tags_of = entries_of given_of

abbrev pub given_tags_at : Data → Result GivenTags Fault
given_tags_at d =
    or_fault (BadField Tags) (option_and_then given_tags_of (option_and_then as_object (get (field_text Tags) d)))

-- a message's fault for a fault of a text or a tag in a field
abbrev pub fault_in : Field → TextFault → Fault
fault_in field text_faults.TextTooLong = BadField field
fault_in field text_faults.EmptyKey = BadField field
fault_in field text_faults.TooManyTags = BadField field
fault_in field text_faults.Memory = Memory

-- the fields that may be missing
abbrev pub tags_from : Option Data → Result Pairs Fault
tags_from None = Ok []
tags_from (Some d) = or_fault (BadField Tags) (option_and_then tags_of (as_object d))

abbrev pub tags_at : Data → Result Pairs Fault
tags_at d = tags_from (get (field_text Tags) d)

abbrev pub seq_from : Option Data → Result (Option ℕ) Fault
seq_from None = Ok None
seq_from (Some d) = or_fault (BadField Seq) (option_map Some (ordinal d))

abbrev pub seq_at : Data → Result (Option ℕ) Fault
seq_at d = seq_from (get (field_text Seq) d)

abbrev pub since_from : Option Data → Result (Option ℕ) Fault
since_from None = Ok None
since_from (Some d) = or_fault (BadField Since) (option_map Some (count_of d))

abbrev pub since_at : Data → Result (Option ℕ) Fault
since_at d = since_from (get (field_text Since) d)

-- the element that a create makes, by the kind of its name
abbrev pub element_at : Kind → Data → Result (Element Global) Fault
element_at kinds.Node d = lat_at d >>= λ lat. lon_at d >>= λ lon. tags_at d >>= λ tags. Ok (elements.Node lat lon tags)
element_at kinds.Way d = nodes_at d >>= λ nodes. tags_at d >>= λ tags. Ok (elements.Way nodes tags)
element_at kinds.Relation d = members_at d >>= λ members. tags_at d >>= λ tags. Ok (elements.Relation members tags)

abbrev pub create_at : Data → Result (Action Global) Fault
create_at d = el_at d >>= λ name. element_at name.kind d >>= λ element. Ok (actions.Create name element)

-- the other actions
abbrev pub retag_at : Data → Result (Action Global) Fault
retag_at d = el_at d >>= λ name. given_tags_at d >>= λ given. Ok (actions.Retag name given)

abbrev pub move_at : Data → Result (Action Global) Fault
move_at d =
    els_at d >>= λ names. distance_at Dlat d >>= λ dlat. distance_at Dlon d >>= λ dlon.
    Ok (actions.Move names dlat dlon)

abbrev pub relist_way_at : Data → Result (Action Global) Fault
relist_way_at d = el_at d >>= λ name. nodes_at d >>= λ list. Ok (actions.Nodes name list)

abbrev pub relist_relation_at : Data → Result (Action Global) Fault
relist_relation_at d = el_at d >>= λ name. members_at d >>= λ list. Ok (actions.Members name list)

abbrev pub split_at : Data → Result (Action Global) Fault
split_at d = el_at d >>= λ name. place_at d >>= λ place. name_at Into d >>= λ into. Ok (actions.Split name place into)

abbrev pub join_at : Data → Result (Action Global) Fault
join_at d = el_at d >>= λ name. name_at With d >>= λ other. Ok (actions.Join name other)

abbrev pub merge_at : Data → Result (Action Global) Fault
merge_at d = el_at d >>= λ name. name_at With d >>= λ other. Ok (actions.Merge name other)

abbrev pub unglue_at : Data → Result (Action Global) Fault
unglue_at d = el_at d >>= λ name. place_at d >>= λ place. name_at Into d >>= λ into. Ok (actions.Unglue name place into)

-- the action that a word asks for
abbrev pub action_by : List ℕ → Data → Result (Action Global) Fault
action_by word d =
    if bytes_eq word (codes "create") then create_at d
    else (if bytes_eq word (codes "retag") then retag_at d
    else (if bytes_eq word (codes "move") then move_at d
    else (if bytes_eq word (codes "reverse") then (el_at d >>= λ name. Ok (actions.Reverse name))
    else (if bytes_eq word (codes "nodes") then relist_way_at d
    else (if bytes_eq word (codes "members") then relist_relation_at d
    else (if bytes_eq word (codes "delete") then (el_at d >>= λ name. Ok (actions.Delete name))
    else (if bytes_eq word (codes "purge") then (el_at d >>= λ name. Ok (actions.Purge name))
    else (if bytes_eq word (codes "split") then split_at d
    else (if bytes_eq word (codes "join") then join_at d
    else (if bytes_eq word (codes "merge") then merge_at d
    else (if bytes_eq word (codes "unglue") then unglue_at d
    else Err UnknownDo)))))))))))

-- the word of a message
abbrev pub word_at : Data → Result (List ℕ) Fault
word_at d = or_fault UnknownDo (option_and_then as_str (get (codes "do") d))

-- an array of 1 to 10,000 objects, one for each action
abbrev pub are_objects : Items → Bool
are_objects no_items = true
are_objects (item d ds) = is_some (as_object d) && are_objects ds

abbrev pub group_of : Items → Option Items
group_of ds = if is_group_length (items_len ds) && are_objects ds then Some ds else None

abbrev pub group_at : Data → Result Items Fault
group_at d = or_fault (BadField Actions) (option_and_then group_of (option_and_then as_array (get (field_text Actions) d)))

-- the fault of a message for a fault of the action at position k of a group
abbrev pub at_action : ℕ → Fault → Fault
at_action k UnknownDo = UnknownAction k
at_action k (BadField field) = BadActionField k field
at_action k fault = fault

abbrev pub with_position : {X : Type 0} → ℕ → Result X Fault → Result X Fault
with_position k (Ok x) = Ok x
with_position k (Err fault) = Err (at_action k fault)

-- the actions of a group in order, up to the first fault; the first action is at position k
abbrev pub action_at : Data → Result (Action Global) Fault
action_at d = word_at d >>= λ word. action_by word d

abbrev pub actions_from : ℕ → Items → Result (List (Action Global)) Fault
actions_from k no_items = Ok []
actions_from k (item d ds) =
    with_position k (action_at d) >>= λ action. actions_from (k + 1) ds >>= λ later. Ok (action ∷ later)

abbrev pub actions_at : Data → Result (List (Action Global)) Fault
actions_at d = group_at d >>= λ ds. actions_from 0 ds

-- the edit that a message with this word asks for: one action, or a group
abbrev pub edit_by : List ℕ → Data → Result (Edit Global) Fault
edit_by word d =
    if bytes_eq word (codes "group") then (actions_at d >>= λ actions. Ok (Group actions))
    else (action_by word d >>= λ action. Ok (One action))

-- the words of edits
abbrev pub is_edit_word : List ℕ → Bool
is_edit_word word = list_any (bytes_eq word)
    (codes "group" ∷ codes "create" ∷ codes "retag" ∷ codes "move" ∷ codes "reverse" ∷ codes "nodes" ∷ codes "members"
    ∷ codes "delete" ∷ codes "purge" ∷ codes "split" ∷ codes "join" ∷ codes "merge" ∷ codes "unglue" ∷ [])

-- the change that a message with the word of an edit asks for: what its author had seen, and the edit
abbrev pub change_by : List ℕ → Data → Result Body Fault
change_by word d = since_at d >>= λ since. edit_by word d >>= λ edit. Ok (Change (requests.Do edit since))

-- the room and the author of a hello
abbrev pub hello_at : Data → Result Body Fault
hello_at d = author_at fields.Room d >>= λ room. author_at fields.Name d >>= λ name. Ok (Hello room name)

-- what a message with this word asks for
abbrev pub body_by : List ℕ → Data → Result Body Fault
body_by word d =
    if bytes_eq word (codes "hello") then hello_at d
    else (if bytes_eq word (codes "undo") then (seq_at d >>= λ seq. Ok (Change (requests.Undo seq)))
    else (if bytes_eq word (codes "redo") then Ok (Change requests.Redo)
    else (if bytes_eq word (codes "undos") then Ok Undos
    else (if bytes_eq word (codes "get") then (el_at d >>= λ name. Ok (Get name))
    else (if bytes_eq word (codes "map") then Ok Map
    else (if is_edit_word word then change_by word d
    else Err UnknownDo))))))

abbrev pub body_at : Data → Result Body Fault
body_at d = word_at d >>= λ word. body_by word d

abbrev pub id_at : Data → Result ℕ Fault
id_at d = if is_some (as_object d) then or_fault BadId (option_and_then ordinal (get (codes "id") d)) else Err NotObject

-- The value of a tree, if there is one, under the tree's id. A fault before the id was read comes under 0.
module _ {X Y : Type 0} (made : ℕ → X → Y) (reading : Data → Result X Fault) where
  abbrev pub by_id : Result ℕ Fault → Data → Result Y Bad
  by_id (Ok id) d = under made id (reading d)
  by_id (Err fault) d = under made 0 (Err fault)

  abbrev pub with_id : Option Data → Result Y Bad
  with_id None = under made 0 (Err NotJson)
  with_id (Some d) = by_id (id_at d) d

-- a message is its body under its id
abbrev pub incoming : ℕ → Body → Incoming
incoming id body = record { id = id; body = body }

abbrev pub message_of : Option Data → Result Incoming Bad
message_of = with_id incoming body_at

-- the meaning of a text: a message, or its one fault
abbrev pub spells : List ℕ → Result Incoming Bad
spells text = message_of (read text)
