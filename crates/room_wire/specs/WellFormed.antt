-- Well-formed messages, and the first malformed field of any other message. The words and fields are this project's.
use Rattle.std.specs.Prelude.{zero, suc, ◌≡◌, ◌≤◌, ◌⊎◌, All, FitsSigned, ℕ, ℤ, Bool, true, false, List, [], ◌∷◌, length, map, Option, Some, None, Result, Ok, Err, codes, is_ok, if◌then◌else◌}
use Rattle.serde_json.specs.Data.{Data, null, number, string, array, object, Items, no_items, item}
use Rattle.serde_json.specs.Find.{get, of_integer}
use Rattle.serde_json.specs.View.{items_of}
use Rattle.room_interface.specs.Prelude.{w64, Global, kind_of, AreMembers, AreNodes, AreTagRows, Pairs, AreGiven, GivenTags, is_group_length, is_author}
use Rattle.osm_coords.specs.Latitude.{latitude_of}
use Rattle.osm_coords.specs.Longitude.{longitude_of}
use Rattle.osm_elements.specs.declared.name.Name.{Name}
use Rattle.osm_elements.specs.declared.name.Kind.{Kind}
use Rattle.osm_elements.specs.declared.element.Element.{Element}
use Rattle.room_interface.specs.declared.action.Action.{Action}
use Rattle.room_interface.specs.declared.edit.Edit.TheVariants.{One, Group}
use Rattle.room_interface.specs.declared.author.Author.{Author}
use Rattle.room_wire.specs.declared.bad.Fault.{Fault}
use Rattle.room_wire.specs.declared.bad.Fault.TheVariants.{BadField, UnknownDo}
use Rattle.room_wire.specs.declared.field.Field.{Field}
use Rattle.room_wire.specs.declared.field.Field.TheVariants.{El, Els, Lat, Lon, Nodes, Members, Tags, Dlat, Dlon, At, Into, With, Actions, Seq, Since}
use Rattle.room_wire.specs.declared.incoming.Incoming.{Incoming}
use Rattle.room_wire.specs.declared.incoming.Body.{Body}
use Rattle.room_wire.specs.Fields.{field_text}
use Rattle.room_wire.specs.ReadBack.{HasId}
use Rattle.room_wire.specs.Spelling.{author_at, distance_at, el_at, els_at, given_tags_at, group_at, lat_at, lon_at, members_at, name_at, nodes_at, place_at, seq_at, since_at, tags_at}
use Rattle.room_wire.specs.Trees.{entry_members, members_tree, name_tree, nodes_tree, tags_tree, whole}
use Rattle.room_wire.specs.Words.{Word, is_action_word, is_edit, word_text}
use Rattle.osm_elements.specs.declared.name.Kind.TheVariants as kinds
use Rattle.osm_elements.specs.declared.element.Element.TheVariants as elements
use Rattle.room_interface.specs.declared.action.Action.TheVariants as actions
use Rattle.room_interface.specs.declared.call.Request.TheVariants as requests
use Rattle.room_wire.specs.declared.field.Field.TheVariants as fields
use Rattle.room_wire.specs.declared.incoming.Body.TheVariants as bodies
use Rattle.room_wire.specs.Words as words

-- the `do` of a message is this word
abbrev pub HasWord : Data → Word → Type 0
HasWord d word = get (codes "do") d ≡ Some (string (word_text word))

-- the id of a message, or the number of an entry
abbrev pub IsNumber : ℕ → Type 0
IsNumber n = (1 ≤ n) × (n ≤ 9007199254740991)

abbrev pub MessageId : Data → ℕ → Type 0
MessageId d id = (get (codes "id") d ≡ Some (whole id)) × IsNumber id

-- ---- the members of a well-formed message

-- a field has this tree
abbrev pub Has : Data → Field → Data → Type 0
Has d field value = get (field_text field) d ≡ Some value

-- a field has a text with this value
abbrev pub HasText : {X : Type 0} → Data → Field → (List ℕ → Option X) → X → Type 0
HasText d field reading x = (text : List ℕ) × Has d field (string text) × (reading text ≡ Some x)

-- the field is missing
abbrev pub IsMissing : Data → Field → Type 0
IsMissing d field = get (field_text field) d ≡ None

-- the tags of an element; if the field is missing, the element has no tags
abbrev pub HasTags : Data → Pairs → Type 0
HasTags d tags = (Has d Tags (tags_tree tags) × AreTagRows tags) ⊎ (IsMissing d Tags × (tags ≡ []))

-- the values that keys get, null for none
abbrev pub given_tree : Option (List ℕ) → Data
given_tree None = null
given_tree (Some value) = string value

abbrev pub given_tags_tree : GivenTags → Data
given_tags_tree given = object (entry_members given_tree given)

abbrev pub HasGivenTags : Data → GivenTags → Type 0
HasGivenTags d given = Has d Tags (given_tags_tree given) × AreGiven given

abbrev pub names_tree : List Name → Data
names_tree names = array (items_of (map name_tree names))

abbrev pub HasNames : Data → List Name → Type 0
HasNames d names = Has d Els (names_tree names) × All HasId names

abbrev pub HasSeq : Data → Option ℕ → Type 0
HasSeq d None = IsMissing d Seq
HasSeq d (Some seq) = Has d Seq (whole seq) × IsNumber seq

abbrev pub HasSince : Data → Option ℕ → Type 0
HasSince d None = IsMissing d Since
HasSince d (Some n) = Has d Since (whole n) × (n ≤ 9007199254740991)

-- a field has the name of an element, whose id is an i64
abbrev pub HasNameAt : Data → Field → Name → Type 0
HasNameAt d field name = Has d field (name_tree name) × HasId name

abbrev pub HasName : Data → Name → Type 0
HasName d name = HasNameAt d El name

-- a field has a name of 1 to 32 characters of a-z, 0-9 and _
abbrev pub HasAuthor : Data → Field → Author → Type 0
HasAuthor d field author = Has d field (string author) × (is_author author ≡ true)

-- the position of a split or an unglue
abbrev pub HasPlace : Data → ℕ → Type 0
HasPlace d place = Has d At (whole place) × (place ≤ 4294967295)

-- a distance, which is an i64
abbrev pub HasDistance : Data → Field → ℤ → Type 0
HasDistance d field z = Has d field (number (of_integer z)) × FitsSigned w64 z

-- the nodes of a way, and the members of a relation
abbrev pub HasNodes : Data → List Name → Type 0
HasNodes d list = Has d Nodes (nodes_tree list) × AreNodes list × All HasId list

abbrev pub HasMembers : Data → List (Name × List ℕ) → Type 0
HasMembers d list = Has d Members (members_tree list) × AreMembers list × All (λ (m : Name × List ℕ). HasId m.0) list

-- an element, whose parts are as their types require
abbrev pub HasElement : {A : Type 0} → Data → Element A → Type 0
HasElement d (elements.Node lat lon tags) =
    HasText d Lat latitude_of lat × HasText d Lon longitude_of lon × HasTags d tags
HasElement d (elements.Way nodes tags) = HasNodes d nodes × HasTags d tags
HasElement d (elements.Relation members tags) = HasMembers d members × HasTags d tags

-- the word and the fields of an action
abbrev pub AsksAction : Data → Action Global → Type 0
AsksAction d (actions.Create name element) =
    HasWord d words.Create × HasName d name × HasElement d element × (kind_of element ≡ name.kind)
AsksAction d (actions.Retag name given) =
    HasWord d words.Retag × HasName d name × HasGivenTags d given
AsksAction d (actions.Move names dlat dlon) =
    HasWord d words.Move × HasNames d names × HasDistance d Dlat dlat × HasDistance d Dlon dlon
AsksAction d (actions.Reverse name) = HasWord d words.Reverse × HasName d name
AsksAction d (actions.Nodes name list) =
    HasWord d words.Nodes × HasName d name × HasNodes d list
AsksAction d (actions.Members name list) =
    HasWord d words.Members × HasName d name × HasMembers d list
AsksAction d (actions.Delete name) = HasWord d words.Delete × HasName d name
AsksAction d (actions.Purge name) = HasWord d words.Purge × HasName d name
AsksAction d (actions.Split name place into) =
    HasWord d words.Split × HasName d name × HasPlace d place × HasNameAt d Into into
AsksAction d (actions.Join name other) =
    HasWord d words.Join × HasName d name × HasNameAt d With other
AsksAction d (actions.Merge name other) =
    HasWord d words.Merge × HasName d name × HasNameAt d With other
AsksAction d (actions.Unglue name place into) =
    HasWord d words.Unglue × HasName d name × HasPlace d place × HasNameAt d Into into

-- each tree has the word and the fields of its action
abbrev pub AskActions : Items → List (Action Global) → Type 0
AskActions no_items [] = Unit {0}
AskActions (item d ds) (a ∷ more) = AsksAction d a × AskActions ds more
AskActions no_items (a ∷ more) = ⊥
AskActions (item d ds) [] = ⊥

-- 1 to 10,000 trees under `actions`, one for each action of a group
abbrev pub HasGroup : Data → List (Action Global) → Type 0
HasGroup d group = (ds : Items) × Has d Actions (array ds) × (is_group_length (length group) ≡ true) × AskActions ds group

-- the word and the fields of a message with this body
abbrev pub Asks : Data → Body → Type 0
Asks d (bodies.Change (requests.Do (One action) since)) = HasSince d since × AsksAction d action
Asks d (bodies.Change (requests.Do (Group group) since)) = HasSince d since × HasWord d words.Group × HasGroup d group
Asks d (bodies.Change (requests.Undo seq)) = HasWord d words.Undo × HasSeq d seq
Asks d (bodies.Change requests.Redo) = HasWord d words.Redo
Asks d (bodies.Get name) = HasWord d words.Get × HasName d name
Asks d bodies.Map = HasWord d words.Map
Asks d bodies.Undos = HasWord d words.Undos
Asks d (bodies.Hello room name) = HasWord d words.Hello × HasAuthor d fields.Room room × HasAuthor d fields.Name name

-- the tree has the members of this message, in any order and with any other members
abbrev pub IsMessage : Data → Incoming → Type 0
IsMessage d message = MessageId d message.id × Asks d message.body

-- ---- the fields of a message or of an action, in the order in which they are read

-- a field, and whether it is well formed
abbrev pub Slot : Type 0
Slot = Field × Bool

abbrev pub slot : {X : Type 0} → Field → Result X Fault → Slot
slot field read = (field, is_ok read)

-- the fields of an element, by its kind
abbrev pub element_slots : Kind → Data → List Slot
element_slots kinds.Node d = slot Lat (lat_at d) ∷ slot Lon (lon_at d) ∷ slot Tags (tags_at d) ∷ []
element_slots kinds.Way d = slot Nodes (nodes_at d) ∷ slot Tags (tags_at d) ∷ []
element_slots kinds.Relation d = slot Members (members_at d) ∷ slot Tags (tags_at d) ∷ []

abbrev pub named_slots : Result Name Fault → Data → List Slot
named_slots (Ok name) d = element_slots name.kind d
named_slots (Err fault) d = []

abbrev pub slots : Word → Data → List Slot
slots words.Create d = slot El (el_at d) ∷ named_slots (el_at d) d
slots words.Retag d = slot El (el_at d) ∷ slot Tags (given_tags_at d) ∷ []
slots words.Move d = slot Els (els_at d) ∷ slot Dlat (distance_at Dlat d) ∷ slot Dlon (distance_at Dlon d) ∷ []
slots words.Reverse d = slot El (el_at d) ∷ []
slots words.Nodes d = slot El (el_at d) ∷ slot Nodes (nodes_at d) ∷ []
slots words.Members d = slot El (el_at d) ∷ slot Members (members_at d) ∷ []
slots words.Delete d = slot El (el_at d) ∷ []
slots words.Purge d = slot El (el_at d) ∷ []
slots words.Split d = slot El (el_at d) ∷ slot At (place_at d) ∷ slot Into (name_at Into d) ∷ []
slots words.Join d = slot El (el_at d) ∷ slot With (name_at With d) ∷ []
slots words.Merge d = slot El (el_at d) ∷ slot With (name_at With d) ∷ []
slots words.Unglue d = slot El (el_at d) ∷ slot At (place_at d) ∷ slot Into (name_at Into d) ∷ []
slots words.Group d = slot Actions (group_at d) ∷ []
slots words.Undo d = slot Seq (seq_at d) ∷ []
slots words.Redo d = []
slots words.Undos d = []
slots words.Get d = slot El (el_at d) ∷ []
slots words.Map d = []
slots words.Hello d = slot fields.Room (author_at fields.Room d) ∷ slot fields.Name (author_at fields.Name d) ∷ []

-- the fields of a message: an edit first says what its author had seen
abbrev pub message_slots : Word → Data → List Slot
message_slots word d = if is_edit word then slot Since (since_at d) ∷ slots word d else slots word d

-- the fields before this one are well formed, and this one is not
abbrev pub IsFirstBad : List Slot → Field → Type 0
IsFirstBad [] field = ⊥
IsFirstBad ((first, true) ∷ later) field = IsFirstBad later field
IsFirstBad ((first, false) ∷ later) field = first ≡ field

-- every field is well formed
abbrev pub AreGood : List Slot → Type 0
AreGood [] = Unit {0}
AreGood ((first, true) ∷ later) = AreGood later
AreGood ((first, false) ∷ later) = ⊥

-- ---- the actions of a group, in their order

-- an action has the word of an action, and its fields are well formed
abbrev pub IsGoodAction : Data → Type 0
IsGoodAction d = (word : Word) × (is_action_word word ≡ true) × HasWord d word × AreGood (slots word d)

-- an action has this fault: it has no word of an action, or this is its first malformed field
abbrev pub IsBadAction : Data → Fault → Type 0
IsBadAction d UnknownDo = (word : Word) → is_action_word word ≡ true → ¬ HasWord d word
IsBadAction d (BadField field) = (word : Word) × (is_action_word word ≡ true) × HasWord d word × IsFirstBad (slots word d) field
IsBadAction d fault = ⊥

-- the actions before the n-th are well formed, and the n-th has this fault
abbrev pub IsFirstBadAction : Items → ℕ → Fault → Type 0
IsFirstBadAction no_items n fault = ⊥
IsFirstBadAction (item d ds) zero fault = IsBadAction d fault
IsFirstBadAction (item d ds) (suc n) fault = IsGoodAction d × IsFirstBadAction ds n fault

-- every action is well formed
abbrev pub AreGoodActions : Items → Type 0
AreGoodActions no_items = Unit {0}
AreGoodActions (item d ds) = IsGoodAction d × AreGoodActions ds

-- the actions of a message with this word, if it is a well-formed group, and otherwise none
abbrev pub actions_in : Result Items Fault → Items
actions_in (Ok ds) = ds
actions_in (Err fault) = no_items

abbrev pub group_items : Word → Data → Items
group_items words.Group d = actions_in (group_at d)
group_items word d = no_items
