-- Every well-formed message spells itself.
use Rattle.std.proofs.Common.{◌≡◌, ◌≤◌, ◌&&◌, ◌+◌, ℕ, ℤ, suc, List, [], ◌∷◌, length, codes, true, cond, Option, Some, None, Result, Ok, is_some, nat_le, refl, ◌∙◌, inl, inr, sym, ap, arith, option_map, option_and_then}
use Rattle.std.proofs.lemmas.Bool.Decides.{nat_tests}
use Rattle.serde_json.specs.Data.{Data, Items, no_items, item, null, boolean, number, string, array, object}
use Rattle.serde_json.specs.Events.{items_len}
use Rattle.serde_json.specs.Find.{get, as_array, as_i64, as_number, as_object, as_str}
use Rattle.serde_json.specs.Read.{read}
use Rattle.room_wire.specs.Prelude.{Global, latitude_of, longitude_of, Name, Element, kind_of, name_of_text, name_of, Pairs, GivenTags, Action, One, Group, is_group_length, Author, author_of, Fault, BadField, UnknownDo, Field, El, Els, Lat, Lon, Nodes, Members, Tags, Dlat, Dlon, At, Into, With, Actions, Seq, Since, Incoming, Body, field_text, or_fault, under, action_at, action_by, actions_from, are_objects, group_at, group_of, author_at, body_at, body_by, count_of, create_at, distance_at, el_at, element_at, els_at, given_tags_at, given_tags_of, id_at, lat_at, lon_at, name_at, place_at, place_of, names_in, by_id, incoming, message_of, members_at, members_in, nodes_at, nodes_in, ordinal, seq_at, seq_from, since_at, since_from, spells, tags_at, tags_from, text_at, whole, Asks, AskActions, AsksAction, Has, HasAuthor, HasDistance, HasElement, HasGivenTags, HasMembers, HasName, HasNameAt, HasNames, HasNodes, HasPlace, HasSeq, HasSince, HasTags, HasText, HasWord, IsMessage, IsNumber, MessageId, Word, word_text}
use Rattle.room_wire.specs.Reading.{◌>>=◌}
use Rattle.room_wire.proofs.ReadBackProofs.{as_i64-of_integer, given_tags_of-given_tag_members, members_in-trees, names_in-trees, nodes_in-ids, tags_of-tag_members, three, two}
use Rattle.osm_elements.specs.declared.element.Element.TheVariants as elements
use Rattle.room_interface.specs.declared.action.Action.TheVariants as actions
use Rattle.room_interface.specs.declared.call.Request.TheVariants as requests
use Rattle.room_wire.specs.declared.field.Field.TheVariants as fields
use Rattle.room_wire.specs.declared.incoming.Body.TheVariants as bodies
use Rattle.room_wire.specs.Words as words

pub number_read : (n : ℕ) → IsNumber n → ordinal (whole n) ≡ Some n
number_read n h =
    let low = h.0 in
    let high = h.1 in
    let inside : (nat_le 1 n && nat_le n 9007199254740991) ≡ true = grind (arith, nat_tests) in
    rw inside refl

pub count_read : (n : ℕ) → n ≤ 9007199254740991 → count_of (whole n) ≡ Some n
count_read n h =
    let inside : nat_le n 9007199254740991 ≡ true = grind (arith, nat_tests) in
    rw inside refl

is_object : (d : Data) (k : List ℕ) (v : Data) → get k d ≡ Some v → is_some (as_object d) ≡ true
is_object null k v h = cc
is_object (boolean b) k v h = cc
is_object (number n) k v h = cc
is_object (string s) k v h = cc
is_object (array ds) k v h = cc
is_object (object ms) k v h = refl

pub id_read : (d : Data) (id : ℕ) → MessageId d id → id_at d ≡ Ok id
id_read d id h = rw (is_object d (codes "id") (whole id) h.0, h.0) (ap (or_fault _) (number_read id h.1))

-- the meaning of a message whose id was read
pub spells-body : (text : List ℕ) (d : Data) (id : ℕ) → read text ≡ Some d → id_at d ≡ Ok id → spells text ≡ under incoming id (body_at d)
spells-body text d id tree is = ap message_of tree ∙ ap (λ r. by_id incoming body_at r d) is

pub word_read : (d : Data) (word : Word) → HasWord d word → body_at d ≡ body_by (word_text word) d
word_read d word h = ap (λ o. or_fault UnknownDo (option_and_then as_str o) >>= λ text. body_by text d) h

text_read : {X : Type 0} (d : Data) (field : Field) (reading : List ℕ → Option X) (x : X) → HasText d field reading x → or_fault (BadField field) (option_and_then reading (text_at field d)) ≡ Ok x
text_read d field reading x h = ap (λ o. or_fault (BadField field) (option_and_then reading (option_and_then as_str o))) h.1 ∙ ap (or_fault (BadField field)) h.2

name_read : (d : Data) (field : Field) (name : Name) → HasNameAt d field name → name_at field d ≡ Ok name
name_read d field name h = text_read d field name_of name (_, h.0, name_of_text name h.1)

pub el_read : (d : Data) (name : Name) → HasName d name → el_at d ≡ Ok name
el_read d name h = name_read d El name h

author_read : (d : Data) (field : Field) (author : Author) → HasAuthor d field author → author_at field d ≡ Ok author
author_read d field author h = text_read d field author_of author (_, h.0, ap (λ b. cond b (Some author) None) h.1)

place_read : (d : Data) (place : ℕ) → HasPlace d place → place_at d ≡ Ok place
place_read d place h =
    let high = h.1 in
    let inside : nat_le place 4294967295 ≡ true = grind (arith, nat_tests) in
    ap (λ o. or_fault (BadField At) (option_and_then place_of o)) h.0 ∙ ap (λ b. or_fault (BadField At) (cond b (Some place) None)) inside

tags_read : (d : Data) (tags : Pairs) → HasTags d tags → tags_at d ≡ Ok tags
tags_read d tags (inl (has, rows)) = ap tags_from has ∙ ap (or_fault (BadField Tags)) (tags_of-tag_members tags rows)
tags_read d tags (inr (missing, none)) = ap tags_from missing ∙ ap Ok (sym none)

seq_read : (d : Data) (seq : Option ℕ) → HasSeq d seq → seq_at d ≡ Ok seq
seq_read d None h = ap seq_from h
seq_read d (Some n) h = ap seq_from h.0 ∙ ap (λ o. or_fault (BadField Seq) (option_map Some o)) (number_read n h.1)

since_read : (d : Data) (since : Option ℕ) → HasSince d since → since_at d ≡ Ok since
since_read d None h = ap since_from h
since_read d (Some n) h = ap since_from h.0 ∙ ap (λ o. or_fault (BadField Since) (option_map Some o)) (count_read n h.1)

-- reading an array or an object
array_read : {X : Type 0} (d : Data) (field : Field) (reading : Items → Option X) (items : Items) (x : X) → Has d field (array items) → reading items ≡ Some x
    → or_fault (BadField field) (option_and_then reading (option_and_then as_array (get (field_text field) d))) ≡ Ok x
array_read d field reading items x has is = ap (λ o. or_fault (BadField field) (option_and_then reading (option_and_then as_array o))) has ∙ ap (or_fault (BadField field)) is

given_tags_read : (d : Data) (given : GivenTags) → HasGivenTags d given → given_tags_at d ≡ Ok given
given_tags_read d given h =
    ap (λ o. or_fault (BadField Tags) (option_and_then given_tags_of (option_and_then as_object o))) h.0 ∙ ap (or_fault (BadField Tags)) (given_tags_of-given_tag_members given h.1)

els_read : (d : Data) (names : List Name) → HasNames d names → els_at d ≡ Ok names
els_read d names h = array_read d Els names_in _ names h.0 (names_in-trees names h.1)

distance_read : (d : Data) (field : Field) (z : ℤ) → HasDistance d field z → distance_at field d ≡ Ok z
distance_read d field z h =
    ap (λ o. or_fault (BadField field) (option_and_then as_i64 (option_and_then as_number o))) h.0 ∙ ap (or_fault (BadField field)) (as_i64-of_integer z h.1)

nodes_read : (d : Data) (list : List Name) → HasNodes d list → nodes_at d ≡ Ok list
nodes_read d list h = array_read d Nodes nodes_in _ list h.0 (nodes_in-ids list h.1 h.2)

members_read : (d : Data) (list : List (Name × List ℕ)) → HasMembers d list → members_at d ≡ Ok list
members_read d list h = array_read d Members members_in _ list h.0 (members_in-trees list h.1 h.2)

pub element_read : (d : Data) (element : Element Global) → HasElement d element → element_at (kind_of element) d ≡ Ok element
element_read d (elements.Node lat lon tags) h =
    three {D = Element Global} (λ x y z. elements.Node x y z) (lat_at d) (lon_at d) (tags_at d) lat lon tags
    (text_read d Lat latitude_of lat h.0) (text_read d Lon longitude_of lon h.1) (tags_read d tags h.2)
element_read d (elements.Way nodes tags) h = two {C = Element Global} (λ x y. elements.Way x y) (nodes_at d) (tags_at d) nodes tags (nodes_read d nodes h.0) (tags_read d tags h.1)
element_read d (elements.Relation members tags) h =
    two {C = Element Global} (λ x y. elements.Relation x y) (members_at d) (tags_at d) members tags (members_read d members h.0) (tags_read d tags h.1)

pub created : (d : Data) (name : Name) (element : Element Global) → el_at d ≡ Ok name → element_at name.kind d ≡ Ok element → create_at d ≡ Ok (actions.Create name element)
created d name element h g = rw (h, g) refl

-- the action of a message as one edit, after what its author had seen
abbrev pub doing : Result (Option ℕ) Fault → Result (Action Global) Fault → Result Body Fault
doing s r = s >>= λ since. (r >>= λ action. Ok (One action)) >>= λ edit. Ok (bodies.Change (requests.Do edit since))

-- a message has a word, under which it is read as this action
abbrev IsRead : Data → Action Global → Type 0
IsRead d action = (word : Word) × HasWord d word × (action_by (word_text word) d ≡ Ok action) × (body_by (word_text word) d ≡ doing (since_at d) (action_by (word_text word) d))

action_asked : (d : Data) (action : Action Global) → AsksAction d action → IsRead d action
action_asked d (actions.Create name element) (word, named, has, kind) =
    let element_is : element_at name.kind d ≡ Ok element = ap (λ k. element_at k d) (sym kind) ∙ element_read d element has in
    (words.Create, word, (created d name element (el_read d name named) element_is), refl)
action_asked d (actions.Retag name given) (word, named, has) = (words.Retag, word, (two {C = Action Global} (λ x y. actions.Retag x y) (el_at d) (given_tags_at d) name given (el_read d name named) (given_tags_read d given has)), refl)
action_asked d (actions.Move names dlat dlon) (word, has, north, east) = (
  words.Move,
  word,
  (three {D = Action Global} (λ x y z. actions.Move x y z) (els_at d) (distance_at Dlat d) (distance_at Dlon d) names dlat dlon
      (els_read d names has) (distance_read d Dlat dlat north) (distance_read d Dlon dlon east)),
  refl,
)
action_asked d (actions.Reverse name) (word, named) = (words.Reverse, word, ap (λ r. (r >>= λ name. Ok (actions.Reverse name))) (el_read d name named), refl)
action_asked d (actions.Nodes name list) (word, named, has) = (words.Nodes, word, (two {C = Action Global} (λ x y. actions.Nodes x y) (el_at d) (nodes_at d) name list (el_read d name named) (nodes_read d list has)), refl)
action_asked d (actions.Members name list) (word, named, has) = (words.Members, word, (two {C = Action Global} (λ x y. actions.Members x y) (el_at d) (members_at d) name list (el_read d name named) (members_read d list has)), refl)
action_asked d (actions.Delete name) (word, named) = (words.Delete, word, ap (λ r. (r >>= λ name. Ok (actions.Delete name))) (el_read d name named), refl)
action_asked d (actions.Purge name) (word, named) = (words.Purge, word, ap (λ r. (r >>= λ name. Ok (actions.Purge name))) (el_read d name named), refl)
action_asked d (actions.Split name place into) (word, named, has, new) = (
  words.Split,
  word,
  (three {D = Action Global} (λ x y z. actions.Split x y z) (el_at d) (place_at d) (name_at Into d) name place into
      (el_read d name named) (place_read d place has) (name_read d Into into new)),
  refl,
)
action_asked d (actions.Join name other) (word, named, has) = (words.Join, word, (two {C = Action Global} (λ x y. actions.Join x y) (el_at d) (name_at With d) name other (el_read d name named) (name_read d With other has)), refl)
action_asked d (actions.Merge name other) (word, named, has) = (words.Merge, word, (two {C = Action Global} (λ x y. actions.Merge x y) (el_at d) (name_at With d) name other (el_read d name named) (name_read d With other has)), refl)
action_asked d (actions.Unglue name place into) (word, named, has, new) = (
  words.Unglue,
  word,
  (three {D = Action Global} (λ x y z. actions.Unglue x y z) (el_at d) (place_at d) (name_at Into d) name place into
      (el_read d name named) (place_read d place has) (name_read d Into into new)),
  refl,
)

pub action_word_read : (d : Data) (word : Word) → HasWord d word → action_at d ≡ action_by (word_text word) d
action_word_read d word h = ap (λ o. or_fault UnknownDo (option_and_then as_str o) >>= λ text. action_by text d) h

-- the actions of a group
action_read : (d : Data) (action : Action Global) → AsksAction d action → action_at d ≡ Ok action
action_read d action asks = let r = action_asked d action asks in action_word_read d r.0 r.1 ∙ r.2

actions_read : (k : ℕ) (ds : Items) (group : List (Action Global)) → AskActions ds group → actions_from k ds ≡ Ok group
actions_read k no_items [] asks = refl
actions_read k (item d ds) (a ∷ more) asks = rw (action_read d a asks.0, actions_read (k + 1) ds more asks.1) refl
actions_read k no_items (a ∷ more) asks = absurd asks
actions_read k (item d ds) [] asks = absurd asks

asks_object : (d : Data) (action : Action Global) → AsksAction d action → is_some (as_object d) ≡ true
asks_object d action asks = let r = action_asked d action asks in is_object d (codes "do") (string (word_text r.0)) r.1

objects_read : (ds : Items) (group : List (Action Global)) → AskActions ds group → are_objects ds ≡ true
objects_read no_items [] asks = refl
objects_read (item d ds) (a ∷ more) asks = rw (asks_object d a asks.0) (objects_read ds more asks.1)
objects_read no_items (a ∷ more) asks = absurd asks
objects_read (item d ds) [] asks = absurd asks

as_many : (ds : Items) (group : List (Action Global)) → AskActions ds group → items_len ds ≡ length group
as_many no_items [] asks = refl
as_many (item d ds) (a ∷ more) asks = ap suc (as_many ds more asks.1)
as_many no_items (a ∷ more) asks = absurd asks
as_many (item d ds) [] asks = absurd asks

group_read : (ds : Items) (group : List (Action Global)) → is_group_length (length group) ≡ true → AskActions ds group → group_of ds ≡ Some ds
group_read ds group count asks = rw (as_many ds group asks, count, objects_read ds group asks) refl

-- the actions of a message as a group, after what its author had seen
abbrev pub grouped : Result (Option ℕ) Fault → Result Items Fault → Result Body Fault
grouped s r = s >>= λ since. ((r >>= λ ds. actions_from 0 ds) >>= λ group. Ok (Group group)) >>= λ edit. Ok (bodies.Change (requests.Do edit since))

asked : (d : Data) (body : Body) → Asks d body → body_at d ≡ Ok body
asked d (bodies.Change (requests.Do (One action) since)) (seen, asks) =
    let r = action_asked d action asks in
    word_read d r.0 r.1 ∙ r.3 ∙ ap (λ s. doing s (action_by (word_text r.0) d)) (since_read d since seen) ∙ ap (doing (Ok since)) r.2
asked d (bodies.Change (requests.Do (Group group) since)) (seen, word, has) =
    let ds = has.0 in
    word_read d words.Group word ∙ ap (λ s. grouped s (group_at d)) (since_read d since seen)
    ∙ ap (grouped (Ok since)) (array_read d Actions group_of ds ds has.1 (group_read ds group has.2 has.3))
    ∙ ap (λ r. (r >>= λ group. Ok (Group group)) >>= λ edit. Ok (bodies.Change (requests.Do edit since))) (actions_read 0 ds group has.3)
asked d (bodies.Change (requests.Undo seq)) (word, has) =
    word_read d words.Undo word ∙ ap (λ r. r >>= λ seq. Ok (bodies.Change (requests.Undo seq))) (seq_read d seq has)
asked d (bodies.Change requests.Redo) word = word_read d words.Redo word
asked d (bodies.Get name) (word, named) =
    word_read d words.Get word ∙ ap (λ r. r >>= λ name. Ok (bodies.Get name)) (el_read d name named)
asked d bodies.Map word = word_read d words.Map word
asked d bodies.Undos word = word_read d words.Undos word
asked d (bodies.Hello room name) (word, at, named) =
    word_read d words.Hello word ∙ two {C = Body} (λ x y. bodies.Hello x y) (author_at fields.Room d) (author_at fields.Name d) room name (author_read d fields.Room room at) (author_read d fields.Name name named)

pub message_spelled : (text : List ℕ) (d : Data) (message : Incoming) → read text ≡ Some d → IsMessage d message → spells text ≡ Ok message
message_spelled text d message tree (id, asks) =
    spells-body text d message.id tree (id_read d message.id id) ∙ ap (under incoming message.id) (asked d message.body asks)
