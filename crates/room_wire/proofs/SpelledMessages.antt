-- A message that a text spells is well formed in the text's tree.
use Rattle.std.proofs.Common.{◌≡◌, ◌&&◌, ◌+◌, All, ℕ, suc, Bool, true, false, not, cond, List, [], ◌∷◌, length, map, Option, Some, None, IfSome, Result, Ok, Err, IfOk, codes, is_some, nat_le, refl, ◌∙◌, inl, inr, ap, subst, sym, arith, option_map, option_and_then, bytes_eq}
use Rattle.std.proofs.lemmas.Bool.Decides.{nat_tests}
use Rattle.std.proofs.lemmas.Slice.Eq.{bytes_eq-Decides}
use Rattle.serde_json.specs.Data.{Data, string, array, object, Items, no_items, item, Members as ObjectMembers}
use Rattle.serde_json.specs.Events.{items_len}
use Rattle.serde_json.specs.Find.{get, as_array, as_i64, as_number, as_object, as_str, as_u64}
use Rattle.serde_json.specs.Read.{read}
use Rattle.serde_json.specs.View.{items_of}
use Rattle.room_wire.specs.Prelude.{Global, latitude_of, longitude_of, Name, Kind, kind_of, name_of, AreTagRows, is_long, is_none_or, AreGiven, Action, Edit, is_group_length, author_of, is_author, Fault, BadField, BadId, NotObject, UnknownDo, Field, El, Els, Lat, Lon, Nodes, Members, Tags, Dlat, Dlon, At, Into, With, Actions, Seq, Since, Incoming, Body, field_text, HasId, or_fault, under, action_at, actions_at, action_by, actions_from, are_objects, edit_by, group_at, group_of, with_position, word_at, author_at, body_at, body_by, by_id, change_by, count_of, distance_at, el_at, element_at, els_at, given_tags_at, given_tags_of, given_of, id_at, incoming, is_edit_word, items_in, lat_at, lon_at, member_of, members_at, message_of, name_at, name_item, node_of, nodes_at, ordinal, place_at, place_of, seq_at, seq_from, since_at, since_from, spells, tags_at, tags_from, tags_of, text_at, value_of, id_tree, member_tree, name_tree, tags_tree, whole, Asks, AskActions, AsksAction, HasGroup, Has, HasAuthor, HasDistance, HasElement, HasGivenTags, HasMembers, HasName, HasNameAt, HasNames, HasNodes, HasPlace, HasSeq, HasSince, HasTags, HasText, HasWord, IsMessage, MessageId, given_tree, given_tags_tree, Word, word_text}
use Rattle.room_wire.specs.Reading.{◌>>=◌}
use Rattle.room_wire.proofs.FaultProofs.{number_of_count, number_of_ordinal}
use Rattle.room_wire.proofs.Found.{if_found, if_map, if_more, if_passes, if_then, ok_if, ok_more, ok_or, ok_then, told_so}
use Rattle.room_wire.proofs.TreesInOrder.{AreInOrder, IsInOrder, get_in_order, read_in_order}
use Rattle.room_wire.proofs.SpelledForms.{IsInteger, IsNamed, IsNode, IsShort, IsSorted, array_found, given_found, integer_found, items_found, member_found, name_found, name_item_found, node_found, object_found, object_read, roles_are_short, string_found, value_found, whole_found}
use Rattle.osm_elements.specs.declared.name.Kind.TheVariants as kinds
use Rattle.room_interface.specs.declared.action.Action.TheVariants as actions
use Rattle.room_interface.specs.declared.call.Request.TheVariants as requests
use Rattle.room_wire.specs.declared.field.Field.TheVariants as fields
use Rattle.room_wire.specs.declared.incoming.Body.TheVariants as bodies
use Rattle.room_wire.specs.Words as words

-- ---- the fields

-- a field whose text is read as a value
text_field : {X : Type 0} (P : X → Type 0) (d : Data) (field : Field) (reading : List ℕ → Option X) → ((s : List ℕ) → Has d field (string s) → IfSome (reading s) P)
    → IfOk (or_fault (BadField field) (option_and_then reading (text_at field d))) P
text_field P d field reading each =
    ok_or P (BadField field) (option_and_then reading (text_at field d))
    (if_then (λ s. Has d field (string s)) P (text_at field d) reading (string_found (get (field_text field) d)) each)

text_has : {X : Type 0} (d : Data) (field : Field) (reading : List ℕ → Option X) → IfOk (or_fault (BadField field) (option_and_then reading (text_at field d))) (HasText d field reading)
text_has d field reading = text_field (HasText d field reading) d field reading (λ s has. if_found (HasText d field reading) (reading s) (λ x is. (s, has, is)))

name_has : (d : Data) (field : Field) → IfOk (name_at field d) (HasNameAt d field)
name_has d field = text_field (HasNameAt d field) d field name_of (λ s has. if_more (IsNamed s) (HasNameAt d field) (name_of s) (name_found s) (λ n named. (has ∙ ap Some named.0, named.1)))

author_has : (d : Data) (field : Field) → IfOk (author_at field d) (HasAuthor d field)
author_has d field = text_field (HasAuthor d field) d field author_of (λ s has. if_passes (HasAuthor d field) (is_author s) (Some s) (λ is. (has, is)))

-- a field whose tree is read as a value
field_has : {X : Type 0} (P : X → Type 0) (fault : Fault) (reading : Data → Option X) (o : Option Data) → ((v : Data) → o ≡ Some v → IfSome (reading v) P) → IfOk (or_fault fault (option_and_then reading o)) P
field_has P fault reading o each = ok_or P fault (option_and_then reading o) (if_then (λ v. o ≡ Some v) P o reading (if_found (λ v. o ≡ Some v) o (λ v is. is)) each)

place_has : (d : Data) → IfOk (place_at d) (HasPlace d)
place_has d = field_has (HasPlace d) (BadField At) place_of (get (field_text At) d) (λ v has.
    if_then (λ n. v ≡ whole n) (HasPlace d) (option_and_then as_u64 (as_number v)) _ (whole_found v)
    (λ n is. if_passes (HasPlace d) (nat_le n 4294967295) (Some n) (λ low. (has ∙ ap Some is, grind (arith, nat_tests)))))

seq_has : (d : Data) → IfOk (seq_at d) (HasSeq d)
seq_has d = by (get (field_text Seq) d) refl
  where
    by : (o : Option Data) → get (field_text Seq) d ≡ o → IfOk (seq_from o) (HasSeq d)
    by None e = e
    by (Some v) e = ok_or (HasSeq d) (BadField Seq) (option_map Some (ordinal v)) (if_map (HasSeq d) Some (ordinal v)
        (if_found (λ n. HasSeq d (Some n)) (ordinal v) (λ n is. let number = number_of_ordinal v n is in (e ∙ ap Some number.0, number.1))))

since_has : (d : Data) → IfOk (since_at d) (HasSince d)
since_has d = by (get (field_text Since) d) refl
  where
    by : (o : Option Data) → get (field_text Since) d ≡ o → IfOk (since_from o) (HasSince d)
    by None e = e
    by (Some v) e = ok_or (HasSince d) (BadField Since) (option_map Some (count_of v)) (if_map (HasSince d) Some (count_of v)
        (if_found (λ n. HasSince d (Some n)) (count_of v) (λ n is. let count = number_of_count v n is in (e ∙ ap Some count.0, count.1))))

module _ (d : Data) (h : IsInOrder d) where
  at_field : (field : Field) → IfSome (get (field_text field) d) IsInOrder
  at_field field = get_in_order (field_text field) d h

  distance_has : (field : Field) → IfOk (distance_at field d) (HasDistance d field)
  distance_has field = by (get (field_text field) d) refl (at_field field)
    where
      by : (o : Option Data) → get (field_text field) d ≡ o → IfSome o IsInOrder → IfOk (or_fault (BadField field) (option_and_then as_i64 (option_and_then as_number o))) (HasDistance d field)
      by None e g = tt
      by (Some v) e g = ok_or (HasDistance d field) (BadField field) (option_and_then as_i64 (as_number v))
          (if_more (IsInteger v) (HasDistance d field) (option_and_then as_i64 (as_number v)) (integer_found v g) (λ z is. (e ∙ ap Some is.0, is.1)))

  -- an array, each item of which is read as a value
  list_has : {X : Type 0} (tree : X → Data) (reading : Data → Option X) (Keeps : X → Type 0) (field : Field) → ((v : Data) → IsInOrder v → IfSome (reading v) (λ x. (v ≡ tree x) × Keeps x))
      → IfOk (or_fault (BadField field) (option_and_then (items_in reading) (option_and_then as_array (get (field_text field) d)))) (λ xs. Has d field (array (items_of (map tree xs))) × All Keeps xs)
  list_has {X = X} tree reading Keeps field each =
      let P : List X → Type 0 = λ xs. Has d field (array (items_of (map tree xs))) × All Keeps xs in
      let found : Option Items = option_and_then as_array (get (field_text field) d) in
      ok_or P (BadField field) (option_and_then (items_in reading) found)
      (if_then (λ ds. Has d field (array ds) × AreInOrder ds) P found (items_in reading) (array_found (get (field_text field) d) (at_field field))
      (λ ds has. if_more (λ xs. (ds ≡ items_of (map tree xs)) × All Keeps xs) P (items_in reading ds) (items_found tree reading Keeps each ds has.1)
      (λ xs is. (has.0 ∙ ap (λ ds. Some (array ds)) is.0, is.1))))

  names_has : IfOk (els_at d) (HasNames d)
  names_has = list_has name_tree name_item HasId Els (λ v g. name_item_found v)

  nodes_has : IfOk (nodes_at d) (HasNodes d)
  nodes_has =
      ok_more (λ ns. Has d Nodes (array (items_of (map id_tree ns))) × All IsNode ns) (HasNodes d) (nodes_at d)
      (list_has id_tree node_of IsNode Nodes node_found)
      (λ ns has. (has.0, (λ k n l. (has.1 k n l).0), (λ k n l. (has.1 k n l).1)))

  members_has : IfOk (members_at d) (HasMembers d)
  members_has =
      ok_more (λ ms. Has d Members (array (items_of (map member_tree ms))) × All IsShort ms) (HasMembers d) (members_at d)
      (list_has member_tree member_of IsShort Members (λ v g. member_found v))
      (λ ms has. (has.0, roles_are_short ms has.1, (λ k m l. (has.1 k m l).0)))

  tags_has : IfOk (tags_at d) (HasTags d)
  tags_has = by (get (field_text Tags) d) refl (at_field Tags)
    where
      by : (o : Option Data) → get (field_text Tags) d ≡ o → IfSome o IsInOrder → IfOk (tags_from o) (HasTags d)
      by None e g = inr (e, refl)
      by (Some v) e g = ok_or (HasTags d) (BadField Tags) (option_and_then tags_of (as_object v))
          (if_then (λ ms. (Some v ≡ Some (object ms)) × IsSorted ms) (HasTags d) (as_object v) tags_of (object_found (Some v) g)
          (λ ms is. if_more (λ ts. (object ms ≡ tags_tree ts) × AreTagRows ts) (HasTags d) (tags_of ms) (object_read string value_of (λ v. not (is_long v)) value_found ms is.1)
          (λ ts tags. inl (e ∙ is.0 ∙ ap Some tags.0, tags.1))))

  given_tags_has : IfOk (given_tags_at d) (HasGivenTags d)
  given_tags_has =
      let found : Option ObjectMembers = option_and_then as_object (get (field_text Tags) d) in
      ok_or (HasGivenTags d) (BadField Tags) (option_and_then given_tags_of found)
      (if_then (λ ms. Has d Tags (object ms) × IsSorted ms) (HasGivenTags d) found given_tags_of (object_found (get (field_text Tags) d) (at_field Tags))
      (λ ms has. if_more (λ given. (object ms ≡ given_tags_tree given) × AreGiven given) (HasGivenTags d) (given_tags_of ms) (object_read given_tree given_of (is_none_or (λ v. not (is_long v))) given_found ms has.1)
      (λ given is. (has.0 ∙ ap Some is.0, is.1))))

  -- ---- what a message asks for

  element_has : (kind : Kind) → IfOk (element_at kind d) (λ element. HasElement d element × (kind_of element ≡ kind))
  element_has kinds.Node =
      ok_then (HasText d Lat latitude_of) _ (lat_at d) _ (text_has d Lat latitude_of) (λ lat at.
      ok_then (HasText d Lon longitude_of) _ (lon_at d) _ (text_has d Lon longitude_of) (λ lon on.
      ok_then (HasTags d) _ (tags_at d) _ tags_has (λ tags has. ((at, on, has), refl))))
  element_has kinds.Way =
      ok_then (HasNodes d) _ (nodes_at d) _ nodes_has (λ nodes list. ok_then (HasTags d) _ (tags_at d) _ tags_has (λ tags has. ((list, has), refl)))
  element_has kinds.Relation =
      ok_then (HasMembers d) _ (members_at d) _ members_has (λ members list. ok_then (HasTags d) _ (tags_at d) _ tags_has (λ tags has. ((list, has), refl)))

  abbrev IsAction : Action Global → Type 0
  IsAction action = AsksAction d action

  -- an action with a name, and actions with one or two more fields
  named_has : (P : Action Global → Type 0) (action : Name → Action Global) → ((name : Name) → HasName d name → P (action name)) → IfOk (el_at d >>= λ name. Ok (action name)) P
  named_has P action asks = ok_then (HasName d) P (el_at d) _ (name_has d El) asks

  pair_has : {X : Type 0} (P : Action Global → Type 0) (action : Name → X → Action Global) (r : Result X Fault) (Q : X → Type 0) → IfOk r Q → ((name : Name) (x : X) → HasName d name → Q x → P (action name x))
      → IfOk (el_at d >>= λ name. r >>= λ x. Ok (action name x)) P
  pair_has P action r Q has asks = ok_then (HasName d) P (el_at d) _ (name_has d El) (λ name named. ok_then Q P r _ has (λ x is. asks name x named is))

  placed_has : (P : Action Global → Type 0) (action : Name → ℕ → Name → Action Global) → ((name : Name) (place : ℕ) (into : Name) → HasName d name → HasPlace d place → HasNameAt d Into into → P (action name place into))
      → IfOk (el_at d >>= λ name. place_at d >>= λ place. name_at Into d >>= λ into. Ok (action name place into)) P
  placed_has P action asks =
      ok_then (HasName d) P (el_at d) _ (name_has d El) (λ name named. ok_then (HasPlace d) P (place_at d) _ (place_has d)
      (λ place at. ok_then (HasNameAt d Into) P (name_at Into d) _ (name_has d Into) (λ into new. asks name place into named at new)))

  -- the word that a branch tests
  ok_word : {X : Type 0} (P : X → Type 0) (text : List ℕ) (word : Word) (r s : Result X Fault) → (text ≡ word_text word → IfOk r P) → IfOk s P → IfOk (cond (bytes_eq text (word_text word)) r s) P
  ok_word P text word r s h g = by (bytes_eq text (word_text word)) refl
    where
      by : (b : Bool) → bytes_eq text (word_text word) ≡ b → IfOk (cond b r s) P
      by true e = h ((bytes_eq-Decides text (word_text word)).0 e)
      by false e = g

  module _ (text : List ℕ) (has : get (codes "do") d ≡ Some (string text)) where
    by_word : (word : Word) → text ≡ word_text word → HasWord d word
    by_word word e = has ∙ ap (λ t. Some (string t)) e

    action_has : IfOk (action_by text d) IsAction
    action_has =
        ok_word IsAction text words.Create _ _ (λ e. ok_then (HasName d) IsAction (el_at d) _ (name_has d El) (λ name named.
        ok_then (λ element. HasElement d element × (kind_of element ≡ name.kind)) IsAction (element_at name.kind d) _ (element_has name.kind) (λ element is. (by_word words.Create e, named, is.0, is.1))))
        (ok_word IsAction text words.Retag _ _ (λ e. pair_has IsAction (λ name given. actions.Retag name given) (given_tags_at d) (HasGivenTags d) given_tags_has (λ name given named is. (by_word words.Retag e, named, is)))
        (ok_word IsAction text words.Move _ _ (λ e. ok_then (HasNames d) IsAction (els_at d) _ names_has (λ names are.
        ok_then (HasDistance d Dlat) IsAction (distance_at Dlat d) _ (distance_has Dlat) (λ dlat north. ok_then (HasDistance d Dlon) IsAction (distance_at Dlon d) _ (distance_has Dlon) (λ dlon east. (by_word words.Move e, are, north, east)))))
        (ok_word IsAction text words.Reverse _ _ (λ e. named_has IsAction (λ name. actions.Reverse name) (λ name named. (by_word words.Reverse e, named)))
        (ok_word IsAction text words.Nodes _ _ (λ e. pair_has IsAction (λ name list. actions.Nodes name list) (nodes_at d) (HasNodes d) nodes_has (λ name list named is. (by_word words.Nodes e, named, is)))
        (ok_word IsAction text words.Members _ _ (λ e. pair_has IsAction (λ name list. actions.Members name list) (members_at d) (HasMembers d) members_has (λ name list named is. (by_word words.Members e, named, is)))
        (ok_word IsAction text words.Delete _ _ (λ e. named_has IsAction (λ name. actions.Delete name) (λ name named. (by_word words.Delete e, named)))
        (ok_word IsAction text words.Purge _ _ (λ e. named_has IsAction (λ name. actions.Purge name) (λ name named. (by_word words.Purge e, named)))
        (ok_word IsAction text words.Split _ _ (λ e. placed_has IsAction (λ name place into. actions.Split name place into) (λ name place into named at new. (by_word words.Split e, named, at, new)))
        (ok_word IsAction text words.Join _ _ (λ e. pair_has IsAction (λ name other. actions.Join name other) (name_at With d) (HasNameAt d With) (name_has d With) (λ name other named is. (by_word words.Join e, named, is)))
        (ok_word IsAction text words.Merge _ _ (λ e. pair_has IsAction (λ name other. actions.Merge name other) (name_at With d) (HasNameAt d With) (name_has d With) (λ name other named is. (by_word words.Merge e, named, is)))
        (ok_word IsAction text words.Unglue _ _ (λ e. placed_has IsAction (λ name place into. actions.Unglue name place into) (λ name place into named at new. (by_word words.Unglue e, named, at, new))) tt)))))))))))

  -- the word of a message
  word_has : IfOk (word_at d) (λ text. get (codes "do") d ≡ Some (string text))
  word_has = ok_or (λ text. get (codes "do") d ≡ Some (string text)) UnknownDo (option_and_then as_str (get (codes "do") d)) (string_found (get (codes "do") d))

  action_at_has : IfOk (action_at d) IsAction
  action_at_has = ok_then (λ text. get (codes "do") d ≡ Some (string text)) IsAction (word_at d) _ word_has action_has

-- ---- the actions of a group

positioned : {X : Type 0} (P : X → Type 0) (k : ℕ) (r : Result X Fault) → IfOk r P → IfOk (with_position k r) P
positioned P k (Ok x) h = h
positioned P k (Err fault) h = tt

actions_have : (k : ℕ) (ds : Items) → AreInOrder ds → IfOk (actions_from k ds) (AskActions ds)
actions_have k no_items h = tt
actions_have k (item d ds) h =
    ok_then (AsksAction d) (AskActions (item d ds)) (with_position k (action_at d)) _ (positioned (AsksAction d) k (action_at d) (action_at_has d h.0)) (λ a asks.
    ok_then (AskActions ds) (AskActions (item d ds)) (actions_from (k + 1) ds) _ (actions_have (k + 1) ds h.1) (λ more others. (asks, others)))

as_many : (ds : Items) (group : List (Action Global)) → AskActions ds group → items_len ds ≡ length group
as_many no_items [] asks = refl
as_many (item d ds) (a ∷ more) asks = ap suc (as_many ds more asks.1)
as_many no_items (a ∷ more) asks = absurd asks
as_many (item d ds) [] asks = absurd asks

abbrev IsItems : Data → Items → Type 0
IsItems d ds = Has d Actions (array ds) × AreInOrder ds × (is_group_length (items_len ds) ≡ true)

first_true : (a b : Bool) → (a && b) ≡ true → a ≡ true
first_true true b e = refl
first_true false b e = e

group_items_have : (d : Data) → IsInOrder d → IfOk (group_at d) (IsItems d)
group_items_have d h =
    let found : Option Items = option_and_then as_array (get (field_text Actions) d) in
    ok_or (IsItems d) (BadField Actions) (option_and_then group_of found)
    (if_then (λ ds. Has d Actions (array ds) × AreInOrder ds) (IsItems d) found group_of (array_found (get (field_text Actions) d) (get_in_order (field_text Actions) d h))
    (λ ds has. if_passes (IsItems d) (is_group_length (items_len ds) && are_objects ds) (Some ds) (λ e. (has.0, has.1, first_true (is_group_length (items_len ds)) (are_objects ds) e))))

group_has : (d : Data) → IsInOrder d → IfOk (actions_at d) (HasGroup d)
group_has d h =
    ok_then (IsItems d) (HasGroup d) (group_at d) _ (group_items_have d h) (λ ds is.
    ok_more (AskActions ds) (HasGroup d) (actions_from 0 ds) (actions_have 0 ds is.1) (λ group asks.
    (ds, is.0, sym (ap is_group_length (as_many ds group asks)) ∙ is.2, asks)))

module _ (d : Data) (h : IsInOrder d) where
  module _ (text : List ℕ) (has : get (codes "do") d ≡ Some (string text)) where
    edit_has : (since : Option ℕ) → HasSince d since → IfOk (edit_by text d) (λ edit. Asks d (bodies.Change (requests.Do edit since)))
    edit_has since seen =
        let P : Edit Global → Type 0 = λ edit. Asks d (bodies.Change (requests.Do edit since)) in
        ok_word d h P text words.Group _ _
        (λ e. ok_then (HasGroup d) P (actions_at d) _ (group_has d h) (λ group is. (seen, by_word d h text has words.Group e, is)))
        (ok_then (AsksAction d) P (action_by text d) _ (action_has d h text has) (λ action asks. (seen, asks)))

    change_has : IfOk (change_by text d) (Asks d)
    change_has =
        ok_then (HasSince d) (Asks d) (since_at d) _ (since_has d) (λ since seen.
        ok_then (λ edit. Asks d (bodies.Change (requests.Do edit since))) (Asks d) (edit_by text d) _ (edit_has since seen) (λ edit asks. asks))

    body_has : IfOk (body_by text d) (Asks d)
    body_has =
        ok_word d h (Asks d) text words.Hello _ _ (λ e. ok_then (HasAuthor d fields.Room) (Asks d) (author_at fields.Room d) _ (author_has d fields.Room) (λ room at.
        ok_then (HasAuthor d fields.Name) (Asks d) (author_at fields.Name d) _ (author_has d fields.Name) (λ name named. (by_word d h text has words.Hello e, at, named))))
        (ok_word d h (Asks d) text words.Undo _ _ (λ e. ok_then (HasSeq d) (Asks d) (seq_at d) _ (seq_has d) (λ seq is. (by_word d h text has words.Undo e, is)))
        (ok_word d h (Asks d) text words.Redo _ _ (λ e. by_word d h text has words.Redo e)
        (ok_word d h (Asks d) text words.Undos _ _ (λ e. by_word d h text has words.Undos e)
        (ok_word d h (Asks d) text words.Get _ _ (λ e. ok_then (HasName d) (Asks d) (el_at d) _ (name_has d El) (λ name named. (by_word d h text has words.Get e, named)))
        (ok_word d h (Asks d) text words.Map _ _ (λ e. by_word d h text has words.Map e)
        (ok_if (Asks d) (is_edit_word text) (change_by text d) (Err UnknownDo) change_has tt))))))

  body_at_has : IfOk (body_at d) (Asks d)
  body_at_has = ok_then (λ text. get (codes "do") d ≡ Some (string text)) (Asks d) (word_at d) _ (word_has d h) body_has

  id_has : IfOk (id_at d) (MessageId d)
  id_has = by (is_some (as_object d))
    where
      by : (b : Bool) → IfOk (cond b (or_fault BadId (option_and_then ordinal (get (codes "id") d))) (Err NotObject)) (MessageId d)
      by false = tt
      by true = field_has (MessageId d) BadId ordinal (get (codes "id") d) (λ v has. if_found (MessageId d) (ordinal v) (λ n is. let number = number_of_ordinal v n is in (has ∙ ap Some number.0, number.1)))

  pub message_has : IfOk (message_of (Some d)) (IsMessage d)
  message_has = by (id_at d) id_has
    where
      under_id : (id : ℕ) (r : Result Body Fault) → MessageId d id → IfOk r (Asks d) → IfOk (under incoming id r) (IsMessage d)
      under_id id (Ok body) has asks = (has, asks)
      under_id id (Err fault) has asks = tt

      by : (r : Result ℕ Fault) → IfOk r (MessageId d) → IfOk (by_id incoming body_at r d) (IsMessage d)
      by (Ok id) has = under_id id (body_at d) has body_at_has
      by (Err fault) has = tt

-- a tree that is read has its keys in order
in_order_of : (text : List ℕ) (d : Data) → read text ≡ Some d → IsInOrder d
in_order_of text d tree = subst (λ o. IfSome o IsInOrder) tree (read_in_order text)

pub message_found : (text : List ℕ) (d : Data) (message : Incoming) → read text ≡ Some d → spells text ≡ Ok message → IsMessage d message
message_found text d message tree spelled = told_so (IsMessage d) (message_of (Some d)) message (sym (ap message_of tree) ∙ spelled) (message_has d (in_order_of text d tree))
