-- No text spells the fault `Memory`.
use Rattle.std.proofs.Common.{◌≡◌, ◌≢◌, ◌+◌, ℕ, List, Bool, true, false, cond, Option, Some, None, Result, Ok, Err, IfErr, codes, is_some, refl, sym, ◌∙◌, option_and_then, bytes_eq}
use Rattle.serde_json.specs.Data.{Data, Items, no_items, item}
use Rattle.serde_json.specs.Find.{get, as_str, as_object}
use Rattle.serde_json.specs.Read.{read}
use Rattle.room_wire.specs.Prelude.{field_text, Kind, Redo, Fault, Memory, NotJson, BadField, NotObject, BadId, UnknownDo, UnknownAction, BadActionField, Body, Change, Map, Undos, Field, El, Els, Lat, Lon, Nodes, Members, Tags, Dlat, Dlon, At, Into, With, Actions, Seq, Since, or_fault, under, action_at, actions_at, actions_from, at_action, change_by, edit_by, group_at, with_position, spells, is_edit_word, ordinal, word_at, message_of, by_id, incoming, id_at, body_at, body_by, action_by, create_at, retag_at, move_at, relist_way_at, relist_relation_at, split_at, join_at, merge_at, unglue_at, element_at, name_at, place_at, el_at, els_at, distance_at, lat_at, lon_at, nodes_at, members_at, tags_at, tags_from, given_tags_at, seq_at, seq_from, since_at, since_from, author_at, hello_at}
use Rattle.room_wire.specs.Reading.{◌>>=◌}
use Rattle.osm_elements.specs.declared.name.Kind.TheVariants as kinds
use Rattle.room_wire.specs.declared.field.Field.TheVariants as fields

Fine : {X : Type 0} → Result X Fault → Type 0
Fine r = IfErr r (λ f. f ≢ Memory)

fine_or : {X : Type 0} (fault : Fault) (found : Option X) → fault ≢ Memory → Fine (or_fault fault found)
unfolding Fine
fine_or fault None h = h
fine_or fault (Some x) h = tt

fine_then : {A B : Type 0} (r : Result A Fault) (f : A → Result B Fault) → Fine r → ((x : A) → Fine (f x)) → Fine (r >>= f)
unfolding Fine
fine_then (Ok x) f h g = g x
fine_then (Err e) f h g = h

fine_if : {X : Type 0} (b : Bool) (r s : Result X Fault) → Fine r → Fine s → Fine (cond b r s)
fine_if true r s h g = h
fine_if false r s h g = g

fine_ok : {X : Type 0} (x : X) → Fine (Ok x)
unfolding Fine
fine_ok x = tt

name_is_fine : (field : Field) (d : Data) → Fine (name_at field d)
name_is_fine field d = fine_or (BadField field) _ (λ e. cc)

el_is_fine : (d : Data) → Fine (el_at d)
el_is_fine d = name_is_fine El d

tags_are_fine : (found : Option Data) → Fine (tags_from found)
tags_are_fine None = fine_ok _
tags_are_fine (Some d) = fine_or (BadField Tags) _ (λ e. cc)

seq_is_fine : (found : Option Data) → Fine (seq_from found)
seq_is_fine None = fine_ok _
seq_is_fine (Some d) = fine_or (BadField Seq) _ (λ e. cc)

since_is_fine : (found : Option Data) → Fine (since_from found)
since_is_fine None = fine_ok _
since_is_fine (Some d) = fine_or (BadField Since) _ (λ e. cc)

err_is_fine : {X : Type 0} (fault : Fault) (r : Result X Fault) → r ≡ Err fault → fault ≢ Memory → Fine r
unfolding Fine
err_is_fine fault (Ok x) e h = tt
err_is_fine fault (Err f) e h = λ m. h (let same : f ≡ fault = cc in sym same ∙ m)

element_is_fine : (kind : Kind) (d : Data) → Fine (element_at kind d)
element_is_fine kinds.Node d =
    fine_then (lat_at d) _ (fine_or (BadField Lat) _ (λ e. cc)) (λ lat. fine_then (lon_at d) _ (fine_or (BadField Lon) _ (λ e. cc))
    (λ lon. fine_then (tags_at d) _ (tags_are_fine (get (field_text Tags) d)) (λ tags. fine_ok _)))
element_is_fine kinds.Way d = fine_then (nodes_at d) _ (fine_or (BadField Nodes) _ (λ e. cc)) (λ nodes. fine_then (tags_at d) _ (tags_are_fine (get (field_text Tags) d)) (λ tags. fine_ok _))
element_is_fine kinds.Relation d = fine_then (members_at d) _ (fine_or (BadField Members) _ (λ e. cc)) (λ members. fine_then (tags_at d) _ (tags_are_fine (get (field_text Tags) d)) (λ tags. fine_ok _))

create_is_fine : (d : Data) → Fine (create_at d)
create_is_fine d = fine_then (el_at d) _ (el_is_fine d) (λ name. fine_then (element_at name.kind d) _ (element_is_fine name.kind d) (λ element. fine_ok _))

given_tags_are_fine : (d : Data) → Fine (given_tags_at d)
given_tags_are_fine d = fine_or (BadField Tags) _ (λ e. cc)

distance_is_fine : (field : Field) (d : Data) → Fine (distance_at field d)
distance_is_fine field d = fine_or (BadField field) _ (λ e. cc)

retag_is_fine : (d : Data) → Fine (retag_at d)
retag_is_fine d = fine_then (el_at d) _ (el_is_fine d) (λ name. fine_then (given_tags_at d) _ (given_tags_are_fine d) (λ given. fine_ok _))

move_is_fine : (d : Data) → Fine (move_at d)
move_is_fine d =
    fine_then (els_at d) _ (fine_or (BadField Els) _ (λ e. cc)) (λ names. fine_then (distance_at Dlat d) _ (distance_is_fine Dlat d)
    (λ dlat. fine_then (distance_at Dlon d) _ (distance_is_fine Dlon d) (λ dlon. fine_ok _)))

relist_way_is_fine : (d : Data) → Fine (relist_way_at d)
relist_way_is_fine d = fine_then (el_at d) _ (el_is_fine d) (λ name. fine_then (nodes_at d) _ (fine_or (BadField Nodes) _ (λ e. cc)) (λ list. fine_ok _))

relist_relation_is_fine : (d : Data) → Fine (relist_relation_at d)
relist_relation_is_fine d = fine_then (el_at d) _ (el_is_fine d) (λ name. fine_then (members_at d) _ (fine_or (BadField Members) _ (λ e. cc)) (λ list. fine_ok _))

split_is_fine : (d : Data) → Fine (split_at d)
split_is_fine d =
    fine_then (el_at d) _ (el_is_fine d) (λ name. fine_then (place_at d) _ (fine_or (BadField At) _ (λ e. cc))
    (λ place. fine_then (name_at Into d) _ (name_is_fine Into d) (λ into. fine_ok _)))

join_is_fine : (d : Data) → Fine (join_at d)
join_is_fine d = fine_then (el_at d) _ (el_is_fine d) (λ name. fine_then (name_at With d) _ (name_is_fine With d) (λ other. fine_ok _))

merge_is_fine : (d : Data) → Fine (merge_at d)
merge_is_fine d = fine_then (el_at d) _ (el_is_fine d) (λ name. fine_then (name_at With d) _ (name_is_fine With d) (λ other. fine_ok _))

unglue_is_fine : (d : Data) → Fine (unglue_at d)
unglue_is_fine d =
    fine_then (el_at d) _ (el_is_fine d) (λ name. fine_then (place_at d) _ (fine_or (BadField At) _ (λ e. cc))
    (λ place. fine_then (name_at Into d) _ (name_is_fine Into d) (λ into. fine_ok _)))

action_is_fine : (word : List ℕ) (d : Data) → Fine (action_by word d)
action_is_fine word d =
    fine_if (bytes_eq word (codes "create")) _ _ (create_is_fine d)
    (fine_if (bytes_eq word (codes "retag")) _ _ (retag_is_fine d)
    (fine_if (bytes_eq word (codes "move")) _ _ (move_is_fine d)
    (fine_if (bytes_eq word (codes "reverse")) _ _ (fine_then (el_at d) _ (el_is_fine d) (λ name. fine_ok _))
    (fine_if (bytes_eq word (codes "nodes")) _ _ (relist_way_is_fine d)
    (fine_if (bytes_eq word (codes "members")) _ _ (relist_relation_is_fine d)
    (fine_if (bytes_eq word (codes "delete")) _ _ (fine_then (el_at d) _ (el_is_fine d) (λ name. fine_ok _))
    (fine_if (bytes_eq word (codes "purge")) _ _ (fine_then (el_at d) _ (el_is_fine d) (λ name. fine_ok _))
    (fine_if (bytes_eq word (codes "split")) _ _ (split_is_fine d)
    (fine_if (bytes_eq word (codes "join")) _ _ (join_is_fine d)
    (fine_if (bytes_eq word (codes "merge")) _ _ (merge_is_fine d)
    (fine_if (bytes_eq word (codes "unglue")) _ _ (unglue_is_fine d) (err_is_fine UnknownDo _ refl (λ e. cc)))))))))))))

-- the actions of a group
position_is_fine : (k : ℕ) (fault : Fault) → fault ≢ Memory → at_action k fault ≢ Memory
position_is_fine k NotJson h = h
position_is_fine k NotObject h = h
position_is_fine k BadId h = h
position_is_fine k UnknownDo h = λ e. cc
position_is_fine k (BadField field) h = λ e. cc
position_is_fine k (UnknownAction j) h = h
position_is_fine k (BadActionField j field) h = h
position_is_fine k Memory h = h

positioned_is_fine : {X : Type 0} (k : ℕ) (r : Result X Fault) → Fine r → Fine (with_position k r)
unfolding Fine
positioned_is_fine k (Ok x) h = tt
positioned_is_fine k (Err fault) h = position_is_fine k fault h

action_at_is_fine : (d : Data) → Fine (action_at d)
action_at_is_fine d = fine_then (word_at d) (λ word. action_by word d) (fine_or UnknownDo (option_and_then as_str (get (codes "do") d)) (λ e. cc)) (λ word. action_is_fine word d)

actions_are_fine : (k : ℕ) (ds : Items) → Fine (actions_from k ds)
actions_are_fine k no_items = fine_ok _
actions_are_fine k (item d ds) =
    fine_then (with_position k (action_at d)) _ (positioned_is_fine k (action_at d) (action_at_is_fine d)) (λ action.
    fine_then (actions_from (k + 1) ds) _ (actions_are_fine (k + 1) ds) (λ later. fine_ok _))

edit_is_fine : (word : List ℕ) (d : Data) → Fine (edit_by word d)
edit_is_fine word d =
    fine_if (bytes_eq word (codes "group")) _ _
    (fine_then (actions_at d) _ (fine_then (group_at d) _ (fine_or (BadField Actions) _ (λ e. cc)) (λ ds. actions_are_fine 0 ds)) (λ group. fine_ok _))
    (fine_then (action_by word d) _ (action_is_fine word d) (λ action. fine_ok _))

change_is_fine : (word : List ℕ) (d : Data) → Fine (change_by word d)
change_is_fine word d = fine_then (since_at d) _ (since_is_fine (get (field_text Since) d)) (λ since. fine_then (edit_by word d) _ (edit_is_fine word d) (λ edit. fine_ok _))

author_is_fine : (field : Field) (d : Data) → Fine (author_at field d)
author_is_fine field d = fine_or (BadField field) _ (λ e. cc)

hello_is_fine : (d : Data) → Fine (hello_at d)
hello_is_fine d = fine_then (author_at fields.Room d) _ (author_is_fine fields.Room d) (λ room. fine_then (author_at fields.Name d) _ (author_is_fine fields.Name d) (λ name. fine_ok _))

body_is_fine : (word : List ℕ) (d : Data) → Fine (body_by word d)
body_is_fine word d =
    fine_if (bytes_eq word (codes "hello")) _ _ (hello_is_fine d)
    (fine_if (bytes_eq word (codes "undo")) _ _ (fine_then (seq_at d) _ (seq_is_fine (get (field_text Seq) d)) (λ seq. fine_ok _))
    (fine_if (bytes_eq word (codes "redo")) _ _ (fine_ok (Change Redo))
    (fine_if (bytes_eq word (codes "undos")) _ _ (fine_ok Undos)
    (fine_if (bytes_eq word (codes "get")) _ _ (fine_then (el_at d) _ (el_is_fine d) (λ name. fine_ok _))
    (fine_if (bytes_eq word (codes "map")) _ _ (fine_ok Map)
    (fine_if (is_edit_word word) _ _ (change_is_fine word d) (err_is_fine UnknownDo _ refl (λ e. cc))))))))

body_at_is_fine : (d : Data) → Fine (body_at d)
body_at_is_fine d = fine_then (word_at d) (λ word. body_by word d) (fine_or UnknownDo (option_and_then as_str (get (codes "do") d)) (λ e. cc)) (λ word. body_is_fine word d)

under_is_fine : (id : ℕ) (r : Result Body Fault) → Fine r → IfErr (under incoming id r) (λ bad. bad.fault ≢ Memory)
unfolding Fine
under_is_fine id (Ok body) h = tt
under_is_fine id (Err fault) h = h

message_is_fine : (r : Result ℕ Fault) (d : Data) → Fine r → IfErr (by_id incoming body_at r d) (λ bad. bad.fault ≢ Memory)
unfolding Fine
message_is_fine (Ok id) d h = under_is_fine id (body_at d) (body_at_is_fine d)
message_is_fine (Err fault) d h = h

id_is_fine : (d : Data) → Fine (id_at d)
id_is_fine d =
    fine_if (is_some (as_object d)) (or_fault BadId (option_and_then ordinal (get (codes "id") d))) (Err NotObject)
    (fine_or BadId (option_and_then ordinal (get (codes "id") d)) (λ e. cc)) (err_is_fine NotObject _ refl (λ e. cc))

of_tree : (found : Option Data) → IfErr (message_of found) (λ bad. bad.fault ≢ Memory)
of_tree None = λ e. cc
of_tree (Some d) = message_is_fine (id_at d) d (id_is_fine d)

pub spells_is_never_memory : (text : List ℕ) → IfErr (spells text) (λ bad. bad.fault ≢ Memory)
spells_is_never_memory text = of_tree (read text)
