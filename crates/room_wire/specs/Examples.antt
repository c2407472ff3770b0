-- Worked examples for the definitions of messages, replies and elements.
use Rattle.std.specs.Prelude.{◌≡◌, ℕ, pos, negsuc, [], ◌∷◌, Option, Some, None, Result, Ok, Err, codes}
use Rattle.serde_json.specs.Data.{Data}
use Rattle.serde_json.specs.Written.{compact_text}
use Rattle.room_interface.specs.Prelude.{Global, named}
use Rattle.osm_elements.specs.declared.name.Name.{Name}
use Rattle.osm_elements.specs.declared.element.Element.{Element}
use Rattle.osm_elements.specs.declared.element.Element.TheVariants.{Node, Way, Relation}
use Rattle.room_interface.specs.declared.edit.Edit.{Edit}
use Rattle.room_interface.specs.declared.edit.Edit.TheVariants.{One, Group}
use Rattle.room_interface.specs.declared.refusal.Refusal.{Refusal}
use Rattle.room_interface.specs.declared.action.Action.TheVariants.{Create, Delete}
use Rattle.room_interface.specs.declared.call.Request.TheVariants.{Do, Undo, Redo}
use Rattle.room_interface.specs.declared.reply.Reply.{Reply}
use Rattle.room_wire.specs.declared.field.Field.TheVariants.{El, Els, Lat, Nodes, Members, Tags, Dlat, Dlon, At, Into, With, Actions, Seq, Since}
use Rattle.room_wire.specs.declared.bad.Bad.{Bad}
use Rattle.room_wire.specs.declared.bad.Fault.{Fault}
use Rattle.room_wire.specs.declared.bad.Fault.TheVariants.{NotJson, NotObject, BadId, UnknownDo, UnknownAction, BadField, BadActionField}
use Rattle.room_wire.specs.declared.incoming.Incoming.{Incoming}
use Rattle.room_wire.specs.declared.incoming.Body.{Body}
use Rattle.room_wire.specs.declared.incoming.Body.TheVariants.{Hello, Change, Get, Map, Undos}
use Rattle.room_wire.specs.Asked.{to_value}
use Rattle.room_wire.specs.Spelling.{spells}
use Rattle.room_wire.specs.Trees.{tree_of, element_tree, rows_tree}
use Rattle.osm_elements.specs.declared.name.Kind.TheVariants as kinds
use Rattle.room_interface.specs.declared.action.Action.TheVariants as actions
use Rattle.room_interface.specs.declared.refusal.Refusal.TheVariants as refusals
use Rattle.room_interface.specs.declared.reply.Reply.TheVariants as replies
use Rattle.room_wire.specs.declared.field.Field.TheVariants as fields
use Rattle.room_wire.specs.declared.answer.Answer.TheVariants as answers

abbrev pub n-1 : Name
n-1 = named kinds.Node (negsuc 0) tt

abbrev pub n7 : Name
n7 = named kinds.Node (pos 7) tt

abbrev pub w1 : Name
w1 = named kinds.Way (pos 1) tt

abbrev pub r-2 : Name
r-2 = named kinds.Relation (negsuc 1) tt

-- 51.5 degrees north and 0.1 degrees west
abbrev pub greenwich : Element Global
greenwich = Node (pos 515000000) (negsuc 999999) []

abbrev pub w9 : Name
w9 = named kinds.Way (pos 9) tt

abbrev pub asks : ℕ → Body → Result Incoming Bad
asks id body = Ok (record { id = id; body = body })

-- an edit whose author does not say what it had seen
abbrev pub does : Edit Global → Body
does edit = Change (Do edit None)

abbrev pub fails : ℕ → Fault → Result Incoming Bad
fails id fault = Err (record { id = id; fault = fault })

-- one message of each word; some have needless spaces and members, or a repeated key, whose last value counts
unfoldable pub reads_messages : Type 0
reads_messages =
    (spells (codes "{\"id\":1,\"do\":\"create\",\"el\":\"n-1\",\"lat\":\"51.5\",\"lon\":\"-0.1\",\"tags\":{}}") ≡ asks 1 (does (One (Create n-1 greenwich))))
    × (spells (codes "{\"tags\": {\"b\": \"2\", \"a\": \"1\"}, \"nodes\": [-1, 7, -1], \"el\": \"w1\", \"x\": [null], \"do\": \"create\", \"id\": 2}")
    ≡ asks 2 (does (One (Create w1 (Way (n-1 ∷ n7 ∷ n-1 ∷ []) ((codes "a", codes "1") ∷ (codes "b", codes "2") ∷ []))))))
    × (spells (codes "{\"id\":2,\"do\":\"create\",\"el\":\"r-2\",\"members\":[[\"w1\",\"outer\"],[\"r-2\",\"\"],[\"w1\",\"outer\"]]}")
    ≡ asks 2 (does (One (Create r-2 (Relation ((w1, codes "outer") ∷ (r-2, []) ∷ (w1, codes "outer") ∷ []) [])))))
    × (spells (codes "{\"id\":2,\"do\":\"retag\",\"el\":\"r-2\",\"tags\":{\"b\":\"\",\"a\":null}}") ≡ asks 2 (does (One (actions.Retag r-2 ((codes "a", None) ∷ (codes "b", Some []) ∷ [])))))
    × (spells (codes "{\"id\":2,\"do\":\"move\",\"els\":[\"w1\",\"n7\",\"w1\"],\"dlat\":-1,\"dlon\":9223372036854775807}") ≡ asks 2 (does (One (actions.Move (w1 ∷ n7 ∷ w1 ∷ []) (negsuc 0) (pos 9223372036854775807)))))
    × (spells (codes "{\"id\":2,\"do\":\"move\",\"els\":[],\"dlat\":-9223372036854775808,\"dlon\":0}") ≡ asks 2 (does (One (actions.Move [] (negsuc 9223372036854775807) (pos 0)))))
    × (spells (codes "{\"id\":2,\"do\":\"reverse\",\"el\":\"n7\"}") ≡ asks 2 (does (One (actions.Reverse n7))))
    × (spells (codes "{\"id\":2,\"do\":\"nodes\",\"el\":\"w1\",\"nodes\":[7,-1,7]}") ≡ asks 2 (does (One (actions.Nodes w1 (n7 ∷ n-1 ∷ n7 ∷ [])))))
    × (spells (codes "{\"id\":2,\"do\":\"members\",\"el\":\"r-2\",\"members\":[[\"n7\",\"\"],[\"w1\",\"outer\"]]}") ≡ asks 2 (does (One (actions.Members r-2 ((n7, []) ∷ (w1, codes "outer") ∷ [])))))
    × (spells (codes "{\"id\":0,\"do\":\"delete\",\"el\":\"w1\",\"id\":3}") ≡ asks 3 (does (One (Delete w1))))
    × (spells (codes "{\"id\":2,\"do\":\"purge\",\"el\":\"r-2\"}") ≡ asks 2 (does (One (actions.Purge r-2))))
    × (spells (codes "{\"id\":2,\"do\":\"split\",\"el\":\"w1\",\"at\":0,\"into\":\"w9\"}") ≡ asks 2 (does (One (actions.Split w1 0 w9))))
    × (spells (codes "{\"id\":2,\"do\":\"split\",\"el\":\"n7\",\"at\":4294967295,\"into\":\"n7\"}") ≡ asks 2 (does (One (actions.Split n7 4294967295 n7))))
    × (spells (codes "{\"id\":2,\"do\":\"join\",\"el\":\"w1\",\"with\":\"w9\"}") ≡ asks 2 (does (One (actions.Join w1 w9))))
    × (spells (codes "{\"id\":2,\"do\":\"merge\",\"el\":\"n7\",\"with\":\"n-1\"}") ≡ asks 2 (does (One (actions.Merge n7 n-1))))
    × (spells (codes "{\"id\":2,\"do\":\"unglue\",\"el\":\"w1\",\"at\":0,\"into\":\"n7\"}") ≡ asks 2 (does (One (actions.Unglue w1 0 n7))))
    × (spells (codes "{\"id\":7,\"do\":\"group\",\"actions\":[{\"do\":\"create\",\"el\":\"n-1\",\"lat\":\"51.5\",\"lon\":\"-0.1\"},{\"id\":3,\"do\":\"delete\",\"el\":\"w1\"}]}")
    ≡ asks 7 (does (Group (Create n-1 greenwich ∷ Delete w1 ∷ []))))
    × (spells (codes "{\"id\":2,\"do\":\"delete\",\"el\":\"w1\",\"since\":0}") ≡ asks 2 (Change (Do (One (Delete w1)) (Some 0))))
    × (spells (codes "{\"id\":7,\"do\":\"group\",\"since\":9007199254740991,\"actions\":[{\"do\":\"delete\",\"el\":\"w1\",\"since\":-1}]}")
    ≡ asks 7 (Change (Do (Group (Delete w1 ∷ [])) (Some 9007199254740991))))
    × (spells (codes "{\"id\":4,\"do\":\"undo\",\"since\":-1}") ≡ asks 4 (Change (Undo None)))
    × (spells (codes "{\"id\":4,\"do\":\"undo\",\"seq\":9}") ≡ asks 4 (Change (Undo (Some 9))))
    × (spells (codes "{\"id\":5,\"do\":\"undo\"}") ≡ asks 5 (Change (Undo None)))
    × (spells (codes "{\"seq\":null,\"do\":\"redo\",\"id\":5}") ≡ asks 5 (Change Redo))
    × (spells (codes "{\"name\":\"anna_2\",\"id\":6,\"do\":\"hello\",\"room\":\"paris\"}") ≡ asks 6 (Hello (codes "paris") (codes "anna_2")))
    × (spells (codes "{\"do\":\"undos\",\"seq\":9,\"id\":6}") ≡ asks 6 Undos)
    × (spells (codes "{\"id\":6,\"do\":\"get\",\"el\":\"n7\"}") ≡ asks 6 (Get n7))
    × (spells (codes "{\"id\":9007199254740991,\"do\":\"map\"}") ≡ asks 9007199254740991 Map)

-- faults of texts whose id is not read
unfoldable pub tells_no_id : Type 0
tells_no_id =
    (spells (codes "{\"id\":1,\"do\":\"cre") ≡ fails 0 NotJson)
    × (spells (codes "[1]") ≡ fails 0 NotObject)
    × (spells (codes "{\"do\":\"map\"}") ≡ fails 0 BadId)
    × (spells (codes "{\"id\":0,\"do\":\"map\"}") ≡ fails 0 BadId)
    × (spells (codes "{\"id\":9007199254740992,\"do\":\"map\"}") ≡ fails 0 BadId)
    × (spells (codes "{\"id\":18446744073709551616,\"do\":\"map\"}") ≡ fails 0 BadId)
    × (spells (codes "{\"id\":\"1\",\"do\":\"map\"}") ≡ fails 0 BadId)
    × (spells (codes "{\"id\":1.0,\"do\":\"map\"}") ≡ fails 0 BadId)
    × (spells (codes "{\"id\":1e2,\"do\":\"dance\"}") ≡ fails 0 BadId)
    × (spells (codes "{\"id\":-0,\"do\":\"map\"}") ≡ fails 0 BadId)

-- faults under an id; each comes before the faults of later fields
unfoldable pub tells_an_id : Type 0
tells_an_id =
    (spells (codes "{\"id\":1}") ≡ fails 1 UnknownDo)
    × (spells (codes "{\"id\":1,\"do\":\"dance\",\"el\":1}") ≡ fails 1 UnknownDo)
    × (spells (codes "{\"id\":1,\"do\":\"dance\",\"since\":-1}") ≡ fails 1 UnknownDo)
    × (spells (codes "{\"id\":1,\"do\":\"delete\",\"el\":7,\"since\":-1}") ≡ fails 1 (BadField Since))
    × (spells (codes "{\"id\":1,\"do\":\"group\",\"since\":9007199254740992}") ≡ fails 1 (BadField Since))
    × (spells (codes "{\"id\":1,\"do\":\"delete\",\"el\":\"w1\",\"since\":null}") ≡ fails 1 (BadField Since))
    × (spells (codes "{\"id\":1,\"do\":\"delete\",\"el\":\"w1\",\"since\":1.0}") ≡ fails 1 (BadField Since))
    × (spells (codes "{\"id\":1,\"do\":\"delete\",\"el\":7,\"since\":0}") ≡ fails 1 (BadField El))
    × (spells (codes "{\"id\":1,\"do\":\"get\",\"el\":\"n05\"}") ≡ fails 1 (BadField El))
    × (spells (codes "{\"id\":1,\"do\":\"create\",\"el\":\"r-2\",\"tags\":1}") ≡ fails 1 (BadField Members))
    × (spells (codes "{\"id\":1,\"do\":\"create\",\"el\":\"r-2\",\"members\":null,\"tags\":1}") ≡ fails 1 (BadField Members))
    × (spells (codes "{\"id\":1,\"do\":\"create\",\"el\":\"r-2\",\"members\":[[\"n7\"]]}") ≡ fails 1 (BadField Members))
    × (spells (codes "{\"id\":1,\"do\":\"create\",\"el\":\"r-2\",\"members\":[[\"n7\",\"\",\"\"]]}") ≡ fails 1 (BadField Members))
    × (spells (codes "{\"id\":1,\"do\":\"create\",\"el\":\"r-2\",\"members\":[[\"n0\",\"\"]]}") ≡ fails 1 (BadField Members))
    × (spells (codes "{\"id\":1,\"do\":\"create\",\"el\":\"r-2\",\"members\":[[\"n7\",null]]}") ≡ fails 1 (BadField Members))
    × (spells (codes "{\"id\":1,\"do\":\"create\",\"el\":\"r-2\",\"members\":[],\"tags\":1}") ≡ fails 1 (BadField Tags))
    × (spells (codes "{\"id\":1,\"do\":\"create\",\"el\":\"n7\",\"lat\":\"90.0000001\",\"lon\":0,\"tags\":1}") ≡ fails 1 (BadField Lat))
    × (spells (codes "{\"id\":1,\"do\":\"create\",\"el\":\"w1\",\"nodes\":[1,0],\"tags\":1}") ≡ fails 1 (BadField Nodes))
    × (spells (codes "{\"id\":1,\"do\":\"create\",\"el\":\"w1\",\"nodes\":[],\"tags\":null}") ≡ fails 1 (BadField Tags))
    × (spells (codes "{\"id\":1,\"do\":\"create\",\"el\":\"w1\",\"nodes\":[],\"tags\":{\"a\":null}}") ≡ fails 1 (BadField Tags))
    × (spells (codes "{\"id\":1,\"do\":\"retag\",\"el\":\"w1\"}") ≡ fails 1 (BadField Tags))
    × (spells (codes "{\"id\":1,\"do\":\"retag\",\"el\":\"w1\",\"tags\":{\"\":null}}") ≡ fails 1 (BadField Tags))
    × (spells (codes "{\"id\":1,\"do\":\"retag\",\"el\":\"w1\",\"tags\":{\"a\":1}}") ≡ fails 1 (BadField Tags))
    × (spells (codes "{\"id\":1,\"do\":\"move\",\"els\":[\"n7\",7],\"dlat\":\"1\"}") ≡ fails 1 (BadField Els))
    × (spells (codes "{\"id\":1,\"do\":\"move\",\"els\":[],\"dlat\":1.0,\"dlon\":\"1\"}") ≡ fails 1 (BadField Dlat))
    × (spells (codes "{\"id\":1,\"do\":\"move\",\"els\":[],\"dlat\":1,\"dlon\":9223372036854775808}") ≡ fails 1 (BadField Dlon))
    × (spells (codes "{\"id\":1,\"do\":\"nodes\",\"el\":\"w1\",\"nodes\":null}") ≡ fails 1 (BadField Nodes))
    × (spells (codes "{\"id\":1,\"do\":\"members\",\"el\":\"r-2\",\"nodes\":[]}") ≡ fails 1 (BadField Members))
    × (spells (codes "{\"id\":1,\"do\":\"purge\",\"el\":7}") ≡ fails 1 (BadField El))
    × (spells (codes "{\"id\":1,\"do\":\"split\",\"el\":\"w1\",\"into\":1}") ≡ fails 1 (BadField At))
    × (spells (codes "{\"id\":1,\"do\":\"split\",\"el\":\"w1\",\"at\":-1,\"into\":\"w9\"}") ≡ fails 1 (BadField At))
    × (spells (codes "{\"id\":1,\"do\":\"split\",\"el\":\"w1\",\"at\":4294967296,\"into\":\"w9\"}") ≡ fails 1 (BadField At))
    × (spells (codes "{\"id\":1,\"do\":\"split\",\"el\":\"w1\",\"at\":1.0,\"into\":\"w9\"}") ≡ fails 1 (BadField At))
    × (spells (codes "{\"id\":1,\"do\":\"split\",\"el\":\"w1\",\"at\":1,\"into\":\"w0\"}") ≡ fails 1 (BadField Into))
    × (spells (codes "{\"id\":1,\"do\":\"join\",\"el\":\"w1\"}") ≡ fails 1 (BadField With))
    × (spells (codes "{\"id\":1,\"do\":\"merge\",\"el\":\"n7\",\"with\":[\"n-1\"]}") ≡ fails 1 (BadField With))
    × (spells (codes "{\"id\":1,\"do\":\"unglue\",\"at\":1,\"into\":\"n7\"}") ≡ fails 1 (BadField El))
    × (spells (codes "{\"id\":1,\"do\":\"unglue\",\"el\":\"w1\",\"at\":\"1\",\"into\":\"n7\"}") ≡ fails 1 (BadField At))
    × (spells (codes "{\"id\":1,\"do\":\"unglue\",\"el\":\"w1\",\"at\":1}") ≡ fails 1 (BadField Into))
    × (spells (codes "{\"id\":1,\"do\":\"hello\",\"name\":\"Anna\"}") ≡ fails 1 (BadField fields.Room))
    × (spells (codes "{\"id\":1,\"do\":\"hello\",\"room\":\"paris\",\"name\":\"Anna\"}") ≡ fails 1 (BadField fields.Name))
    × (spells (codes "{\"id\":1,\"do\":\"undo\",\"seq\":null}") ≡ fails 1 (BadField Seq))
    × (spells (codes "{\"id\":1,\"do\":\"group\"}") ≡ fails 1 (BadField Actions))
    × (spells (codes "{\"id\":1,\"do\":\"group\",\"actions\":{}}") ≡ fails 1 (BadField Actions))
    × (spells (codes "{\"id\":1,\"do\":\"group\",\"actions\":[]}") ≡ fails 1 (BadField Actions))
    × (spells (codes "{\"id\":1,\"do\":\"group\",\"actions\":[{\"do\":\"dance\"},7]}") ≡ fails 1 (BadField Actions))
    × (spells (codes "{\"id\":1,\"do\":\"group\",\"actions\":[{\"do\":\"delete\",\"el\":\"w1\"},{\"do\":\"dance\"}]}") ≡ fails 1 (UnknownAction 1))
    × (spells (codes "{\"id\":1,\"do\":\"group\",\"actions\":[{\"do\":\"group\",\"actions\":[]}]}") ≡ fails 1 (UnknownAction 0))
    × (spells (codes "{\"id\":1,\"do\":\"group\",\"actions\":[{\"do\":\"undo\"}]}") ≡ fails 1 (UnknownAction 0))
    × (spells (codes "{\"id\":1,\"do\":\"group\",\"actions\":[{\"do\":\"delete\",\"el\":\"w1\"},{\"do\":\"nodes\",\"el\":\"w1\"},{}]}") ≡ fails 1 (BadActionField 1 Nodes))

-- the replies to a call and to a refused edit
abbrev pub outcome_of : ℕ → Reply Global → Data
outcome_of id reply = tree_of id (answers.Reply (to_value reply))

abbrev pub refusal_of : ℕ → Option ℕ → Refusal Global → Data
refusal_of id position why = outcome_of id (replies.Refused (record { action = position; why = why }))

-- the texts of some replies
unfoldable pub writes_replies : Type 0
writes_replies =
    (compact_text (outcome_of 1 (replies.Done 1)) ≡ codes "{\"id\":1,\"ok\":{\"seq\":1}}")
    × (compact_text (outcome_of 2 (replies.Undid 3 2)) ≡ codes "{\"id\":2,\"ok\":{\"seq\":3,\"undid\":2}}")
    × (compact_text (outcome_of 2 (replies.Redid 4 1)) ≡ codes "{\"id\":2,\"ok\":{\"redid\":1,\"seq\":4}}")
    × (compact_text (tree_of 3 (answers.Undos (to_value (2 ∷ 5 ∷ [])) (to_value (4 ∷ [])))) ≡ codes "{\"id\":3,\"ok\":{\"redo\":[4],\"undos\":[2,5]}}")
    × (compact_text (tree_of 3 (answers.Undos (to_value []) (to_value []))) ≡ codes "{\"id\":3,\"ok\":{\"redo\":[],\"undos\":[]}}")
    × (compact_text (refusal_of 1 None (refusals.InUse n-1 w1)) ≡ codes "{\"id\":1,\"no\":{\"by\":\"w1\",\"el\":\"n-1\",\"why\":\"in_use\"}}")
    × (compact_text (refusal_of 7 (Some 1) (refusals.InUse n-1 w1)) ≡ codes "{\"id\":7,\"no\":{\"action\":1,\"by\":\"w1\",\"el\":\"n-1\",\"why\":\"in_use\"}}")
    × (compact_text (refusal_of 7 (Some 0) refusals.Nothing) ≡ codes "{\"id\":7,\"no\":{\"action\":0,\"why\":\"nothing\"}}")
    × (compact_text (tree_of 7 (answers.Fault (BadActionField 1 Nodes))) ≡ codes "{\"id\":7,\"no\":{\"action\":1,\"field\":\"nodes\",\"why\":\"bad_field\"}}")
    × (compact_text (tree_of 7 (answers.Fault (UnknownAction 1))) ≡ codes "{\"id\":7,\"no\":{\"action\":1,\"why\":\"unknown_do\"}}")
    × (compact_text (refusal_of 1 None (refusals.Same n-1)) ≡ codes "{\"id\":1,\"no\":{\"el\":\"n-1\",\"why\":\"same\"}}")
    × (compact_text (refusal_of 1 None (refusals.OutOfRange n-1)) ≡ codes "{\"id\":1,\"no\":{\"el\":\"n-1\",\"why\":\"out_of_range\"}}")
    × (compact_text (refusal_of 1 None refusals.BadPosition) ≡ codes "{\"id\":1,\"no\":{\"why\":\"bad_position\"}}")
    × (compact_text (refusal_of 1 None refusals.NotEndToEnd) ≡ codes "{\"id\":1,\"no\":{\"why\":\"not_end_to_end\"}}")
    × (compact_text (refusal_of 1 None refusals.Nothing) ≡ codes "{\"id\":1,\"no\":{\"why\":\"nothing\"}}")
    × (compact_text (outcome_of 1 (replies.Repeat 1)) ≡ codes "{\"id\":1,\"no\":{\"seq\":1,\"why\":\"repeat\"}}")
    × (compact_text (outcome_of 2 (replies.Conflict 2 n-1)) ≡ codes "{\"id\":2,\"no\":{\"at\":\"n-1\",\"why\":\"conflict\",\"with\":2}}")
    × (compact_text (outcome_of 1 (replies.Changed 2 w1)) ≡ codes "{\"id\":1,\"no\":{\"el\":\"w1\",\"why\":\"changed\",\"with\":2}}")
    × (compact_text (outcome_of 2 replies.NothingToRedo) ≡ codes "{\"id\":2,\"no\":{\"why\":\"nothing_to_redo\"}}")
    × (compact_text (tree_of 3 (answers.Fault (BadField El))) ≡ codes "{\"id\":3,\"no\":{\"field\":\"el\",\"why\":\"bad_field\"}}")
    × (compact_text (tree_of 0 answers.BadLine) ≡ codes "{\"id\":0,\"no\":{\"why\":\"bad_line\"}}")
    × (compact_text (tree_of 7 answers.NoHello) ≡ codes "{\"id\":7,\"no\":{\"why\":\"no_hello\"}}")
    × (compact_text (tree_of 7 answers.NoRoom) ≡ codes "{\"id\":7,\"no\":{\"why\":\"no_room\"}}")
    × (compact_text (tree_of 7 answers.HelloTwice) ≡ codes "{\"id\":7,\"no\":{\"why\":\"hello_twice\"}}")
    × (compact_text (tree_of 1 (answers.WrongName (to_value (codes "lina")))) ≡ codes "{\"id\":1,\"no\":{\"name\":\"lina\",\"why\":\"wrong_name\"}}")
    × (compact_text (tree_of 1 answers.NoName) ≡ codes "{\"id\":1,\"no\":{\"why\":\"no_name\"}}")

-- the texts of elements
unfoldable pub writes_elements : Type 0
writes_elements =
    (compact_text (element_tree n-1 greenwich) ≡ codes "{\"el\":\"n-1\",\"lat\":\"51.5000000\",\"lon\":\"-0.1000000\",\"tags\":{}}")
    × (let way : Element Global = Way (n-1 ∷ n7 ∷ []) ((codes "a\"", codes "\n") ∷ []) in
    compact_text (rows_tree ((w1, way) ∷ [])) ≡ codes "[{\"el\":\"w1\",\"nodes\":[-1,7],\"tags\":{\"a\\\"\":\"\\n\"}}]")
    × (let relation : Element Global = Relation ((w1, codes "outer") ∷ (n7, []) ∷ []) [] in
    compact_text (element_tree r-2 relation) ≡ codes "{\"el\":\"r-2\",\"members\":[[\"w1\",\"outer\"],[\"n7\",\"\"]],\"tags\":{}}")
