-- Examples of the definitions, worked out by hand.
use Rattle.std.specs.Prelude.{◌≡◌, ◌++◌, ℕ, [], ◌∷◌, Some, None, true, pos, negsuc, replicate}
use Rattle.room_interface.specs.Prelude.{GivenTags}
use Rattle.edit_groups.specs.Prelude.{tags_at, rest_at, is_sound}
use Rattle.edit_footprint.specs.Touches.{presence_read, presence_written, cell_read, cell_written}
use Rattle.edit_footprint.specs.Footprints.{reads_at, changes_at}
use Rattle.room_interface.specs.declared.action.Action.TheVariants.{Create, Retag, Move, Reverse, Nodes, Delete, Split, Unglue}
use Rattle.osm_elements.specs.declared.element.Element.TheVariants.{Node, Way}
use Rattle.room_interface.specs.declared.refusal.Refusal.TheVariants.{Absent, Present, WrongKind, TooFew, TooMany, InUse, Nothing}
use Rattle.room_interface.specs.declared.reply.Reply.TheVariants.{Done, Undid, Redid, Repeat, Full, NothingToUndo, NothingToRedo, NoSuch, NotYours, NotStanding, Conflict, Changed}
use Rattle.room_history.specs.Replays.{replay, standing_actions}
use Rattle.room_history.specs.Answers.{answers}
use Rattle.room_history.specs.Scenes.{n-1, n1, n2, n3, n4, n9, w1, w2, r1, r2, r3, anna, bob, carl, given, tagged, node_at, way_of, relation_of, does, does_all, does_since, does_all_since, undoes, redoes, refused, refused_in, replies, map_after, held_after, redos_left}

abbrev pub ample : ℕ
ample = 1000000

-- one create; the map then has its row
unfoldable pub first_run : Type 0
first_run =
    (let calls = does anna 1 (Create n-1 (node_at (pos 515000000) (negsuc 999999))) ∷ [] in
    (replies ample calls ≡ (Done 1 ∷ [])) × (map_after ample calls ≡ ((n-1, node_at (pos 515000000) (negsuc 999999)) ∷ [])))

-- coordinates at both ends of their range
unfoldable pub range_ends : Type 0
range_ends =
    (let calls = does anna 1 (Create n1 (node_at (pos 900000000) (negsuc 1799999999))) ∷ does anna 2 (Create n2 (node_at (pos 0) (negsuc 0))) ∷ [] in
    (replies ample calls ≡ (Done 1 ∷ Done 2 ∷ []))
    × (map_after ample calls ≡ ((n1, node_at (pos 900000000) (negsuc 1799999999)) ∷ (n2, node_at (pos 0) (negsuc 0)) ∷ [])))

-- a journal with limit 1 is full after one entry; `Repeat` is tested before `Full`
unfoldable pub limit_one : Type 0
limit_one = replies 1 (
    does anna 1 (Create n1 (node_at (pos 0) (pos 0)))
    ∷ undoes anna 2 None
    ∷ does anna 1 (Delete n1)
    ∷ does bob 1 (Delete n1)
    ∷ []) ≡ (Done 1 ∷ Full ∷ Repeat 1 ∷ Full ∷ [])

unfoldable pub limit_zero : Type 0
limit_zero = replies 0 (does anna 1 (Create n1 (node_at (pos 0) (pos 0))) ∷ undoes anna 1 None ∷ []) ≡ (Full ∷ Full ∷ [])

-- two authors each create a node; the footprints do not meet, so the first author can undo after the second one's entry
unfoldable pub strangers : Type 0
strangers =
    (let calls =
    does anna 1 (Create n1 (node_at (pos 0) (pos 0)))
    ∷ does bob 1 (Create n2 (node_at (pos 1) (pos 1)))
    ∷ undoes anna 2 None
    ∷ undoes anna 3 None
    ∷ [] in
    (replies ample calls ≡ (Done 1 ∷ Done 2 ∷ Undid 3 1 ∷ NothingToUndo ∷ []))
    × (map_after ample calls ≡ ((n2, node_at (pos 1) (pos 1)) ∷ []))
    × (held_after ample calls ≡ ((2, presence_written n2 ∷ []) ∷ [])))

-- a way with both nodes blocks the undo of each create, because it reads the node's presence
unfoldable pub in_use : Type 0
in_use =
    (let calls =
    does anna 1 (Create n1 (node_at (pos 0) (pos 0)))
    ∷ does bob 1 (Create n2 (node_at (pos 1) (pos 1)))
    ∷ does bob 2 (Create w1 (way_of (n2 ∷ n1 ∷ [])))
    ∷ undoes anna 2 None
    ∷ undoes bob 3 (Some 2)
    ∷ [] in
    (replies ample calls ≡ (Done 1 ∷ Done 2 ∷ Done 3 ∷ Conflict 3 n1 ∷ Conflict 3 n2 ∷ []))
    × (held_after ample calls ≡ ((1, presence_written n1 ∷ []) ∷ (2, presence_written n2 ∷ []) ∷ (3, presence_read n1 ∷ presence_read n2 ∷ presence_written w1 ∷ []) ∷ [])))

-- a deleted way blocks no more; the create and the delete of a way meet at the way, and not at the nodes that both only
-- refer to
unfoldable pub taken_back_way : Type 0
taken_back_way =
    (let calls =
    does anna 1 (Create n1 (node_at (pos 0) (pos 0)))
    ∷ does bob 1 (Create n2 (node_at (pos 1) (pos 1)))
    ∷ does bob 2 (Create w1 (way_of (n2 ∷ n1 ∷ [])))
    ∷ does anna 2 (Delete w1)
    ∷ undoes bob 3 None
    ∷ undoes anna 3 None
    ∷ undoes bob 3 None
    ∷ undoes anna 4 None
    ∷ [] in
    (replies ample calls ≡ (Done 1 ∷ Done 2 ∷ Done 3 ∷ Done 4 ∷ Conflict 4 w1 ∷ Undid 5 4 ∷ Undid 6 3 ∷ Undid 7 1 ∷ []))
    × (map_after ample calls ≡ ((n2, node_at (pos 1) (pos 1)) ∷ [])))

-- each refusal of a create, a delete and an undo, in one run
unfoldable pub refusals_in_turn : Type 0
refusals_in_turn =
    (let calls =
    undoes anna 1 None
    ∷ does anna 1 (Create w1 (node_at (pos 0) (pos 0)))
    ∷ does anna 1 (Create w1 (way_of (n1 ∷ [])))
    ∷ does anna 1 (Create w1 (way_of (replicate 2001 n1)))
    ∷ does anna 1 (Create w1 (way_of (n3 ∷ n2 ∷ n1 ∷ [])))
    ∷ does anna 1 (Delete n1)
    ∷ does anna 1 (Create n1 (node_at (pos 1) (pos 1)))
    ∷ does anna 2 (Create n1 (node_at (pos 2) (pos 2)))
    ∷ does bob 1 (Create n2 (node_at (pos 2) (pos 2)))
    ∷ does bob 2 (Create w2 (way_of (n2 ∷ n1 ∷ n2 ∷ [])))
    ∷ does bob 3 (Create w1 (way_of (n2 ∷ n1 ∷ [])))
    ∷ does anna 2 (Delete n1)
    ∷ does anna 1 (Delete w1)
    ∷ undoes anna 2 (Some 0)
    ∷ undoes anna 2 (Some 9)
    ∷ undoes anna 2 (Some 2)
    ∷ undoes anna 2 (Some 1)
    ∷ undoes bob 4 None
    ∷ undoes bob 5 (Some 4)
    ∷ undoes bob 5 (Some 5)
    ∷ does anna 2 (Delete w2)
    ∷ undoes bob 5 (Some 3)
    ∷ [] in
    (replies ample calls ≡ (
    NothingToUndo
    ∷ refused (WrongKind w1)
    ∷ refused (TooFew w1)
    ∷ refused (TooMany w1)
    ∷ refused (Absent n1)
    ∷ refused (Absent n1)
    ∷ Done 1
    ∷ refused (Present n1)
    ∷ Done 2
    ∷ Done 3
    ∷ Done 4
    ∷ refused (InUse n1 w1)
    ∷ Repeat 1
    ∷ NoSuch
    ∷ NoSuch
    ∷ NotYours
    ∷ Conflict 3 n1
    ∷ Undid 5 4
    ∷ NotStanding
    ∷ NotStanding
    ∷ Done 6
    ∷ Conflict 6 w2
    ∷ []))
    × (map_after ample calls ≡ ((n1, node_at (pos 1) (pos 1)) ∷ (n2, node_at (pos 2) (pos 2)) ∷ []))
    × (replay [] (standing_actions [] (answers [] ample [] calls).1) ≡ Some (map_after ample calls))
    × (is_sound (map_after ample calls) ≡ true))

-- relations, which can be empty or their own members, and their refusals
unfoldable pub relations_in_turn : Type 0
relations_in_turn =
    (let calls =
    does anna 1 (Create r1 (relation_of (r1 ∷ [])))
    ∷ does anna 2 (Delete r1)
    ∷ does anna 2 (Create r2 (relation_of (w1 ∷ n1 ∷ r1 ∷ r2 ∷ [])))
    ∷ does anna 2 (Create n1 (node_at (pos 1) (pos 1)))
    ∷ does anna 3 (Create r2 (relation_of (w1 ∷ n1 ∷ r2 ∷ [])))
    ∷ does anna 3 (Create w1 (way_of (n1 ∷ n1 ∷ [])))
    ∷ does bob 1 (Create w2 (relation_of []))
    ∷ does bob 1 (Create r2 (relation_of (replicate 32001 n3)))
    ∷ does bob 1 (Create r2 (relation_of []))
    ∷ does bob 2 (Create r3 (relation_of (w1 ∷ n1 ∷ w1 ∷ [])))
    ∷ does bob 3 (Delete w1)
    ∷ does bob 3 (Delete n1)
    ∷ undoes bob 3 None
    ∷ does bob 4 (Delete w1)
    ∷ [] in
    (replies ample calls ≡ (
    Done 1
    ∷ refused (InUse r1 r1)
    ∷ refused (Absent n1)
    ∷ Done 2
    ∷ refused (Absent w1)
    ∷ Done 3
    ∷ refused (WrongKind w2)
    ∷ refused (TooMany r2)
    ∷ Done 4
    ∷ Done 5
    ∷ refused (InUse w1 r3)
    ∷ refused (InUse n1 w1)
    ∷ Undid 6 5
    ∷ Done 7
    ∷ []))
    × (map_after ample calls ≡ ((n1, node_at (pos 1) (pos 1)) ∷ (r1, relation_of (r1 ∷ [])) ∷ (r2, relation_of []) ∷ []))
    × (replay [] (standing_actions [] (answers [] ample [] calls).1) ≡ Some (map_after ample calls))
    × (is_sound (map_after ample calls) ≡ true))

-- a redo after another author's later entry whose footprint does not meet its own
unfoldable pub redo_at_once : Type 0
redo_at_once =
    (let calls =
    does anna 1 (Create n1 (node_at (pos 0) (pos 0)))
    ∷ does bob 1 (Create n2 (node_at (pos 1) (pos 1)))
    ∷ undoes anna 2 None
    ∷ redoes anna 3
    ∷ redoes anna 4
    ∷ [] in
    (replies ample calls ≡ (Done 1 ∷ Done 2 ∷ Undid 3 1 ∷ Redid 4 1 ∷ NothingToRedo ∷ []))
    × (map_after ample calls ≡ ((n1, node_at (pos 0) (pos 0)) ∷ (n2, node_at (pos 1) (pos 1)) ∷ []))
    × (held_after ample calls ≡ ((2, presence_written n2 ∷ []) ∷ (4, presence_written n1 ∷ []) ∷ []))
    × (redos_left ample calls anna ≡ []))

-- a way cannot be redone while one of its nodes is absent: the redo is refused, and stays the next one until the node
-- is back
unfoldable pub redo_refused : Type 0
redo_refused =
    (let calls =
    does anna 1 (Create n1 (node_at (pos 0) (pos 0)))
    ∷ does bob 1 (Create n2 (node_at (pos 1) (pos 1)))
    ∷ does anna 2 (Create w1 (way_of (n1 ∷ n2 ∷ [])))
    ∷ undoes anna 3 None
    ∷ does bob 2 (Delete n2)
    ∷ redoes anna 4
    ∷ redoes bob 3
    ∷ [] in
    let later = undoes bob 3 None ∷ redoes anna 4 ∷ [] in
    (replies ample (calls ++ later) ≡ (Done 1 ∷ Done 2 ∷ Done 3 ∷ Undid 4 3 ∷ Done 5 ∷ refused (Absent n2) ∷ NothingToRedo ∷ Undid 6 5 ∷ Redid 7 3 ∷ []))
    × (redos_left ample calls anna ≡ (3 ∷ []))
    × (redos_left ample (calls ++ later) anna ≡ [])
    × (map_after ample (calls ++ later) ≡ ((n1, node_at (pos 0) (pos 0)) ∷ (n2, node_at (pos 1) (pos 1)) ∷ (w1, way_of (n1 ∷ n2 ∷ [])) ∷ []))
    × (held_after ample (calls ++ later) ≡ ((1, presence_written n1 ∷ []) ∷ (2, presence_written n2 ∷ []) ∷ (7, presence_read n1 ∷ presence_read n2 ∷ presence_written w1 ∷ []) ∷ [])))

-- of two undone entries, the last is redone first
unfoldable pub redo_order : Type 0
redo_order =
    (let calls =
    does anna 1 (Create n1 (node_at (pos 0) (pos 0)))
    ∷ does anna 2 (Create n2 (node_at (pos 1) (pos 1)))
    ∷ undoes anna 3 None
    ∷ undoes anna 4 None
    ∷ [] in
    let later = redoes anna 5 ∷ redoes anna 6 ∷ redoes anna 7 ∷ [] in
    (replies ample (calls ++ later) ≡ (Done 1 ∷ Done 2 ∷ Undid 3 2 ∷ Undid 4 1 ∷ Redid 5 1 ∷ Redid 6 2 ∷ NothingToRedo ∷ []))
    × (redos_left ample calls anna ≡ (2 ∷ 1 ∷ []))
    × (map_after ample calls ≡ [])
    × (map_after ample (calls ++ later) ≡ ((n1, node_at (pos 0) (pos 0)) ∷ (n2, node_at (pos 1) (pos 1)) ∷ []))
    × (held_after ample (calls ++ later) ≡ ((5, presence_written n1 ∷ []) ∷ (6, presence_written n2 ∷ []) ∷ [])))

-- a redo can be undone and redone by its own number, and a new action empties the stack
unfoldable pub redo_again : Type 0
redo_again =
    (let calls =
    does anna 1 (Create n1 (node_at (pos 0) (pos 0)))
    ∷ undoes anna 2 None
    ∷ redoes anna 3
    ∷ undoes anna 4 (Some 1)
    ∷ undoes anna 4 None
    ∷ [] in
    let later = redoes anna 5 ∷ undoes anna 6 (Some 5) ∷ does anna 7 (Create n2 (node_at (pos 1) (pos 1))) ∷ redoes anna 8 ∷ [] in
    (replies ample (calls ++ later) ≡ (Done 1 ∷ Undid 2 1 ∷ Redid 3 1 ∷ NotStanding ∷ Undid 4 3 ∷ Redid 5 3 ∷ Undid 6 5 ∷ Done 7 ∷ NothingToRedo ∷ []))
    × (redos_left ample calls anna ≡ (3 ∷ []))
    × (map_after ample (calls ++ later) ≡ ((n2, node_at (pos 1) (pos 1)) ∷ []))
    × (redos_left ample (calls ++ later) anna ≡ []))

-- an active unglue blocks the undo of an earlier move of the old node, even if the way still refers to that node
unfoldable pub unglued_node : Type 0
unglued_node =
    (let calls =
    does anna 1 (Create n1 (node_at (pos 0) (pos 0)))
    ∷ does anna 2 (Create w1 (way_of (n1 ∷ n1 ∷ [])))
    ∷ does bob 1 (Move (n1 ∷ []) (pos 5) (pos 0))
    ∷ does anna 3 (Unglue w1 1 n2)
    ∷ undoes bob 2 None
    ∷ [] in
    let later = undoes anna 4 None ∷ undoes bob 2 None ∷ [] in
    (replies ample (calls ++ later) ≡ (Done 1 ∷ Done 2 ∷ Done 3 ∷ Done 4 ∷ Conflict 4 n1 ∷ Undid 5 4 ∷ Undid 6 3 ∷ []))
    × (map_after ample calls ≡ ((n1, node_at (pos 5) (pos 0)) ∷ (n2, node_at (pos 5) (pos 0)) ∷ (w1, way_of (n1 ∷ n2 ∷ [])) ∷ []))
    × (held_after ample calls ≡ ((1, presence_written n1 ∷ []) ∷ (2, presence_read n1 ∷ presence_written w1 ∷ []) ∷ (3, changes_at (rest_at n1))
    ∷ (4, reads_at (tags_at n1) ++ cell_read (rest_at n1) ∷ presence_read n2 ∷ presence_written n2 ∷ presence_read w1 ∷ presence_written w1 ∷ cell_written (rest_at w1) ∷ []) ∷ []))
    × (map_after ample (calls ++ later) ≡ ((n1, node_at (pos 0) (pos 0)) ∷ (w1, way_of (n1 ∷ n1 ∷ [])) ∷ [])))

-- a move and new tags of one node do not meet: each can be undone without the other, and the undo of the move keeps
-- the tags
unfoldable pub blocker_goes_by_parts : Type 0
blocker_goes_by_parts =
    (let calls =
    does anna 1 (Create n1 (node_at (pos 0) (pos 0)))
    ∷ does anna 2 (Move (n1 ∷ []) (pos 5) (pos 0))
    ∷ does bob 1 (Retag n1 given)
    ∷ undoes anna 3 None
    ∷ [] in
    let later = undoes bob 2 None ∷ undoes anna 3 None ∷ [] in
    (replies ample (calls ++ later) ≡ (Done 1 ∷ Done 2 ∷ Done 3 ∷ Undid 4 2 ∷ Undid 5 3 ∷ Repeat 4 ∷ []))
    × (map_after ample calls ≡ ((n1, Node (pos 0) (pos 0) tagged) ∷ []))
    × (held_after ample calls ≡ ((1, presence_written n1 ∷ []) ∷ (3, changes_at (tags_at n1)) ∷ []))
    × (map_after ample (calls ++ later) ≡ ((n1, node_at (pos 0) (pos 0)) ∷ [])))

-- two moves of one node both write its rest: the second blocks the first until it is undone
unfoldable pub both_moved : Type 0
both_moved =
    (let calls =
    does anna 1 (Create n1 (node_at (pos 0) (pos 0)))
    ∷ does anna 2 (Move (n1 ∷ []) (pos 5) (pos 0))
    ∷ does bob 1 (Move (n1 ∷ []) (pos 0) (pos 5))
    ∷ undoes anna 3 None
    ∷ undoes bob 2 None
    ∷ undoes anna 3 None
    ∷ [] in
    (replies ample calls ≡ (Done 1 ∷ Done 2 ∷ Done 3 ∷ Conflict 3 n1 ∷ Undid 4 3 ∷ Undid 5 2 ∷ []))
    × (map_after ample calls ≡ ((n1, node_at (pos 0) (pos 0)) ∷ [])))

-- new tags of a way do not block earlier changes of its nodes; the delete of a node that the way no longer has does
-- block the change that removed the node, by that node
unfoldable pub two_blockers_by_parts : Type 0
two_blockers_by_parts =
    (let calls =
    does anna 1 (Create n1 (node_at (pos 0) (pos 0)))
    ∷ does anna 2 (Create n2 (node_at (pos 1) (pos 1)))
    ∷ does anna 3 (Create n3 (node_at (pos 2) (pos 2)))
    ∷ does anna 4 (Create w1 (way_of (n1 ∷ n3 ∷ n2 ∷ [])))
    ∷ does anna 5 (Nodes w1 (n1 ∷ n2 ∷ []))
    ∷ does bob 1 (Retag w1 given)
    ∷ does carl 1 (Delete n3)
    ∷ undoes anna 6 None
    ∷ undoes bob 2 None
    ∷ undoes anna 6 None
    ∷ [] in
    replies ample calls ≡ (Done 1 ∷ Done 2 ∷ Done 3 ∷ Done 4 ∷ Done 5 ∷ Done 6 ∷ Done 7 ∷ Conflict 7 n3 ∷ Undid 8 6 ∷ Conflict 7 n3 ∷ []))

-- a split copies the tags of its way, so it blocks earlier new tags
unfoldable pub split_over_retag : Type 0
split_over_retag =
    (let calls =
    does anna 1 (Create n1 (node_at (pos 0) (pos 0)))
    ∷ does anna 2 (Create n2 (node_at (pos 1) (pos 1)))
    ∷ does anna 3 (Create w1 (way_of (n1 ∷ n2 ∷ n1 ∷ [])))
    ∷ does bob 1 (Retag w1 given)
    ∷ does anna 4 (Split w1 1 w2)
    ∷ undoes bob 2 None
    ∷ [] in
    (replies ample calls ≡ (Done 1 ∷ Done 2 ∷ Done 3 ∷ Done 4 ∷ Done 5 ∷ Conflict 5 w1 ∷ []))
    × (map_after ample calls ≡ ((n1, node_at (pos 0) (pos 0)) ∷ (n2, node_at (pos 1) (pos 1)) ∷ (w1, Way (n1 ∷ n2 ∷ []) tagged) ∷ (w2, Way (n2 ∷ n1 ∷ []) tagged) ∷ [])))

-- two ways over one node: the first can go, and so can the move of a node over which somebody drew a way later; but two
-- changes of the tags of one node meet
unfoldable pub over_one_node : Type 0
over_one_node =
    (let calls =
    does anna 1 (Create n1 (node_at (pos 1) (pos 1)))
    ∷ does anna 2 (Create n2 (node_at (pos 2) (pos 2)))
    ∷ does anna 3 (Create n3 (node_at (pos 3) (pos 3)))
    ∷ does anna 4 (Create w1 (way_of (n1 ∷ n2 ∷ [])))
    ∷ does bob 1 (Create w2 (way_of (n1 ∷ n3 ∷ [])))
    ∷ undoes anna 5 None
    ∷ does carl 1 (Move (n3 ∷ []) (pos 5) (pos 5))
    ∷ does bob 2 (Create w1 (way_of (n3 ∷ n2 ∷ [])))
    ∷ undoes carl 2 None
    ∷ does carl 3 (Retag n2 given)
    ∷ does bob 3 (Retag n2 ((107 ∷ [], None) ∷ []))
    ∷ undoes carl 4 None
    ∷ [] in
    replies ample calls ≡ (Done 1 ∷ Done 2 ∷ Done 3 ∷ Done 4 ∷ Done 5 ∷ Undid 6 4 ∷ Done 7 ∷ Done 8 ∷ Undid 9 7 ∷ Done 10 ∷ Done 11 ∷ Conflict 11 n2 ∷ []))

-- a group draws a way as one entry: it is undone and redone as a whole, and blocked by bob's change of one of its
-- nodes; a refused group changes nothing, and its refusal has the position of the refused action, or none
unfoldable pub drawn_as_one : Type 0
drawn_as_one =
    (let calls =
    does_all anna 1 (Create n1 (node_at (pos 1) (pos 1)) ∷ Create n2 (node_at (pos 2) (pos 2)) ∷ Create w1 (way_of (n1 ∷ n2 ∷ [])) ∷ [])
    ∷ does bob 1 (Retag n2 given)
    ∷ undoes anna 2 None
    ∷ undoes bob 2 None
    ∷ undoes anna 3 None
    ∷ redoes anna 4
    ∷ does_all anna 5 (Delete w1 ∷ Delete n3 ∷ [])
    ∷ does_all anna 5 (Create n3 (node_at (pos 3) (pos 3)) ∷ Delete n3 ∷ [])
    ∷ does_all anna 5 (Delete n1 ∷ [])
    ∷ [] in
    (replies ample calls ≡ (Done 1 ∷ Done 2 ∷ Conflict 2 n2 ∷ Undid 3 2 ∷ Undid 4 1 ∷ Redid 5 1 ∷ refused_in 1 (Absent n3) ∷ refused Nothing ∷ refused_in 0 (InUse n1 w1) ∷ []))
    × (map_after ample calls ≡ ((n1, node_at (pos 1) (pos 1)) ∷ (n2, node_at (pos 2) (pos 2)) ∷ (w1, way_of (n1 ∷ n2 ∷ [])) ∷ []))
    × (held_after ample calls ≡ ((5, presence_read n1 ∷ presence_written n1 ∷ presence_read n2 ∷ presence_written n2 ∷ presence_written w1 ∷ []) ∷ [])))

-- anna and bob join one street: who had not seen the other's change is refused, with the last entry and the element; an
-- undo is a change, too; what the author says is looked at after all other checks, and is not kept for a redo
unfoldable pub joined_street : Type 0
joined_street =
    let named : GivenTags = (110 ∷ [], Some (65 ∷ [])) ∷ [] in
    let calls =
    does_all anna 1 (Create n1 (node_at (pos 1) (pos 1)) ∷ Create n2 (node_at (pos 1) (pos 20)) ∷ Create w1 (way_of (n1 ∷ n2 ∷ [])) ∷ [])
    ∷ does_all_since anna 2 1 (Create n3 (node_at (pos 1) (pos 10)) ∷ Nodes w1 (n1 ∷ n3 ∷ n2 ∷ []) ∷ [])
    ∷ does_all_since bob 1 1 (Create n4 (node_at (pos 1) (pos 15)) ∷ Nodes w1 (n1 ∷ n4 ∷ n2 ∷ []) ∷ [])
    ∷ does_all_since bob 1 2 (Create n4 (node_at (pos 1) (pos 15)) ∷ Nodes w1 (n1 ∷ n3 ∷ n4 ∷ n2 ∷ []) ∷ [])
    ∷ does_since bob 2 2 (Retag w1 given)
    ∷ does_since anna 3 3 (Retag w1 named)
    ∷ does_since anna 3 3 (Retag w1 given)
    ∷ does_since anna 3 2 (Move (n4 ∷ []) (pos 1) (pos 1))
    ∷ undoes bob 3 None
    ∷ does_since anna 3 4 (Retag w1 named)
    ∷ does_since anna 3 5 (Retag w1 named)
    ∷ does_since anna 4 99 (Delete n9)
    ∷ does_since anna 4 6 (Delete n9)
    ∷ undoes anna 4 None
    ∷ does_since bob 4 0 (Reverse w1)
    ∷ does bob 4 (Reverse w1)
    ∷ redoes anna 5
    ∷ [] in
    replies ample calls ≡ (Done 1 ∷ Done 2 ∷ Changed 2 w1 ∷ Done 3 ∷ Done 4 ∷ Changed 4 w1 ∷ refused Nothing ∷ Changed 3 n4 ∷ Undid 5 4 ∷ Changed 5 w1 ∷ Done 6 ∷ NoSuch ∷ refused (Absent n9) ∷ Undid 7 6 ∷ Changed 2 w1 ∷ Done 8 ∷ Redid 9 6 ∷ [])

-- an author has seen its own entries; a reference to a node does not change it; each action of a group is looked at, and
-- only the parts that both change
unfoldable pub seen_since : Type 0
seen_since =
    let named : GivenTags = (110 ∷ [], Some (65 ∷ [])) ∷ [] in
    let calls =
    does anna 1 (Create n1 (node_at (pos 1) (pos 1)))
    ∷ does anna 2 (Create n2 (node_at (pos 2) (pos 2)))
    ∷ does anna 3 (Retag n1 given)
    ∷ does_since anna 4 2 (Retag n1 named)
    ∷ does bob 1 (Move (n1 ∷ []) (pos 5) (pos 5))
    ∷ does_since anna 5 4 (Create w1 (way_of (n1 ∷ n2 ∷ [])))
    ∷ does_all_since anna 6 4 (Move (n1 ∷ []) (pos 1) (pos 1) ∷ Retag n2 given ∷ [])
    ∷ does_since anna 6 4 (Retag n1 ((107 ∷ [], None) ∷ []))
    ∷ does bob 2 (Delete w1)
    ∷ does_since anna 7 7 (Retag w1 given)
    ∷ does_since anna 7 7 (Create w1 (way_of (n2 ∷ n1 ∷ [])))
    ∷ does_since anna 7 8 (Create w1 (way_of (n2 ∷ n1 ∷ [])))
    ∷ [] in
    replies ample calls ≡ (Done 1 ∷ Done 2 ∷ Done 3 ∷ Done 4 ∷ Done 5 ∷ Done 6 ∷ Changed 5 n1 ∷ Done 7 ∷ Done 8 ∷ refused (Absent w1) ∷ Changed 8 w1 ∷ Done 9 ∷ [])
