-- Examples of the definitions, worked out by hand.
use Rattle.std.specs.Prelude.{◌≡◌, ◌++◌, [], ◌∷◌, Some, None, pos, negsuc, replicate}
use Rattle.room_interface.specs.Prelude.{Rows, row_at, put_row, thousand_tags, Pairs}
use Rattle.osm_elements.specs.declared.element.Element.TheVariants.{Node, Way}
use Rattle.room_interface.specs.declared.refusal.Refusal.TheVariants.{Absent, Present, WrongKind, OutOfRange, TooFew, TooMany, InUse, Nothing}
use Rattle.edit_simple.specs.Create.{create_checks, after_create}
use Rattle.edit_simple.specs.Delete.{delete_checks, after_delete}
use Rattle.edit_simple.specs.Members.{members_checks, after_members}
use Rattle.edit_simple.specs.Move.{move_checks, after_move}
use Rattle.edit_simple.specs.Nodes.{nodes_checks, after_nodes}
use Rattle.edit_simple.specs.Purge.{purge_checks, after_purge}
use Rattle.edit_simple.specs.Retag.{retag_checks, after_retag}
use Rattle.edit_simple.specs.Reverse.{reverse_checks, after_reverse}
use Rattle.edit_simple.specs.Scenes.{Any, n-1, n-2, n-3, n-7, n-8, n5, w1, w2, w3, w5, r1, r9, node_at, way_of, relation_of, outer, x, start, start_with, refused}

-- a used element is not deleted, and the refusal has its least user
unfoldable pub in_use : Type 0
in_use =
    (refused (delete_checks start n-1) ≡ Some (InUse n-1 w1))
    × (refused (delete_checks start w1) ≡ Some (InUse w1 r1))
    × (refused (delete_checks start w3) ≡ Some (Absent w3))
    × (refused (delete_checks start r1) ≡ None)
    × (after_delete start r1
    ≡ (n-3, node_at 3) ∷ (n-2, node_at 2) ∷ (n-1, node_at 1) ∷ (w1, way_of (n-1 ∷ n-2 ∷ [])) ∷ (w2, way_of (n-1 ∷ n-3 ∷ n-2 ∷ [])) ∷ [])

-- the first map after creating a relation that is its own member
abbrev pub with_itself : Rows Any
with_itself = after_create start r9 (relation_of ((r9, []) ∷ []))

-- a relation can be its own member, and then it is its own user
unfoldable pub own_member : Type 0
own_member =
    (refused (create_checks start r9 (relation_of ((r9, []) ∷ []))) ≡ None)
    × (refused (delete_checks with_itself r9) ≡ Some (InUse r9 r9))

-- the first map after creating a way that goes there and back
abbrev pub with_return : Rows Any
with_return = after_create start w3 (way_of (n-1 ∷ n-2 ∷ n-1 ∷ []))

-- an action that changes nothing is refused
unfoldable pub nothing : Type 0
nothing =
    (refused (reverse_checks with_return w3) ≡ Some Nothing)
    × (refused (move_checks with_return (w3 ∷ []) (pos 0) (pos 0)) ≡ Some Nothing)
    × (refused (move_checks with_return [] (pos 1) (pos 0)) ≡ Some Nothing)
    × (refused (retag_checks with_return w3 ((x, None) ∷ [])) ≡ Some Nothing)
    × (refused (nodes_checks with_return w3 (n-1 ∷ n-2 ∷ n-1 ∷ [])) ≡ Some Nothing)
    × (refused (members_checks with_itself r9 ((r9, []) ∷ [])) ≡ Some Nothing)

-- a created way comes after all lesser names
unfoldable pub created : Type 0
created =
    (refused (create_checks start w3 (way_of (n-1 ∷ n-2 ∷ n-1 ∷ []))) ≡ None)
    × (after_create start w3 (way_of (n-1 ∷ n-2 ∷ n-1 ∷ []))
    ≡ (n-3, node_at 3) ∷ (n-2, node_at 2) ∷ (n-1, node_at 1) ∷ (w1, way_of (n-1 ∷ n-2 ∷ [])) ∷ (w2, way_of (n-1 ∷ n-3 ∷ n-2 ∷ []))
    ∷ (w3, way_of (n-1 ∷ n-2 ∷ n-1 ∷ [])) ∷ (r1, relation_of ((n-1, []) ∷ (w2, outer) ∷ (w1, outer) ∷ (w2, outer) ∷ [])) ∷ [])
    × (refused (create_checks start n5 (node_at 5)) ≡ None)

-- the first map with these tags on w1
abbrev pub tagged : Pairs → Rows Any
tagged tags = start_with (Way (n-1 ∷ n-2 ∷ []) tags) (way_of (n-1 ∷ n-3 ∷ n-2 ∷ [])) ((n-1, []) ∷ (w2, outer) ∷ (w1, outer) ∷ (w2, outer) ∷ [])

-- keys get new or other values in the order of their bytes; a key without a value loses its tag, if it has one
unfoldable pub retagged : Type 0
retagged =
    (refused (retag_checks start w1 ((outer, Some x) ∷ (x, Some []) ∷ [])) ≡ None)
    × (after_retag start w1 ((outer, Some x) ∷ (x, Some []) ∷ []) ≡ tagged ((outer, x) ∷ (x, []) ∷ []))
    × (refused (retag_checks (tagged ((outer, x) ∷ (x, []) ∷ [])) w1 ((outer, None) ∷ (x, Some outer) ∷ [])) ≡ None)
    × (after_retag (tagged ((outer, x) ∷ (x, []) ∷ [])) w1 ((outer, None) ∷ (x, Some outer) ∷ []) ≡ tagged ((x, outer) ∷ []))
    × (after_retag (tagged ((x, outer) ∷ [])) w1 ((outer, Some []) ∷ []) ≡ tagged ((outer, []) ∷ (x, outer) ∷ []))
    × (after_retag (tagged ((x, outer) ∷ [])) w1 ((outer, None) ∷ []) ≡ tagged ((x, outer) ∷ []))

-- listed nodes and the nodes of listed ways move once, however often they are listed; n-3 stays if w2 is not listed
unfoldable pub moved : Type 0
moved =
    (refused (move_checks start (w2 ∷ n-1 ∷ []) (negsuc 9999999) (pos 5)) ≡ None)
    × (after_move start (w2 ∷ n-1 ∷ []) (negsuc 9999999) (pos 5)
    ≡ (n-3, Node (pos 20000000) (pos 30000005) []) ∷ (n-2, Node (pos 10000000) (pos 20000005) []) ∷ (n-1, Node (pos 0) (pos 10000005) [])
    ∷ (w1, way_of (n-1 ∷ n-2 ∷ [])) ∷ (w2, way_of (n-1 ∷ n-3 ∷ n-2 ∷ [])) ∷ (r1, relation_of ((n-1, []) ∷ (w2, outer) ∷ (w1, outer) ∷ (w2, outer) ∷ [])) ∷ [])
    × (row_at (after_move start (w1 ∷ []) (pos 1) (pos 0)) n-3 ≡ Some (node_at 3))
    × (row_at (after_move start (w1 ∷ []) (pos 1) (pos 0)) n-2 ≡ Some (Node (pos 20000001) (pos 20000000) []))

-- a way is reversed, or gets new nodes; a relation gets new members, among them itself, or none
unfoldable pub relisted : Type 0
relisted =
    (refused (reverse_checks start w2) ≡ None)
    × (after_reverse start w2 ≡ start_with (way_of (n-1 ∷ n-2 ∷ [])) (way_of (n-2 ∷ n-3 ∷ n-1 ∷ [])) ((n-1, []) ∷ (w2, outer) ∷ (w1, outer) ∷ (w2, outer) ∷ []))
    × (refused (nodes_checks start w2 (n-3 ∷ n-1 ∷ n-3 ∷ [])) ≡ None)
    × (after_nodes start w2 (n-3 ∷ n-1 ∷ n-3 ∷ []) ≡ start_with (way_of (n-1 ∷ n-2 ∷ [])) (way_of (n-3 ∷ n-1 ∷ n-3 ∷ [])) ((n-1, []) ∷ (w2, outer) ∷ (w1, outer) ∷ (w2, outer) ∷ []))
    × (refused (members_checks start r1 ((r1, x) ∷ (n-2, []) ∷ [])) ≡ None)
    × (after_members start r1 ((r1, x) ∷ (n-2, []) ∷ []) ≡ start_with (way_of (n-1 ∷ n-2 ∷ [])) (way_of (n-1 ∷ n-3 ∷ n-2 ∷ [])) ((r1, x) ∷ (n-2, []) ∷ []))
    × (refused (members_checks start r1 []) ≡ None)
    × (row_at (after_members start r1 []) r1 ≡ Some (relation_of []))

-- the map with the way that goes there and back, which is a member of r9 twice
abbrev pub with_return_twice : Rows Any
with_return_twice = after_create with_return r9 (relation_of ((w3, outer) ∷ (n-2, x) ∷ (w3, x) ∷ []))

-- a purge removes the ways that keep fewer than two nodes, and all relations lose the removed members; a relation stays
-- even if it keeps no member, and so does a way that keeps one node twice
unfoldable pub purged : Type 0
purged =
    (refused (purge_checks start n-1) ≡ None)
    × (after_purge start n-1
    ≡ (n-3, node_at 3) ∷ (n-2, node_at 2) ∷ (w2, way_of (n-3 ∷ n-2 ∷ [])) ∷ (r1, relation_of ((w2, outer) ∷ (w2, outer) ∷ [])) ∷ [])
    × (row_at (after_purge with_return_twice n-1) w3 ≡ None)
    × (row_at (after_purge with_return_twice n-1) r9 ≡ Some (relation_of ((n-2, x) ∷ [])))
    × (row_at (after_purge (after_create start w5 (way_of (n-1 ∷ n-1 ∷ []))) n-1) w5 ≡ None)
    × (row_at (after_purge with_return_twice n-2) w3 ≡ Some (way_of (n-1 ∷ n-1 ∷ [])))
    × (row_at (after_purge with_return_twice n-2) r9 ≡ Some (relation_of ((w3, outer) ∷ (w3, x) ∷ [])))
    × (after_purge start w2
    ≡ (n-3, node_at 3) ∷ (n-2, node_at 2) ∷ (n-1, node_at 1) ∷ (w1, way_of (n-1 ∷ n-2 ∷ [])) ∷ (r1, relation_of ((n-1, []) ∷ (w1, outer) ∷ [])) ∷ [])
    × (refused (purge_checks with_itself r9) ≡ None)
    × (after_purge with_itself r9 ≡ start)
    × (row_at (after_purge (after_create start r9 (relation_of ((w2, x) ∷ []))) w2) r9 ≡ Some (relation_of []))
    × (refused (purge_checks start w3) ≡ Some (Absent w3))

-- the refusals of a create, in order: the kind, a present name, the length, and the least absent name
unfoldable pub create_refusals : Type 0
create_refusals =
    (refused (create_checks start n-1 (way_of [])) ≡ Some (WrongKind n-1))
    × (refused (create_checks start n-1 (node_at 1)) ≡ Some (Present n-1))
    × (refused (create_checks start w1 (way_of [])) ≡ Some (Present w1))
    × (refused (create_checks start w5 (way_of [])) ≡ Some (TooFew w5))
    × (refused (create_checks start w5 (way_of (n-7 ∷ []))) ≡ Some (TooFew w5))
    × (refused (create_checks start w5 (way_of (replicate 2000 n-1))) ≡ None)
    × (refused (create_checks start w5 (way_of (replicate 2001 n-7))) ≡ Some (TooMany w5))
    × (refused (create_checks start r9 (relation_of (replicate 32000 (n-1, x)))) ≡ None)
    × (refused (create_checks start r9 (relation_of (replicate 32001 (n-7, x)))) ≡ Some (TooMany r9))
    × (refused (create_checks start w5 (way_of (n-7 ∷ n-8 ∷ n-7 ∷ []))) ≡ Some (Absent n-8))
    × (refused (create_checks start r9 (relation_of ((r9, []) ∷ (w5, x) ∷ (w3, x) ∷ []))) ≡ Some (Absent w3))

-- the first map with a node at five degrees that has these tags
abbrev pub with_tags_on : Pairs → Rows Any
with_tags_on tags = put_row start n5 (Node (pos 50000000) (pos 50000000) tags)

-- the refusals of a retag, in order: an absent element, and more than 1,000 tags, however many there were before
unfoldable pub retag_refusals : Type 0
retag_refusals =
    (refused (retag_checks start w3 ((x, Some x) ∷ [])) ≡ Some (Absent w3))
    × (refused (retag_checks (with_tags_on thousand_tags) n5 ((x, Some x) ∷ [])) ≡ Some (TooMany n5))
    × (refused (retag_checks (with_tags_on thousand_tags) n5 ((48 ∷ 48 ∷ [], None) ∷ (x, Some x) ∷ [])) ≡ None)
    × (refused (retag_checks (with_tags_on thousand_tags) n5 ((48 ∷ 48 ∷ [], Some x) ∷ [])) ≡ None)
    × (refused (retag_checks (with_tags_on (thousand_tags ++ (x, []) ∷ [])) n5 ((48 ∷ 48 ∷ [], Some x) ∷ [])) ≡ Some (TooMany n5))

-- the refusals of a move, in order: the least relation, the least absent name, and the least node that leaves the range
unfoldable pub move_refusals : Type 0
move_refusals =
    (refused (move_checks start (w3 ∷ r9 ∷ n-1 ∷ r1 ∷ []) (pos 0) (pos 0)) ≡ Some (WrongKind r1))
    × (refused (move_checks start (w3 ∷ n-7 ∷ n-1 ∷ []) (pos 900000000) (pos 0)) ≡ Some (Absent n-7))
    × (refused (move_checks start (n-1 ∷ n-2 ∷ []) (pos 900000000) (pos 0)) ≡ Some (OutOfRange n-2))
    × (refused (move_checks start (n-1 ∷ []) (pos 890000001) (pos 0)) ≡ Some (OutOfRange n-1))
    × (refused (move_checks start (n-1 ∷ []) (pos 890000000) (pos 0)) ≡ None)
    × (refused (move_checks start (w1 ∷ []) (pos 0) (pos 1780000001)) ≡ Some (OutOfRange n-2))
    × (refused (move_checks start (w1 ∷ []) (pos 0) (pos 1780000000)) ≡ None)
    × (refused (move_checks start (n-1 ∷ []) (pos 0) (negsuc 1810000000)) ≡ Some (OutOfRange n-1))
    × (refused (move_checks start (n-1 ∷ []) (pos 0) (negsuc 1809999999)) ≡ None)

-- the refusals of a reverse, nodes or members, in order: the kind, an absent element, the length, and the least absent
-- name
unfoldable pub relist_refusals : Type 0
relist_refusals =
    (refused (reverse_checks start n5) ≡ Some (WrongKind n5))
    × (refused (reverse_checks start w5) ≡ Some (Absent w5))
    × (refused (nodes_checks start r9 []) ≡ Some (WrongKind r9))
    × (refused (nodes_checks start w5 []) ≡ Some (Absent w5))
    × (refused (nodes_checks start w1 (n-7 ∷ [])) ≡ Some (TooFew w1))
    × (refused (nodes_checks start w1 (replicate 2000 n-1)) ≡ None)
    × (refused (nodes_checks start w1 (replicate 2001 n-7)) ≡ Some (TooMany w1))
    × (refused (nodes_checks start w1 (n-7 ∷ n-1 ∷ n-8 ∷ [])) ≡ Some (Absent n-8))
    × (refused (members_checks start w5 []) ≡ Some (WrongKind w5))
    × (refused (members_checks start r9 []) ≡ Some (Absent r9))
    × (refused (members_checks start r1 (replicate 32000 (n-1, x))) ≡ None)
    × (refused (members_checks start r1 (replicate 32001 (n-7, x))) ≡ Some (TooMany r1))
    × (refused (members_checks start r1 ((r9, x) ∷ (w5, x) ∷ (w3, x) ∷ (n-1, x) ∷ [])) ≡ Some (Absent w3))
