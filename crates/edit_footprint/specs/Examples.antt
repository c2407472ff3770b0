-- Examples of footprints, worked out by hand. `start` has the ways w1 of n-1 and n-2, and w2 of n-1, n-3 and n-2, and
-- the relation r1 of n-1, w2, w1 and w2.
use Rattle.std.specs.Prelude.{◌≡◌, ◌++◌, [], ◌∷◌, Option, Some, None, pos}
use Rattle.edit_actions.specs.Prelude.{Rows, named, put_row, tags_at, rest_at, after, Any, n-1, n-2, n-3, n-7, n5, w1, w2, w3, r1, r9, node_at, way_of, relation_of, outer, x, start, a1, beside, nodes_tagged}
use Rattle.osm_elements.specs.declared.name.Name.{Name}
use Rattle.room_interface.specs.declared.action.Action.{Action}
use Rattle.room_interface.specs.declared.action.Action.TheVariants.{Create, Retag, Move, Reverse, Nodes, Members, Delete, Purge, Split, Join, Merge, Unglue}
use Rattle.edit_footprint.specs.Touches.{presence_read, presence_written, cell_read, cell_written}
use Rattle.edit_footprint.specs.Footprints.{reads_at, changes_at, footprint, meets}
use Rattle.osm_elements.specs.declared.name.Kind.TheVariants as kinds

abbrev pub w9 : Name
w9 = named kinds.Way (pos 9) tt

-- a create: the presence of the new name is written, and that of each name that the new row refers to is read; a
-- relation that is its own member refers to itself
unfoldable pub created : Type 0
created =
    (footprint start (Create n5 (node_at 5)) ≡ presence_written n5 ∷ [])
    × (footprint start (Create w3 (way_of (n-2 ∷ n-3 ∷ n-2 ∷ []))) ≡ presence_read n-3 ∷ presence_read n-2 ∷ presence_written w3 ∷ [])
    × (footprint start (Create r9 (relation_of ((w2, outer) ∷ (r9, []) ∷ (n-3, []) ∷ []))) ≡ presence_read n-3 ∷ presence_read w2 ∷ presence_read r9 ∷ presence_written r9 ∷ [])

-- a retag: only its element's tags are written, and its presence is read
unfoldable pub retagged : Type 0
retagged =
    (footprint start (Retag w1 ((x, Some outer) ∷ [])) ≡ changes_at (tags_at w1))
    × (footprint start (Retag r1 ((x, Some outer) ∷ [])) ≡ changes_at (tags_at r1))

-- a move: the rest of each moved node is written, and that of each listed way, which is unchanged, is read; no way or
-- relation that refers to a node
unfoldable pub moved : Type 0
moved =
    (footprint start (Move (n-3 ∷ []) (pos 10) (pos 0)) ≡ changes_at (rest_at n-3))
    × (footprint start (Move (w1 ∷ []) (pos 10) (pos 0)) ≡ changes_at (rest_at n-2) ++ changes_at (rest_at n-1) ++ reads_at (rest_at w1))
    × (footprint start (Move (w2 ∷ n-1 ∷ w2 ∷ []) (pos 0) (pos 10)) ≡ changes_at (rest_at n-3) ++ changes_at (rest_at n-2) ++ changes_at (rest_at n-1) ++ reads_at (rest_at w2))

-- a reverse: only the way's rest, because the way refers to the same nodes afterwards
unfoldable pub reversed : Type 0
reversed = footprint start (Reverse w2) ≡ changes_at (rest_at w2)

-- new nodes: the rest of the way is written, and the presence of the nodes that it begins or ceases to refer to is
-- read; no node that it also had before, in any order
unfoldable pub nodes_given : Type 0
nodes_given =
    (footprint start (Nodes w1 (n-2 ∷ n-3 ∷ [])) ≡ presence_read n-3 ∷ presence_read n-1 ∷ changes_at (rest_at w1))
    × (footprint start (Nodes w1 (n-1 ∷ n-3 ∷ n-2 ∷ [])) ≡ presence_read n-3 ∷ changes_at (rest_at w1))
    × (footprint start (Nodes w1 (n-2 ∷ n-1 ∷ n-2 ∷ [])) ≡ changes_at (rest_at w1))

-- new members: the rest of the relation is written, and the presence of the members that it begins or ceases to refer
-- to is read, also its own; not that of w1, which it had before in another role
unfoldable pub members_given : Type 0
members_given =
    (footprint start (Members r1 ((r1, x) ∷ (n-2, []) ∷ (w1, x) ∷ [])) ≡ presence_read n-2 ∷ presence_read n-1 ∷ presence_read w2 ∷ changes_at (rest_at r1))
    × (footprint start (Members r1 ((w2, x) ∷ (w1, x) ∷ (n-1, x) ∷ [])) ≡ changes_at (rest_at r1))
    × (footprint start (Members r1 []) ≡ presence_read n-1 ∷ presence_read w1 ∷ presence_read w2 ∷ changes_at (rest_at r1))

-- a delete: the presence of the element is written, and that of each name that it referred to is read
unfoldable pub deleted : Type 0
deleted =
    (footprint (put_row start n5 (node_at 5)) (Delete n5) ≡ presence_written n5 ∷ [])
    × (footprint (beside (n-3 ∷ n-1 ∷ n-3 ∷ [])) (Delete w3) ≡ presence_read n-3 ∷ presence_read n-1 ∷ presence_written w3 ∷ [])
    × (footprint start (Delete r1) ≡ presence_read n-1 ∷ presence_read w1 ∷ presence_read w2 ∷ presence_written r1 ∷ [])

-- a purge: the presence of the element is written, and the rest of each way and relation that loses it; the same for
-- w1, which is removed too; the presence of what all of them ceased to refer to is read; no node that w2 keeps
unfoldable pub purged : Type 0
purged =
    (footprint start (Purge n-1) ≡ presence_read n-2 ∷ presence_read n-1 ∷ presence_written n-1 ∷ presence_read w1 ∷ presence_written w1 ∷ changes_at (rest_at w2) ++ changes_at (rest_at r1))
    × (footprint start (Purge n-3) ≡ presence_read n-3 ∷ presence_written n-3 ∷ changes_at (rest_at w2))
    × (footprint start (Purge w1) ≡ presence_read n-2 ∷ presence_read n-1 ∷ presence_read w1 ∷ presence_written w1 ∷ changes_at (rest_at r1))

-- a split: the presence of both ways is written, so nobody else may change even the tags of the first, which the new
-- way gets; the presence of the node that the way ceases to refer to and of the nodes that the new way refers to is
-- read; and the rest of each relation that has the way as a member is written
unfoldable pub split : Type 0
split =
    (footprint start (Split w2 1 w9)
    ≡ presence_read n-3 ∷ presence_read n-2 ∷ presence_read w2 ∷ presence_written w2 ∷ cell_written (rest_at w2) ∷ presence_read w9 ∷ presence_written w9 ∷ changes_at (rest_at r1))
    × (footprint (beside (n-1 ∷ n-2 ∷ n-3 ∷ n-1 ∷ [])) (Split w3 2 w9)
    ≡ presence_read n-3 ∷ presence_read n-1 ∷ presence_read w3 ∷ presence_written w3 ∷ cell_written (rest_at w3) ∷ presence_written w9 ∷ [])

-- w3 continues from the end of w1 to n-3
abbrev pub further : Rows Any
further = beside (n-2 ∷ n-3 ∷ [])

-- a join: the presence of both ways is written, that of each name that one way begins or the other ceases to refer to
-- is read, and the rest of each relation that had the other way is written; r1 has only the first way, and is unchanged
unfoldable pub joined : Type 0
joined =
    (footprint further (Join w1 w3) ≡ presence_read n-3 ∷ presence_read n-2 ∷ presence_read w1 ∷ presence_written w1 ∷ cell_written (rest_at w1) ∷ presence_written w3 ∷ [])
    × (footprint (put_row further r9 (relation_of ((w3, x) ∷ (n-1, []) ∷ []))) (Join w1 w3)
    ≡ presence_read n-3 ∷ presence_read n-2 ∷ presence_read w1 ∷ presence_written w1 ∷ cell_written (rest_at w1) ∷ presence_read w3 ∷ presence_written w3 ∷ changes_at (rest_at r9))

-- a merge: the presence of both nodes is written, even if the node that stays keeps its row, and the rest of each way
-- and relation that referred to the other node
unfoldable pub merged : Type 0
merged =
    (footprint start (Merge n-1 n-3) ≡ presence_read n-3 ∷ presence_written n-3 ∷ presence_written n-1 ∷ changes_at (rest_at w2))
    × (footprint start (Merge n-3 n-1)
    ≡ presence_read n-3 ∷ presence_written n-3 ∷ presence_read n-1 ∷ presence_written n-1 ∷ changes_at (rest_at w1) ++ changes_at (rest_at w2) ++ changes_at (rest_at r1))
    × (footprint (nodes_tagged [] (a1 ∷ [])) (Merge n-1 n-3)
    ≡ presence_read n-3 ∷ presence_written n-3 ∷ presence_read n-1 ∷ presence_written n-1 ∷ cell_written (tags_at n-1) ∷ changes_at (rest_at w2))

-- the least name at which two actions meet, if b comes after a
abbrev pub shared : Rows Any → Action Any → Action Any → Option Name
shared m a b = meets (footprint m a) (footprint (after m a) b)

-- moves n-1 a bit to the north
abbrev pub north : Action Any
north = Move (n-1 ∷ []) (pos 10) (pos 0)

-- gives an element a tag
abbrev pub tagged : Name → Action Any
tagged y = Retag y ((x, Some outer) ∷ [])

-- an unglue: the presence of the way and of the new node is written, and the node that was at the position is read as a
-- whole, even if the way still refers to it; so a move and a retag of that node meet it
unfoldable pub unglued : Type 0
unglued =
    (footprint start (Unglue w2 0 n-7)
    ≡ presence_read n-7 ∷ presence_written n-7 ∷ reads_at (tags_at n-1) ++ cell_read (rest_at n-1) ∷ presence_read w2 ∷ presence_written w2 ∷ cell_written (rest_at w2) ∷ [])
    × (let m = beside (n-1 ∷ n-2 ∷ n-1 ∷ []) in
    (footprint m (Unglue w3 2 n-7)
    ≡ presence_read n-7 ∷ presence_written n-7 ∷ reads_at (tags_at n-1) ++ cell_read (rest_at n-1) ∷ presence_read w3 ∷ presence_written w3 ∷ cell_written (rest_at w3) ∷ [])
    × (shared m north (Unglue w3 2 n-7) ≡ Some n-1)
    × (shared m (tagged n-1) (Unglue w3 2 n-7) ≡ Some n-1))

-- takes n-3 out of w2
abbrev pub shorter : Action Any
shorter = Nodes w2 (n-1 ∷ n-2 ∷ [])

-- the footprint reads the presence of a node that a way ceases to refer to, so a delete of the node meets it
unfoldable pub ceased : Type 0
ceased =
    (footprint start shorter ≡ presence_read n-3 ∷ changes_at (rest_at w2))
    × (footprint (after start shorter) (Delete n-3) ≡ presence_written n-3 ∷ [])
    × (shared start shorter (Delete n-3) ≡ Some n-3)

-- a move and a tag of one node do not meet, nor do new nodes and a tag of one way, nor a tag of a relation and a purge
-- of its member; two moves of a node meet, and so do a tag and a split of a way
unfoldable pub by_parts : Type 0
by_parts =
    (shared start north (tagged n-1) ≡ None)
    × (shared start shorter (tagged w2) ≡ None)
    × (shared start (tagged r1) (Purge n-1) ≡ None)
    × (shared start (Move (n-1 ∷ []) (pos 0) (pos 5)) north ≡ Some n-1)
    × (shared start (tagged w2) (Split w2 1 w9) ≡ Some w2)

-- draws a way over n-1 and n-3, and then another over the same nodes
abbrev pub drawn : Name → Action Any
drawn w = Create w (way_of (n-1 ∷ n-3 ∷ []))

-- who only looks whether a node is there does not meet others who do, nor who moves or tags it: so of two ways over one
-- node the first can go, and a way over a node that somebody moved; but a way that became a member meets its split
unfoldable pub readers : Type 0
readers =
    (shared start (drawn w3) (drawn w9) ≡ None)
    × (shared start (drawn w3) north ≡ None)
    × (shared start north (drawn w3) ≡ None)
    × (shared (beside (n-3 ∷ n-1 ∷ n-3 ∷ [])) (Delete w3) north ≡ None)
    × (shared start (drawn w3) (Delete n-3) ≡ Some n-3)
    × (shared (beside (n-1 ∷ n-2 ∷ n-3 ∷ [])) (Members r1 ((w3, []) ∷ [])) (Split w3 1 w9) ≡ Some w3)
