-- Examples of the definitions, worked out by hand.
use Rattle.std.specs.Prelude.{◌≡◌, ℕ, List, [], ◌∷◌, Option, Some, None, pos, replicate}
use Rattle.edit_simple.specs.Prelude.{Rows, row_at, put_row, thousand_tags, Any, n-1, n-2, n-3, n-7, n-8, w1, w2, w3, w5, r1, r9, node_at, way_of, relation_of, outer, start, refused}
use Rattle.osm_elements.specs.declared.name.Name.{Name}
use Rattle.osm_elements.specs.declared.element.Element.{Element}
use Rattle.osm_elements.specs.declared.element.Element.TheVariants.{Node}
use Rattle.room_interface.specs.declared.refusal.Refusal.{Refusal}
use Rattle.room_interface.specs.declared.refusal.Refusal.TheVariants.{Absent, Present, WrongKind, Same, BadPosition, NotEndToEnd, TagConflict, TooFew, TooMany}
use Rattle.edit_topology.specs.Join.{join_checks, after_join}
use Rattle.edit_topology.specs.Merge.{merge_checks, after_merge}
use Rattle.edit_topology.specs.Scenes.{a1, a2, b1, b2, c1, tagged_node, tagged_way, beside, ring, thrice, with_many, with_long, ways_tagged, nodes_tagged, there_and_back}
use Rattle.edit_topology.specs.Split.{split_checks, after_split}
use Rattle.edit_topology.specs.Unglue.{unglue_checks, after_unglue}

-- splits of a closed way of three nodes, at each position and after the last
unfoldable pub closed_way_split : Type 0
closed_way_split =
    (refused (split_checks ring w3 0 w5) ≡ Some BadPosition)
    × (refused (split_checks ring w3 1 w5) ≡ None)
    × (row_at (after_split ring w3 1 w5) w3 ≡ Some (tagged_way (n-1 ∷ n-2 ∷ []) (a1 ∷ [])))
    × (row_at (after_split ring w3 1 w5) w5 ≡ Some (tagged_way (n-2 ∷ n-3 ∷ n-1 ∷ []) (a1 ∷ [])))
    × (refused (split_checks ring w3 2 w5) ≡ None)
    × (row_at (after_split ring w3 2 w5) w3 ≡ Some (tagged_way (n-1 ∷ n-2 ∷ n-3 ∷ []) (a1 ∷ [])))
    × (row_at (after_split ring w3 2 w5) w5 ≡ Some (tagged_way (n-3 ∷ n-1 ∷ []) (a1 ∷ [])))
    × (refused (split_checks ring w3 3 w5) ≡ Some BadPosition)
    × (refused (split_checks ring w3 4 w5) ≡ Some BadPosition)

-- a split doubles each member in its place, also members that repeat; the join restores the map
unfoldable pub members_split : Type 0
members_split =
    (refused (split_checks thrice w2 1 w5) ≡ None)
    × (row_at (after_split thrice w2 1 w5) r9 ≡ Some (relation_of ((w2, []) ∷ (w5, []) ∷ (w2, []) ∷ (w5, []) ∷ (w2, outer) ∷ (w5, outer) ∷ [])))
    × (row_at (after_split thrice w2 1 w5) r1 ≡ Some (relation_of ((n-1, []) ∷ (w2, outer) ∷ (w5, outer) ∷ (w1, outer) ∷ (w2, outer) ∷ (w5, outer) ∷ [])))
    × (refused (join_checks (after_split thrice w2 1 w5) w2 w5) ≡ None)
    × (after_join (after_split thrice w2 1 w5) w2 w5 ≡ thrice)

-- each refusal of a split, in their order; a relation may get 32,000 members; if two relations get more, the refusal
-- names the lesser
unfoldable pub split_refusals : Type 0
split_refusals =
    (refused (split_checks start n-1 0 r1) ≡ Some (WrongKind n-1))
    × (refused (split_checks start w5 0 r1) ≡ Some (WrongKind r1))
    × (refused (split_checks start w5 1 w1) ≡ Some (Absent w5))
    × (refused (split_checks start w2 0 w1) ≡ Some (Present w1))
    × (refused (split_checks start w2 1 w2) ≡ Some (Present w2))
    × (refused (split_checks start w1 1 w5) ≡ Some BadPosition)
    × (refused (split_checks (with_many start r9 16000 0) w2 1 w5) ≡ None)
    × (refused (split_checks (with_many start r9 16000 1) w2 1 w5) ≡ Some (TooMany r9))
    × (refused (split_checks (with_many (with_many start r9 16000 1) r1 16000 1) w2 1 w5) ≡ Some (TooMany r1))
    × (refused (split_checks (with_many start r9 16000 1) w2 2 w5) ≡ Some BadPosition)

-- ways join only if the last node of one is the first node of the other; no other two ends join
unfoldable pub ends_joined : Type 0
ends_joined =
    (refused (join_checks (beside (n-2 ∷ n-3 ∷ [])) w1 w3) ≡ None)
    × (row_at (after_join (beside (n-2 ∷ n-3 ∷ [])) w1 w3) w1 ≡ Some (way_of (n-1 ∷ n-2 ∷ n-3 ∷ [])))
    × (row_at (after_join (beside (n-2 ∷ n-3 ∷ [])) w1 w3) w3 ≡ None)
    × (refused (join_checks (beside (n-3 ∷ n-2 ∷ [])) w1 w3) ≡ Some NotEndToEnd)
    × (refused (join_checks (beside (n-1 ∷ n-3 ∷ [])) w1 w3) ≡ Some NotEndToEnd)
    × (refused (join_checks (beside (n-3 ∷ n-1 ∷ [])) w1 w3) ≡ Some NotEndToEnd)
    × (refused (join_checks (beside (n-2 ∷ n-3 ∷ n-1 ∷ [])) w1 w3) ≡ None)
    × (row_at (after_join (beside (n-2 ∷ n-3 ∷ n-1 ∷ [])) w1 w3) w1 ≡ Some (way_of (n-1 ∷ n-2 ∷ n-3 ∷ n-1 ∷ [])))
    × (refused (join_checks ring w3 w3) ≡ Some (Same w3))

-- w1, a way w3 that begins where w1 ends, and a relation with the given members
abbrev pub with_members : List (Name × List ℕ) → Rows Any
with_members members = put_row (beside (n-2 ∷ n-3 ∷ [])) r9 (relation_of members)

-- the refusal of a join of w1 and w3, and the relation after it
abbrev pub joining_members : List (Name × List ℕ) → Option (Refusal Any) × Option (Element Any)
joining_members members = (refused (join_checks (with_members members) w1 w3), row_at (after_join (with_members members) w1 w3) r9)

-- a join drops a member w3 only if it comes right after w1 in the same role in the list before the join
unfoldable pub members_joined : Type 0
members_joined =
    (joining_members ((w1, []) ∷ (w3, []) ∷ (w3, []) ∷ []) ≡ (None, Some (relation_of ((w1, []) ∷ (w1, []) ∷ []))))
    × (joining_members ((w3, []) ∷ (w1, []) ∷ []) ≡ (None, Some (relation_of ((w1, []) ∷ (w1, []) ∷ []))))
    × (joining_members ((w1, []) ∷ (n-1, []) ∷ (w3, []) ∷ []) ≡ (None, Some (relation_of ((w1, []) ∷ (n-1, []) ∷ (w1, []) ∷ []))))
    × (joining_members ((w1, outer) ∷ (w3, []) ∷ []) ≡ (None, Some (relation_of ((w1, outer) ∷ (w1, []) ∷ []))))
    × (joining_members ((w1, []) ∷ (w1, []) ∷ []) ≡ (None, Some (relation_of ((w1, []) ∷ (w1, []) ∷ []))))
    × (joining_members ((w1, []) ∷ (w3, []) ∷ (w1, outer) ∷ (w3, outer) ∷ []) ≡ (None, Some (relation_of ((w1, []) ∷ (w1, outer) ∷ []))))

-- the tags of both ways if no key has two values, and otherwise a refusal with the least such key
unfoldable pub tags_joined : Type 0
tags_joined =
    (refused (join_checks (ways_tagged (b2 ∷ []) (a1 ∷ b2 ∷ [])) w3 w5) ≡ None)
    × (row_at (after_join (ways_tagged (b2 ∷ []) (a1 ∷ b2 ∷ [])) w3 w5) w3 ≡ Some (tagged_way (n-1 ∷ n-2 ∷ n-3 ∷ []) (a1 ∷ b2 ∷ [])))
    × (refused (join_checks (ways_tagged (a1 ∷ b1 ∷ []) (a2 ∷ b2 ∷ [])) w3 w5) ≡ Some (TagConflict (97 ∷ [])))
    × (refused (join_checks (ways_tagged (a1 ∷ b1 ∷ []) (b2 ∷ c1 ∷ [])) w3 w5) ≡ Some (TagConflict (98 ∷ [])))
    × (refused (join_checks (ways_tagged thousand_tags ((48 ∷ 48 ∷ [], []) ∷ [])) w3 w5) ≡ None)
    × (refused (join_checks (ways_tagged thousand_tags (a1 ∷ [])) w3 w5) ≡ Some (TooMany w3))
    × (refused (join_checks (ways_tagged thousand_tags ((48 ∷ 48 ∷ [], 49 ∷ []) ∷ a1 ∷ [])) w3 w5) ≡ Some (TagConflict (48 ∷ 48 ∷ [])))

-- the remaining refusals of a join, in their order; a way may get 2,000 nodes
unfoldable pub join_refusals : Type 0
join_refusals =
    (refused (join_checks start n-1 r1) ≡ Some (WrongKind n-1))
    × (refused (join_checks start n-1 n-1) ≡ Some (WrongKind n-1))
    × (refused (join_checks start w5 r1) ≡ Some (WrongKind r1))
    × (refused (join_checks start w5 w5) ≡ Some (Same w5))
    × (refused (join_checks start w5 w3) ≡ Some (Absent w5))
    × (refused (join_checks start w1 w3) ≡ Some (Absent w3))
    × (refused (join_checks start w1 w2) ≡ Some NotEndToEnd)
    × (refused (join_checks (with_long 1001 [] 1000 []) w3 w5) ≡ None)
    × (refused (join_checks (with_long 1001 [] 1001 []) w3 w5) ≡ Some (TooMany w3))
    × (refused (join_checks (with_long 1001 (a1 ∷ []) 1001 (a2 ∷ [])) w3 w5) ≡ Some (TooMany w3))
    × (refused (join_checks (put_row (with_long 1001 [] 1001 []) w5 (way_of (replicate 1001 n-2))) w3 w5) ≡ Some NotEndToEnd)

-- the refusal of a merge of n-3 into n-1 if there is a third way, and this way after it
abbrev pub merging_beside : List Name → Option (Refusal Any) × Option (Element Any)
merging_beside nodes = (refused (merge_checks (beside nodes) n-1 n-3), row_at (after_merge (beside nodes) n-1 n-3) w3)

-- merges of neighbours in the middle and at the end of a closed way; its two ends are not neighbours
unfoldable pub neighbours_merged : Type 0
neighbours_merged =
    (refused (merge_checks ring n-2 n-3) ≡ None)
    × (row_at (after_merge ring n-2 n-3) w3 ≡ Some (tagged_way (n-1 ∷ n-2 ∷ n-1 ∷ []) (a1 ∷ [])))
    × (row_at (after_merge ring n-2 n-3) w2 ≡ Some (way_of (n-1 ∷ n-2 ∷ [])))
    × (row_at (after_merge ring n-2 n-3) n-2 ≡ Some (node_at 2))
    × (row_at (after_merge ring n-2 n-3) n-3 ≡ None)
    × (refused (merge_checks ring n-1 n-3) ≡ None)
    × (row_at (after_merge ring n-1 n-3) w3 ≡ Some (tagged_way (n-1 ∷ n-2 ∷ n-1 ∷ []) (a1 ∷ [])))
    × (merging_beside (n-3 ∷ n-2 ∷ n-1 ∷ []) ≡ (None, Some (way_of (n-1 ∷ n-2 ∷ n-1 ∷ []))))
    × (merging_beside (n-3 ∷ n-2 ∷ n-3 ∷ []) ≡ (None, Some (way_of (n-1 ∷ n-2 ∷ n-1 ∷ []))))

-- repetitions before the merge: those of k are dropped if the list names g, and no others are dropped
unfoldable pub doubles_merged : Type 0
doubles_merged =
    (merging_beside (n-1 ∷ n-1 ∷ n-2 ∷ n-3 ∷ []) ≡ (None, Some (way_of (n-1 ∷ n-2 ∷ n-1 ∷ []))))
    × (merging_beside (n-2 ∷ n-1 ∷ n-3 ∷ n-1 ∷ []) ≡ (None, Some (way_of (n-2 ∷ n-1 ∷ []))))
    × (merging_beside (n-2 ∷ n-2 ∷ n-3 ∷ []) ≡ (None, Some (way_of (n-2 ∷ n-2 ∷ n-1 ∷ []))))
    × (merging_beside (n-1 ∷ n-1 ∷ n-2 ∷ []) ≡ (None, Some (way_of (n-1 ∷ n-1 ∷ n-2 ∷ []))))

-- a relation that names both nodes keeps the repeated members
unfoldable pub members_merged : Type 0
members_merged =
    (let m = put_row start r9 (relation_of ((n-1, []) ∷ (n-3, []) ∷ (w2, []) ∷ (n-3, outer) ∷ [])) in
    (refused (merge_checks m n-1 n-3) ≡ None)
    × (row_at (after_merge m n-1 n-3) r9 ≡ Some (relation_of ((n-1, []) ∷ (n-1, []) ∷ (w2, []) ∷ (n-1, outer) ∷ []))))

-- the node that stays keeps its position and has the tags of both
unfoldable pub tags_merged : Type 0
tags_merged =
    (refused (merge_checks (nodes_tagged (b2 ∷ []) (a1 ∷ b2 ∷ [])) n-1 n-3) ≡ None)
    × (row_at (after_merge (nodes_tagged (b2 ∷ []) (a1 ∷ b2 ∷ [])) n-1 n-3) n-1 ≡ Some (tagged_node 1 (a1 ∷ b2 ∷ [])))
    × (refused (merge_checks (nodes_tagged (a1 ∷ b1 ∷ []) (b2 ∷ c1 ∷ [])) n-1 n-3) ≡ Some (TagConflict (98 ∷ [])))
    × (refused (merge_checks (nodes_tagged thousand_tags ((48 ∷ 48 ∷ [], []) ∷ [])) n-1 n-3) ≡ None)
    × (refused (merge_checks (nodes_tagged thousand_tags (a1 ∷ [])) n-1 n-3) ≡ Some (TooMany n-1))
    × (refused (merge_checks (nodes_tagged thousand_tags ((48 ∷ 48 ∷ [], 49 ∷ []) ∷ a1 ∷ [])) n-1 n-3) ≡ Some (TagConflict (48 ∷ 48 ∷ [])))

-- the remaining refusals of a merge, in their order; if two ways get too short, the refusal names the lesser, and it
-- comes before a conflict of tags
unfoldable pub merge_refusals : Type 0
merge_refusals =
    (refused (merge_checks start w1 r1) ≡ Some (WrongKind w1))
    × (refused (merge_checks start w1 w1) ≡ Some (WrongKind w1))
    × (refused (merge_checks start n-7 r1) ≡ Some (WrongKind r1))
    × (refused (merge_checks start n-7 n-7) ≡ Some (Same n-7))
    × (refused (merge_checks start n-7 n-8) ≡ Some (Absent n-7))
    × (refused (merge_checks start n-1 n-8) ≡ Some (Absent n-8))
    × (refused (merge_checks (beside (n-2 ∷ n-1 ∷ [])) n-1 n-2) ≡ Some (TooFew w1))
    × (refused (merge_checks (beside (n-3 ∷ n-3 ∷ [])) n-1 n-3) ≡ Some (TooFew w3))
    × (refused (merge_checks (beside (n-1 ∷ n-3 ∷ n-1 ∷ [])) n-1 n-3) ≡ Some (TooFew w3))
    × (refused (merge_checks (put_row (nodes_tagged (a1 ∷ []) (a2 ∷ [])) w3 (way_of (n-3 ∷ n-1 ∷ []))) n-1 n-3) ≡ Some (TooFew w3))

-- the whole map after an unglue: the new node has the old one's position, and otherwise only the way changes
unfoldable pub map_unglued : Type 0
map_unglued =
    (refused (unglue_checks start w1 1 n-7) ≡ None)
    × (after_unglue start w1 1 n-7
    ≡ (n-7, node_at 2)
    ∷ (n-3, node_at 3)
    ∷ (n-2, node_at 2)
    ∷ (n-1, node_at 1)
    ∷ (w1, way_of (n-1 ∷ n-7 ∷ []))
    ∷ (w2, way_of (n-1 ∷ n-3 ∷ n-2 ∷ []))
    ∷ (r1, relation_of ((n-1, []) ∷ (w2, outer) ∷ (w1, outer) ∷ (w2, outer) ∷ []))
    ∷ [])

-- unglues at both ends of a closed way, where the other end stays, and after the last; a merge takes one back
unfoldable pub closed_way_unglued : Type 0
closed_way_unglued =
    (refused (unglue_checks ring w3 0 n-7) ≡ None)
    × (row_at (after_unglue ring w3 0 n-7) w3 ≡ Some (tagged_way (n-7 ∷ n-2 ∷ n-3 ∷ n-1 ∷ []) (a1 ∷ [])))
    × (refused (unglue_checks ring w3 3 n-7) ≡ None)
    × (row_at (after_unglue ring w3 3 n-7) w3 ≡ Some (tagged_way (n-1 ∷ n-2 ∷ n-3 ∷ n-7 ∷ []) (a1 ∷ [])))
    × (refused (unglue_checks ring w3 4 n-7) ≡ Some BadPosition)
    × (refused (merge_checks (after_unglue ring w3 3 n-7) n-1 n-7) ≡ None)
    × (after_merge (after_unglue ring w3 3 n-7) n-1 n-7 ≡ ring)

-- the refusal of an unglue of a third way at a position, this way after it, and the new node
abbrev pub ungluing : List Name → ℕ → Option (Refusal Any) × Option (Element Any) × Option (Element Any)
ungluing nodes i = (refused (unglue_checks (beside nodes) w3 i n-7), row_at (after_unglue (beside nodes) w3 i n-7) w3, row_at (after_unglue (beside nodes) w3 i n-7) n-7)

-- if a way names a node twice, also in a row, an unglue changes one of the two references
unfoldable pub doubles_unglued : Type 0
doubles_unglued =
    (ungluing (n-1 ∷ n-2 ∷ n-1 ∷ n-3 ∷ []) 2 ≡ (None, Some (way_of (n-1 ∷ n-2 ∷ n-7 ∷ n-3 ∷ [])), Some (node_at 1)))
    × (ungluing (n-1 ∷ n-1 ∷ []) 0 ≡ (None, Some (way_of (n-7 ∷ n-1 ∷ [])), Some (node_at 1)))
    × (ungluing (n-1 ∷ n-1 ∷ []) 1 ≡ (None, Some (way_of (n-1 ∷ n-7 ∷ [])), Some (node_at 1)))

-- the new node has the tags of the old one, which keeps them, and the old one's position at that time
unfoldable pub node_copied : Type 0
node_copied =
    (row_at (after_unglue (nodes_tagged (a1 ∷ b2 ∷ []) []) w2 0 n-7) n-7 ≡ Some (tagged_node 1 (a1 ∷ b2 ∷ [])))
    × (row_at (after_unglue (nodes_tagged (a1 ∷ b2 ∷ []) []) w2 0 n-7) n-1 ≡ Some (tagged_node 1 (a1 ∷ b2 ∷ [])))
    × (refused (unglue_checks there_and_back w3 3 n-7) ≡ Some BadPosition)
    × (refused (unglue_checks there_and_back w3 2 n-7) ≡ None)
    × (row_at (after_unglue there_and_back w3 2 n-7) n-7 ≡ Some (Node (pos 10000010) (pos 10000000) []))
    × (row_at (after_unglue there_and_back w3 2 n-7) w3 ≡ Some (way_of (n-1 ∷ n-2 ∷ n-7 ∷ [])))

-- each refusal of an unglue, in their order
unfoldable pub unglue_refusals : Type 0
unglue_refusals =
    (refused (unglue_checks start n-1 9 w5) ≡ Some (WrongKind n-1))
    × (refused (unglue_checks start r1 9 n-1) ≡ Some (WrongKind r1))
    × (refused (unglue_checks start w5 9 w1) ≡ Some (WrongKind w1))
    × (refused (unglue_checks start w5 9 n-1) ≡ Some (Absent w5))
    × (refused (unglue_checks start w1 9 n-1) ≡ Some (Present n-1))
    × (refused (unglue_checks start w1 2 n-7) ≡ Some BadPosition)
