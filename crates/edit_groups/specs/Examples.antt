-- Examples of groups, worked out by hand. `start` has the ways w1 of n-1 and n-2, and w2 of n-1, n-3 and n-2, and the
-- relation r1 of n-1, w2, w1 and w2.
use Rattle.std.specs.Prelude.{◌≡◌, ◌++◌, [], ◌∷◌, Some, None, pos, negsuc}
use Rattle.edit_actions.specs.Prelude.{put_row, tags_at, rest_at, both_at, changed_cells, Any, n-1, n-2, n-7, n5, w1, w2, w3, r1, node_at, way_of, outer, x, start, at_position, alone}
use Rattle.room_interface.specs.declared.action.Action.TheVariants.{Create, Retag, Move, Nodes, Delete}
use Rattle.room_interface.specs.declared.refusal.Refusal.TheVariants.{Absent, InUse, Nothing}
use Rattle.room_interface.specs.declared.edit.Edit.{Edit}
use Rattle.room_interface.specs.declared.edit.Edit.TheVariants.{One, Group}
use Rattle.edit_footprint.specs.Touches.{presence_read, presence_written}
use Rattle.edit_footprint.specs.Footprints.{meets, reads_at, changes_at}
use Rattle.edit_groups.specs.Edits.{after, changes, refusal, footprint}

-- draws a way: two nodes, and the way of them
abbrev pub drawing : Edit Any
drawing = Group (Create n5 (node_at 5) ∷ Create n-7 (node_at 7) ∷ Create w3 (way_of (n5 ∷ n-7 ∷ [])) ∷ [])

unfoldable pub drawn : Type 0
drawn =
    (refusal start drawing ≡ None)
    × (footprint start drawing ≡ presence_read n-7 ∷ presence_written n-7 ∷ presence_read n5 ∷ presence_written n5 ∷ presence_written w3 ∷ [])
    × (changed_cells (changes start drawing) ≡ both_at n-7 ++ both_at n5 ++ both_at w3)

-- who joins another way to a node of the group meets the group there, because the group made the node
unfoldable pub needed : Type 0
needed = meets (footprint start drawing) (footprint (after start drawing) (One (Nodes w2 (n-1 ∷ n5 ∷ [])))) ≡ Some n5

-- the first refused action is reported with its position, even if it is refused only because of the group
unfoldable pub second_refused : Type 0
second_refused =
    (refusal start (Group (Create n5 (node_at 5) ∷ Delete n-1 ∷ Delete n-7 ∷ [])) ≡ Some (at_position 1 (InUse n-1 w1)))
    × (refusal start (Group (Create n5 (node_at 5) ∷ Nodes w1 (n-1 ∷ n5 ∷ []) ∷ Delete n5 ∷ [])) ≡ Some (at_position 2 (InUse n5 w1)))

-- a group that undoes what it does changes nothing, and neither does an empty group
unfoldable pub there_and_back : Type 0
there_and_back =
    (refusal start (Group (Create n5 (node_at 5) ∷ Delete n5 ∷ [])) ≡ Some (alone Nothing))
    × (refusal start (Group []) ≡ Some (alone Nothing))

-- routes w1 to n5 and back, and gives r1 a tag
abbrev pub detour : Edit Any
detour = Group (Nodes w1 (n-1 ∷ n5 ∷ []) ∷ Nodes w1 (n-1 ∷ n-2 ∷ []) ∷ Retag r1 ((x, Some outer) ∷ []) ∷ [])

-- a group looks at more than it changes: this one also reads the presence of n5 and of n-2, which its actions begin and
-- cease to refer to, and is refused if n5 is absent
unfoldable pub looked_at : Type 0
looked_at =
    (changed_cells (changes (put_row start n5 (node_at 5)) detour) ≡ tags_at r1 ∷ [])
    × (footprint (put_row start n5 (node_at 5)) detour ≡ presence_read n-2 ∷ presence_read n5 ∷ changes_at (rest_at w1) ++ changes_at (tags_at r1))
    × (refusal (put_row start n5 (node_at 5)) detour ≡ None)
    × (refusal start detour ≡ Some (at_position 0 (Absent n5)))

-- moves w1 to the north and back, and gives r1 a tag
abbrev pub swing : Edit Any
swing = Group (Move (w1 ∷ []) (pos 10) (pos 0) ∷ Move (w1 ∷ []) (negsuc 9) (pos 0) ∷ Retag r1 ((x, Some outer) ∷ []) ∷ [])

-- a move there and back is in the footprint, with the nodes of a moved way
unfoldable pub moved_back : Type 0
moved_back =
    (changed_cells (changes start swing) ≡ tags_at r1 ∷ [])
    × (footprint start swing ≡ changes_at (rest_at n-2) ++ changes_at (rest_at n-1) ++ reads_at (rest_at w1) ++ changes_at (tags_at r1))
