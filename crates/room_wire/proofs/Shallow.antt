-- The trees of replies and of news nest at most six levels deep.
use Rattle.std.proofs.Common.{◌≤◌, ℕ, List, [], ◌∷◌, Option, Some, None, map, arith}
use Rattle.std.proofs.Math.Nat.{max-le}
use Rattle.serde_json.specs.Data.{Data, depth, items_depth, members_depth}
use Rattle.serde_json.specs.View.{items_of}
use Rattle.room_wire.specs.Prelude.{Global, Name, Element, Pairs, News, NewsRow, Refusal, Reply, Answer, Fault, news_rows_tree, news_tree, row_tree, id_tree, member_tree, tag_members, element_tree, rows_tree, whole, map_tree, refusal_members, outcome_tree, fault_tree, tree_of}
use Rattle.room_wire.specs.Trees.{with_position}
use Rattle.osm_elements.specs.declared.element.Element.TheVariants as elements
use Rattle.room_interface.specs.declared.refusal.Refusal.TheVariants as refusals
use Rattle.room_interface.specs.declared.reply.Reply.TheVariants as replies
use Rattle.room_wire.specs.declared.answer.Answer.TheVariants as answers
use Rattle.room_wire.specs.declared.bad.Fault.TheVariants as faults

items_are_shallow : {X : Type 0} (k : ℕ) (f : X → Data) → ((x : X) → depth (f x) ≤ k) → (xs : List X) → items_depth (items_of (map f xs)) ≤ k
items_are_shallow k f h [] = omega arith
items_are_shallow k f h (x ∷ xs) = max-le (h x) (items_are_shallow k f h xs)

tags_are_flat : (tags : Pairs) → members_depth (tag_members tags) ≤ 0
tags_are_flat [] = omega arith
tags_are_flat (e ∷ es) = max-le (omega arith) (tags_are_flat es)

nodes_are_flat : (names : List Name) → items_depth (items_of (map id_tree names)) ≤ 0
nodes_are_flat names = items_are_shallow 0 id_tree (λ n. omega arith) names

members_are_shallow : (members : List (Name × List ℕ)) → items_depth (items_of (map member_tree members)) ≤ 1
members_are_shallow members = items_are_shallow 1 member_tree (λ m. omega arith) members

-- an array or an object is one level deeper than its items
element_is_shallow : {A : Type 0} (name : Name) (e : Element A) → depth (element_tree name e) ≤ 3
element_is_shallow name (elements.Node lat lon tags) = let t = tags_are_flat tags in omega arith
element_is_shallow name (elements.Way nodes tags) = let t = tags_are_flat tags in let n = nodes_are_flat nodes in omega arith
element_is_shallow name (elements.Relation members tags) = let t = tags_are_flat tags in let m = members_are_shallow members in omega arith

rows_are_shallow : {A : Type 0} (rows : List (Name × Element A)) → depth (rows_tree rows) ≤ 4
rows_are_shallow rows = let r = items_are_shallow 3 (λ r. element_tree r.0 r.1) (λ r. element_is_shallow r.0 r.1) rows in omega arith

numbers_are_flat : (numbers : List ℕ) → items_depth (items_of (map whole numbers)) ≤ 0
numbers_are_flat numbers = items_are_shallow 0 whole (λ n. omega arith) numbers

pub map_is_shallow : {A : Type 0} (id : ℕ) (rows : List (Name × Element A)) (front : ℕ) → depth (map_tree id rows front) ≤ 127
map_is_shallow id rows front = let r = rows_are_shallow rows in omega arith

-- the members of a refusal have no array and no object
refusal_is_flat : (why : Refusal Global) → members_depth (refusal_members why) ≤ 0
refusal_is_flat (refusals.Absent name) = omega arith
refusal_is_flat (refusals.Present name) = omega arith
refusal_is_flat (refusals.WrongKind name) = omega arith
refusal_is_flat (refusals.Same name) = omega arith
refusal_is_flat refusals.BadPosition = omega arith
refusal_is_flat refusals.NotEndToEnd = omega arith
refusal_is_flat (refusals.OutOfRange name) = omega arith
refusal_is_flat (refusals.TooFew name) = omega arith
refusal_is_flat (refusals.TooMany name) = omega arith
refusal_is_flat (refusals.InUse name user) = omega arith
refusal_is_flat (refusals.TagConflict key) = omega arith
refusal_is_flat refusals.Nothing = omega arith
refusal_is_flat refusals.Memory = omega arith

positioned_is_flat : (position : Option ℕ) (why : Refusal Global) → members_depth (with_position position (refusal_members why)) ≤ 0
positioned_is_flat None why = refusal_is_flat why
positioned_is_flat (Some k) why = let w = refusal_is_flat why in omega arith

outcome_is_shallow : (id : ℕ) (reply : Reply Global) → depth (outcome_tree id reply) ≤ 127
outcome_is_shallow id (replies.Done seq) = omega arith
outcome_is_shallow id (replies.Undid seq of) = omega arith
outcome_is_shallow id (replies.Redid seq of) = omega arith
outcome_is_shallow id (replies.Repeat seq) = omega arith
outcome_is_shallow id replies.Full = omega arith
outcome_is_shallow id replies.NothingToUndo = omega arith
outcome_is_shallow id replies.NoSuch = omega arith
outcome_is_shallow id replies.NotYours = omega arith
outcome_is_shallow id replies.NotStanding = omega arith
outcome_is_shallow id (replies.Conflict blocker shared) = omega arith
outcome_is_shallow id replies.NothingToRedo = omega arith
outcome_is_shallow id (replies.Refused refusal) = let p = positioned_is_flat refusal.action refusal.why in omega arith
outcome_is_shallow id (replies.Changed with name) = omega arith
outcome_is_shallow id replies.Memory = omega arith

fault_is_shallow : (id : ℕ) (fault : Fault) → depth (fault_tree id fault) ≤ 127
fault_is_shallow id faults.NotJson = omega arith
fault_is_shallow id faults.NotObject = omega arith
fault_is_shallow id faults.BadId = omega arith
fault_is_shallow id faults.UnknownDo = omega arith
fault_is_shallow id (faults.BadField field) = omega arith
fault_is_shallow id (faults.UnknownAction k) = omega arith
fault_is_shallow id (faults.BadActionField k field) = omega arith
fault_is_shallow id faults.Memory = omega arith

pub tree_is_shallow : (id : ℕ) (answer : Answer) → depth (tree_of id answer) ≤ 127
tree_is_shallow id (answers.Reply reply) = outcome_is_shallow id reply.now
tree_is_shallow id (answers.Is name element) = let e = element_is_shallow name element.now in omega arith
tree_is_shallow id (answers.Absent name) = omega arith
tree_is_shallow id (answers.Map rows front) = map_is_shallow id rows.now front
tree_is_shallow id (answers.Undos undos redos) = let u = numbers_are_flat undos.now in let r = numbers_are_flat redos.now in omega arith
tree_is_shallow id answers.Memory = omega arith
tree_is_shallow id (answers.Fault fault) = fault_is_shallow id fault
tree_is_shallow id answers.BadLine = omega arith
tree_is_shallow id answers.NoHello = omega arith
tree_is_shallow id answers.NoRoom = omega arith
tree_is_shallow id answers.HelloTwice = omega arith
tree_is_shallow id (answers.WrongName name) = omega arith
tree_is_shallow id answers.NoName = omega arith

-- news
row_is_shallow : {A : Type 0} (name : Name) (element : Option (Element A)) → depth (row_tree name element) ≤ 3
row_is_shallow name None = omega arith
row_is_shallow name (Some element) = element_is_shallow name element

news_rows_are_shallow : {A : Type 0} (rows : List (NewsRow A)) → depth (news_rows_tree rows) ≤ 4
news_rows_are_shallow rows = let r = items_are_shallow 3 (λ r. row_tree r.name r.element) (λ r. row_is_shallow r.name r.element) rows in omega arith

pub news_are_shallow : {A : Type 0} (n : News A) → depth (news_tree n) ≤ 127
news_are_shallow n = let r = news_rows_are_shallow n.rows in omega arith
