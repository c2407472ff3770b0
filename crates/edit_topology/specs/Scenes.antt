-- Maps and parts of maps for the worked examples, in addition to those of `edit_simple`.
use Rattle.std.specs.Prelude.{◌*◌, ◌++◌, ℕ, List, [], ◌∷◌, pos, replicate}
use Rattle.edit_simple.specs.Prelude.{Rows, put_row, Pairs, Any, n-1, n-2, n-3, w2, w3, w5, r9, way_of, relation_of, outer, start}
use Rattle.osm_elements.specs.declared.name.Name.{Name}
use Rattle.osm_elements.specs.declared.element.Element.{Element}
use Rattle.osm_elements.specs.declared.element.Element.TheVariants.{Node, Way}

-- a tag with a letter as its key and a digit as its value: a1 is "a": "1"
abbrev pub a1 : List ℕ × List ℕ
a1 = (97 ∷ [], 49 ∷ [])

abbrev pub a2 : List ℕ × List ℕ
a2 = (97 ∷ [], 50 ∷ [])

abbrev pub b1 : List ℕ × List ℕ
b1 = (98 ∷ [], 49 ∷ [])

abbrev pub b2 : List ℕ × List ℕ
b2 = (98 ∷ [], 50 ∷ [])

abbrev pub c1 : List ℕ × List ℕ
c1 = (99 ∷ [], 49 ∷ [])

abbrev pub tagged_node : ℕ → Pairs → Element Any
tagged_node degrees tags = Node (pos (degrees * 10000000)) (pos (degrees * 10000000)) tags

abbrev pub tagged_way : List Name → Pairs → Element Any
tagged_way nodes tags = Way nodes tags

-- `start` with a third way
abbrev pub beside : List Name → Rows Any
beside nodes = put_row start w3 (way_of nodes)

-- `start` with a third way that is closed and has a tag
abbrev pub ring : Rows Any
ring = put_row start w3 (tagged_way (n-1 ∷ n-2 ∷ n-3 ∷ n-1 ∷ []) (a1 ∷ []))

-- `ring` with a relation that has w2 as three members in a row
abbrev pub thrice : Rows Any
thrice = put_row ring r9 (relation_of ((w2, []) ∷ (w2, []) ∷ (w2, outer) ∷ []))

-- a map with a relation that has w2 as a member n times, and n-1 as a member k times
abbrev pub with_many : Rows Any → Name → ℕ → ℕ → Rows Any
with_many m r n k = put_row m r (relation_of (replicate n (w2, []) ++ replicate k (n-1, [])))

-- `start` with two ways that meet end to end, of n and k nodes and with the given tags
abbrev pub with_long : ℕ → Pairs → ℕ → Pairs → Rows Any
with_long n tags k others = put_row (put_row start w3 (tagged_way (replicate n n-1) tags)) w5 (tagged_way (replicate k n-1) others)

-- `start` with two ways that meet end to end and have the given tags
abbrev pub ways_tagged : Pairs → Pairs → Rows Any
ways_tagged tags others = put_row (put_row start w3 (tagged_way (n-1 ∷ n-2 ∷ []) tags)) w5 (tagged_way (n-2 ∷ n-3 ∷ []) others)

-- `start` with the given tags on n-1 and n-3
abbrev pub nodes_tagged : Pairs → Pairs → Rows Any
nodes_tagged tags others = put_row (put_row start n-1 (tagged_node 1 tags)) n-3 (tagged_node 3 others)

-- `start` with n-1 moved north by ten ten-millionths of a degree, and a way from n-1 to n-2 and back
abbrev pub there_and_back : Rows Any
there_and_back = put_row (beside (n-1 ∷ n-2 ∷ n-1 ∷ [])) n-1 (Node (pos 10000010) (pos 10000000) [])
