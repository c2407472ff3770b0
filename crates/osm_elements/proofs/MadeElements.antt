-- An element is made if its parts keep the invariants of their types.
use Rattle.std.proofs.Common.{◌≡◌, ◌&&◌, ℕ, ℤ, true, List, Some, is_some, refl, ap, arith}
use Rattle.std.proofs.lemmas.Bool.Decides.{nat_tests}
use Rattle.std.proofs.lemmas.Int.{ints}
use Rattle.osm_elements.specs.Prelude.{latitude, IsLatitude, longitude, IsLongitude, value_within, IsWithin, Name, Element, Node, Way, Relation, are_nodes, is_made, are_members, AreMembers, AreNodes, Pairs, AreTagRows, are_tags, all_nodes, both_true, is_true}

kept : (limit : ℕ) (z : ℤ) → IsWithin limit z → value_within limit z ≡ Some z
kept limit z h = grind (arith, nat_tests, ints)

in_range : (limit : ℕ) (z : ℤ) → IsWithin limit z → is_some (value_within limit z) ≡ true
in_range limit z h = ap is_some (kept limit z h)

module _ {A : Type 0} where
  pub made_node : (e : Element A) (lat lon : ℤ) (tags : Pairs) → e ≡ Node lat lon tags → IsLatitude lat → IsLongitude lon → AreTagRows tags → is_made e ≡ true
  made_node e lat lon tags is at on rows = rw is (both_true (is_some (latitude lat)) (is_some (longitude lon) && are_tags tags) (in_range 900000000 lat at) (both_true (is_some (longitude lon)) (are_tags tags) (in_range 1800000000 lon on) (is_true (are_tags tags) rows)))

  pub made_way : (e : Element A) (nodes : List Name) (tags : Pairs) → e ≡ Way nodes tags → AreNodes nodes → AreTagRows tags → is_made e ≡ true
  made_way e nodes tags is names rows = rw is (both_true (are_nodes nodes) (are_tags tags) (all_nodes nodes names) (is_true (are_tags tags) rows))

  pub made_relation : (e : Element A) (members : List (Name × List ℕ)) (tags : Pairs) → e ≡ Relation members tags → AreMembers members → AreTagRows tags → is_made e ≡ true
  made_relation e members tags is roles rows = rw is (both_true (are_members members) (are_tags tags) (is_true (are_members members) roles) (is_true (are_tags tags) rows))
