-- What a sound map has at the name of a way.
use Rattle.std.proofs.Common.{◌≡◌, ◌≤◌, true, ◌&&◌, List, Some, length, nat_le, arith}
use Rattle.std.proofs.lemmas.Bool.Decides.{nat_tests}
use Rattle.edit_topology.specs.Prelude.{Name, Way, Rows, row_at, Pairs, first_true, second_true, is_sound, most_nodes, fine}

module _ {A : Type 0} where
  module _ (m : Rows A) (w : Name) (nodes : List Name) (tags : Pairs) (sound : is_sound m ≡ true) (is : row_at m w ≡ Some (Way nodes tags)) where
    lengthy : (nat_le 2 (length nodes) && nat_le (length nodes) most_nodes) ≡ true
    lengthy = (fine m sound w (Way nodes tags) is).lengthy

    pub has_one : 1 ≤ length nodes
    has_one = let two = first_true (nat_le 2 (length nodes)) (nat_le (length nodes) most_nodes) lengthy in grind (arith, nat_tests)

    pub has_few : length nodes ≤ most_nodes
    has_few = let few = second_true (nat_le 2 (length nodes)) (nat_le (length nodes) most_nodes) lengthy in grind (arith, nat_tests)
