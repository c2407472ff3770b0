-- A list of nodes passes the test `are_nodes`.
use Rattle.std.proofs.Common.{arith}
use Rattle.std.specs.Prelude.{◌≡◌, List, [], ◌∷◌, true, suc, refl}
use Rattle.osm_elements.specs.declared.name.Name.{Name}
use Rattle.osm_elements.specs.Made.{is_node, are_nodes}
use Rattle.osm_elements.specs.Nodes.{AreNodes}
use Rattle.osm_elements.specs.Facts.Tests.{both_true}

pub all_nodes : (names : List Name) → AreNodes names → are_nodes names ≡ true
all_nodes [] h = refl
all_nodes (n ∷ ns) h = both_true (is_node n.kind) (are_nodes ns) (rw (h 0 n (omega arith)) refl) (all_nodes ns (λ k d l. h (suc k) d (omega arith)))
