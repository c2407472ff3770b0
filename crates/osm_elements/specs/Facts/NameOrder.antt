-- The derived order of names is that of their definition.
use Rattle.std.proofs.Common.{ap}
use Rattle.std.specs.Prelude.{◌≡◌, refl}
use mathlib.Core.Path.{fun_ext}
use Rattle.std.specs.Ordering.{nat_cmp, int_cmp, ordering_then}
use Rattle.osm_elements.specs.declared.name.Name.{Name}
use Rattle.osm_elements.specs.declared.name.Kind.{Kind}
use Rattle.osm_elements.specs.declared.name.Kind.TheVariants.{Node, Way, Relation}
use Rattle.osm_elements.specs.Names.{kind_rank}
use Rattle.osm_elements.specs.NameOrder.{name_cmp}
use Rattle.osm_elements.specs.contracts.name.NameOrd.TheImpl as name_order
use Rattle.osm_elements.specs.contracts.name.KindOrd.TheImpl as kind_order

pub kind_order_is : (k j : Kind) → (kind_order.ghosts).cmp k j ≡ nat_cmp (kind_rank k) (kind_rank j)
kind_order_is Node Node = refl
kind_order_is Node Way = refl
kind_order_is Node Relation = refl
kind_order_is Way Node = refl
kind_order_is Way Way = refl
kind_order_is Way Relation = refl
kind_order_is Relation Node = refl
kind_order_is Relation Way = refl
kind_order_is Relation Relation = refl

pub name_order_is : (a b : Name) → (name_order.ghosts).cmp a b ≡ name_cmp a b
name_order_is a b = refl

pub name_cmp_is : (name_order.ghosts).cmp ≡ name_cmp
name_cmp_is = refl
