-- The derived `==` of names is that of the definition.
use Rattle.std.proofs.Common.{sym, ap, ◌∙◌}
use Rattle.std.specs.Prelude.{◌≡◌, ◌&&◌, ℤ, pos, negsuc, refl}
use Rattle.std.specs.Ordering.{is_eq, int_eq, int_cmp, nat_cmp, ordering_then}
use Rattle.std.specs.declared.cmp.Ordering.{Ordering}
use Rattle.std.specs.declared.cmp.Ordering.TheVariants.{Less, Equal, Greater}
use Rattle.osm_elements.specs.declared.name.Name.{Name}
use Rattle.osm_elements.specs.declared.name.Kind.{Kind}
use Rattle.osm_elements.specs.declared.name.Kind.TheVariants.{Node, Way, Relation}
use Rattle.osm_elements.specs.Names.{kind_rank}
use Rattle.osm_elements.specs.NameOrder.{name_cmp}
use Rattle.osm_elements.specs.Maps.{is_same}
use Rattle.osm_elements.specs.contracts.name.NamePartialEq.TheImpl as name_equality
use Rattle.osm_elements.specs.contracts.name.KindPartialEq.TheImpl as kind_equality

pub kind_eq_is : (k j : Kind) → (kind_equality.ghosts).eq k j ≡ is_eq (nat_cmp (kind_rank k) (kind_rank j))
kind_eq_is Node Node = refl
kind_eq_is Node Way = refl
kind_eq_is Node Relation = refl
kind_eq_is Way Node = refl
kind_eq_is Way Way = refl
kind_eq_is Way Relation = refl
kind_eq_is Relation Node = refl
kind_eq_is Relation Way = refl
kind_eq_is Relation Relation = refl

is_eq-then : (o p : Ordering) → is_eq (ordering_then o p) ≡ (is_eq o && is_eq p)
is_eq-then Less p = refl
is_eq-then Equal p = refl
is_eq-then Greater p = refl

is_eq-int_cmp : (y z : ℤ) → is_eq (int_cmp y z) ≡ int_eq y z
is_eq-int_cmp (pos m) (pos n) = refl
is_eq-int_cmp (pos m) (negsuc n) = refl
is_eq-int_cmp (negsuc m) (pos n) = refl
is_eq-int_cmp (negsuc m) (negsuc n) = refl

pub name_eq_is : (a b : Name) → (name_equality.ghosts).eq a b ≡ is_same a b
unfolding name_cmp
name_eq_is a b =
    ap (λ t. t && int_eq a.id b.id) (kind_eq_is a.kind b.kind) ∙ ap (λ t. is_eq (nat_cmp (kind_rank a.kind) (kind_rank b.kind)) && t) (sym (is_eq-int_cmp a.id b.id))
    ∙ sym (is_eq-then (nat_cmp (kind_rank a.kind) (kind_rank b.kind)) (int_cmp a.id b.id))
