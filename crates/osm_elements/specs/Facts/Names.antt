-- Names that compare as equal are equal.
use Rattle.std.proofs.Common.{rules}
use Rattle.std.specs.Prelude.{◌≡◌, ℤ, pos, refl}
use mathlib.Core.HLevel.{Σ_prop_path, ¬_prop}
use mathlib.Core.Logic.{◌≢◌}
use Rattle.std.specs.declared.cmp.Ordering.{Ordering}
use Rattle.std.specs.declared.cmp.Ordering.TheVariants.{Less, Equal, Greater}
use Rattle.std.specs.Ordering.{ordering_then, nat_cmp, int_cmp}
use Rattle.std.specs.Cmp.{IsTotalOrder}
use Rattle.std.specs.Cmp.Rules.{comparing}
use Rattle.std.specs.FinMap.{IsAntisymmetric, nat_cmp-IsAntisymmetric, int_cmp-IsAntisymmetric}
use Rattle.osm_elements.specs.declared.name.Name.{Name}
use Rattle.osm_elements.specs.declared.name.Kind.{Kind}
use Rattle.osm_elements.specs.declared.name.Kind.TheVariants.{Node, Way, Relation}
use Rattle.osm_elements.specs.Names.{kind_rank}
use Rattle.osm_elements.specs.NameOrder.{name_cmp}

then_equal : (o p : Ordering) → ordering_then o p ≡ Equal → (o ≡ Equal) × (p ≡ Equal)
then_equal Less p e = absurd (cc)
then_equal Equal p e = (refl, e)
then_equal Greater p e = absurd (cc)

same_kind : (k j : Kind) → kind_rank k ≡ kind_rank j → k ≡ j
same_kind Node Node e = refl
same_kind Node Way e = cc
same_kind Node Relation e = cc
same_kind Way Node e = cc
same_kind Way Way e = refl
same_kind Way Relation e = cc
same_kind Relation Node e = cc
same_kind Relation Way e = cc
same_kind Relation Relation e = refl

pub same_name : (x y : Name) → x.kind ≡ y.kind → x.id ≡ y.id → x ≡ y
same_name x y p q =
    let e : ◌≡◌ {A = (n : Kind × ℤ) × (n.1 ≢ pos 0)} ((x.kind, x.id), x.not_zero) ((y.kind, y.id), y.not_zero) = Σ_prop_path (λ n. ¬_prop) (λ i. (p i, q i)) in
    λ i. record { kind = (e i).0.0; id = (e i).0.1; not_zero = (e i).1 }

pub name_cmp-IsAntisymmetric : IsAntisymmetric name_cmp
unfolding name_cmp
name_cmp-IsAntisymmetric x y e =
    let both = then_equal (nat_cmp (kind_rank x.kind) (kind_rank y.kind)) (int_cmp x.id y.id) e in
    same_name x y (same_kind _ _ (nat_cmp-IsAntisymmetric _ _ both.0)) (int_cmp-IsAntisymmetric _ _ both.1)

pub name_cmp_total : IsTotalOrder name_cmp
unfolding name_cmp
name_cmp_total = search (comparing, rules)
