use Rattle.osm_refs.specs.Prelude.{name_cmp_is, name_eq_is, sorted_is_name_set}
use Rattle.osm_refs.proofs.name_set.name_set.Goals as goal

pub returns-clause-set : goal.returns-clause-set
returns-clause-set g c =
    sorted_is_name_set _ name_eq_is _ name_cmp_is _ _ _ c.in_ok-sort.ensures.permutation c.in_ok-sort.ensures.sorted c.dedup.ensures.filtered
