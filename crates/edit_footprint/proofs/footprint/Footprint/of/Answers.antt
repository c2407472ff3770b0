use Rattle.std.proofs.Common.{sym, subst}
use Rattle.edit_footprint.specs.Facts.Touches.{IsFootprint-touch_set}
use Rattle.edit_footprint.specs.Touches.{IsFootprint}
use Rattle.edit_footprint.proofs.Sorting.{sorted_is_touch_set}
use Rattle.edit_footprint.proofs.footprint.Footprint.of.Goals as goal

pub invariant_of-result : goal.invariant_of-result
invariant_of-result g c =
    subst IsFootprint (sym (sorted_is_touch_set _ _ _ c.in_ok-sort.ensures.permutation c.in_ok-sort.ensures.sorted c.dedup.ensures.filtered))
    (IsFootprint-touch_set c.args.touches.items)

pub returns : goal.returns
returns g c = sorted_is_touch_set _ _ _ c.in_ok-sort.ensures.permutation c.in_ok-sort.ensures.sorted c.dedup.ensures.filtered
