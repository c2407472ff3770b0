use Rattle.std.proofs.Common.{◌≡◌, ◌+◌, ◌-◌, ◌≤◌, ◌++◌, length, drop}
use Rattle.rising_lists.specs.Rising.{but_all}
use Rattle.rising_lists.proofs.but.but_all.Given as goal

abbrev pub invariant-loop-at : goal.invariant-loop-at
invariant-loop-at g l = (l.at ≤ length l.values) × (l.place ≤ length l.others) × (l.kept.items ++ but_all g.V.Ord.cmp (drop l.at l.values) (drop l.place l.others) ≡ but_all g.V.Ord.cmp l.values l.others)

abbrev pub decreases-loop-at : goal.decreases-loop-at
decreases-loop-at g l = (length l.values - l.at) + (length l.others - l.place)
