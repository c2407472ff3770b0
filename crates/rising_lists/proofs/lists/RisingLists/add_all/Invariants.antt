use Rattle.std.proofs.Common.{take}
use Rattle.rising_lists.proofs.lists.RisingLists.add_all.Given as goal
use Rattle.rising_lists.specs.Lists.{Gains}

abbrev pub invariant-loop-at : goal.invariant-loop-at
invariant-loop-at g l = Gains g.K.Ord.cmp g.V.Ord.cmp l.initial.self.lists.entries l.self.lists.entries (take l.at l.keys) l.value
