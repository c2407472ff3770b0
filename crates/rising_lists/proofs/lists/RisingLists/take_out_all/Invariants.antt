use Rattle.std.proofs.Common.{take}
use Rattle.rising_lists.proofs.lists.RisingLists.take_out_all.Given as goal
use Rattle.rising_lists.specs.Lists.{Loses}

abbrev pub invariant-loop-key : goal.invariant-loop-key
invariant-loop-key g l = Loses g.K.Ord.cmp g.V.Ord.cmp l.initial.self.lists.entries l.self.lists.entries (take l.key-index l.keys) l.value
