use Rattle.std.proofs.Common.{take}
use Rattle.edit_footprint.specs.Holding.{IsFirstAfter}
use Rattle.edit_footprint.proofs.holders.Holders.first_after.Given as goal

abbrev pub invariant-loop-touch : goal.invariant-loop-touch
invariant-loop-touch g l = IsFirstAfter l.self (take l.touch-index l.touches) l.seq l.first
