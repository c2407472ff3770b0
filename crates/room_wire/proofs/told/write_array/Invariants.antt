use Rattle.std.proofs.Common.{◌≡◌, ◌++◌, All, map, take, drop}
use Rattle.room_wire.specs.Inner.Writing.{IsReadable}
use Rattle.room_wire.proofs.Written.{items_left}
use Rattle.room_wire.proofs.told.write_array.Given as goal

-- the tokens that were written, and those that are left, make the whole
abbrev pub invariant-loop-item : goal.invariant-loop-item
invariant-loop-item g l =
    (l.out.before ≡ l.initial.out.before)
    × (l.out.tokens ++ items_left (map g.V.Told.tree (drop l.item-index l.items)) ≡ l.initial.out.tokens ++ items_left (map g.V.Told.tree l.items))
    × All (λ x. IsReadable (g.V.Told.tree x)) (take l.item-index l.items)
