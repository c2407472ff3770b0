use Rattle.std.proofs.Common.{◌≡◌, ◌++◌, All, map}
use Rattle.room_wire.specs.Inner.Writing.{IsReadable}
use Rattle.room_wire.proofs.ToldParts.{row_told}
use Rattle.room_wire.proofs.Written.{items_left}
use Rattle.room_wire.proofs.write_map.write_map.Given as goal

-- the tokens that were written, and those that are left, make the whole
abbrev pub invariant-loop-name : goal.invariant-loop-name
invariant-loop-name l =
    (l.out.before ≡ l.initial.out.before)
    × (l.out.tokens ++ items_left (map row_told l.name-iterator) ≡ l.initial.out.tokens ++ items_left (map row_told l.map))
    × (All IsReadable (map row_told l.name-iterator) → All IsReadable (map row_told l.map))
