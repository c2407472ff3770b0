use Rattle.std.proofs.Common.{◌≡◌, drop, map}
use Rattle.osm_elements.specs.Maps.{are_rising}
use Rattle.room_wire.proofs.rising.are_rising.Given as goal

abbrev pub invariant-loop-place : goal.invariant-loop-place
invariant-loop-place g l = are_rising (map g.T.Named.named l.rows) ≡ are_rising (map g.T.Named.named (drop l.place l.rows))
