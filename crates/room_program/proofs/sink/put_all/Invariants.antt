use Rattle.std.proofs.Common.{◌≡◌, ◌++◌, ℕ, List, false, length}
use Rattle.std.specs.Io.KnownBytes.{Appends}
use Rattle.room_program.proofs.sink.put_all.Given as goal

abbrev pub invariant-loop-rest : goal.invariant-loop-rest
invariant-loop-rest g l =
    (g.W.Sink.has_failed l.writer ≡ false) × ((front : List ℕ) × (l.bytes ≡ front ++ l.rest) × Appends (g.W.Sink.taken l.initial.writer) (g.W.Sink.taken l.writer) front)

abbrev pub decreases-loop-rest : goal.decreases-loop-rest
decreases-loop-rest g l = length l.rest
