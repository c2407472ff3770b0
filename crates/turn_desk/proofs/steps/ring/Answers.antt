use Rattle.std.proofs.Common.{rules, ◌+◌, ◌%◌, ◌^◌}
use Rattle.turn_desk.proofs.Ringing.{rings}
use Rattle.turn_desk.proofs.steps.ring.Goals as goal

pub fetch_add-requires : goal.fetch_add-requires
fetch_add-requires g c = let gate = c.gate_of-gate.ensures in (search rules, search rules, rings g.R.Turned.fixed g.R.Turned.list g.R.Turned.answers _ _ _ _ gate.0 (λ n. (n + 1) % 2 ^ 64) _ gate.1)
