use Rattle.std.proofs.Common.{rules}
use Rattle.turn_desk.proofs.Ringing.{rings}
use Rattle.turn_desk.proofs.steps.watch.Goals as goal

pub load-requires : goal.load-requires
load-requires g c = let gate = c.requires.gate in (search rules, search rules, rings g.R.Turned.fixed g.R.Turned.list g.R.Turned.answers _ _ _ _ gate.0 (λ n. n) _ gate.1)
