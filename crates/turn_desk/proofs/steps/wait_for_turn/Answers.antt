use Rattle.std.proofs.Common.{◌∙◌}
use Rattle.turn_desk.proofs.Asking.{misses}
use Rattle.turn_desk.proofs.steps.wait_for_turn.Goals as goal

pub asking-preserved-then-yields-lt-YIELDS : goal.asking-preserved-then-yields-lt-YIELDS
asking-preserved-then-yields-lt-YIELDS g c = let place = c.ask-serving.ensures.place in let before = c.asking.invariant in let watched = c.watch-rung.ensures in
    (place.0 ∙ watched.place.0 ∙ before.0, place.1 ∙ watched.place.1 ∙ before.1, misses g.R.Turned.fixed g.R.Turned.list g.R.Turned.answers _ _ _ _ _ c.args.ticket c.ask-serving.ensures.turn (watched.same ∙ before.2) c.requires.seat.2 c.requires.waiting c.if-serving-ticket.false)

pub asking-preserved : goal.asking-preserved
asking-preserved g c = let place = c.ask-serving.ensures.place in let before = c.asking.invariant in let watched = c.watch-rung.ensures in
    (place.0 ∙ watched.place.0 ∙ before.0, place.1 ∙ watched.place.1 ∙ before.1, misses g.R.Turned.fixed g.R.Turned.list g.R.Turned.answers _ _ _ _ _ c.args.ticket c.ask-serving.ensures.turn (watched.same ∙ before.2) c.requires.seat.2 c.requires.waiting c.if-serving-ticket.false)
