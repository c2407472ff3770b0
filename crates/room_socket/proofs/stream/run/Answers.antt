use Rattle.std.proofs.Common.{◌∙◌, arith, None, Some, refl}
use Rattle.room_socket.specs.Prelude.{BeforeHello, keeps_both, Bound, TakesTurn, remaining_of, contents_of}
use Rattle.room_socket.proofs.Following.{one_turn_more}
use Rattle.room_socket.proofs.Talking.{last_turn, turn_before, no_turn_left}
use Rattle.room_socket.proofs.stream.run.Goals as goal

pub returns-in-Some-clause-follows : goal.returns-in-Some-clause-follows
returns-in-Some-clause-follows g c =
    let known = g.R.Rooms.known in
    let more = one_turn_more c.loop.counter (BeforeHello c.args.caller.now) c.loop.core c.turn-step.new.core (known c.args.rooms.now) (known c.loop.rooms) (known c.turn-step.new.rooms) c.loop.invariant.follows c.turn-step.ensures.follows in
    (c.turn-step.new.core, (more.0, (let many = more.1 in omega (arith, many)), more.2))

pub returns-in-Some-clause-keeps : goal.returns-in-Some-clause-keeps
returns-in-Some-clause-keeps g c = keeps_both (g.R.Rooms.known c.args.rooms.now) (g.R.Rooms.known c.loop.rooms) (g.R.Rooms.known c.turn-step.new.rooms) c.loop.invariant.keeps c.turn-step.ensures.keeps

pub loop-preserved : goal.loop-preserved
loop-preserved g c = let known = g.R.Rooms.known in record {
  follows = one_turn_more c.loop.counter (BeforeHello c.args.caller.now) c.loop.core c.turn-step.new.core (known c.args.rooms.now) (known c.loop.rooms) (known c.turn-step.new.rooms) c.loop.invariant.follows c.turn-step.ensures.follows;
  keeps = keeps_both (known c.args.rooms.now) (known c.loop.rooms) (known c.turn-step.new.rooms) c.loop.invariant.keeps c.turn-step.ensures.keeps;
  runs = c.turn-step.ensures.runs;
  converses = λ end new state after rest.
      let remaining = remaining_of g.S.Read.remaining in
      let contents = contents_of g.S.Write.contents in
      let takes : TakesTurn remaining contents c.loop.socket c.loop.core (known c.loop.rooms) None c.turn-step.new.socket c.turn-step.new.core (known c.turn-step.new.rooms) = rw c.in_default.is at c.turn-step.ensures.takes in
      c.loop.invariant.converses end new state after (turn_before remaining contents c.args.turns c.loop.counter c.loop.socket new c.loop.core state (known c.loop.rooms) after end c.turn-step.new.socket c.turn-step.new.core (known c.turn-step.new.rooms) (omega arith) takes rest);
  kept = c.turn-step.ensures.kept ∙ c.loop.invariant.kept;
}

pub returns-in-Some-clause-converses : goal.returns-in-Some-clause-converses
returns-in-Some-clause-converses g c =
    let known = g.R.Rooms.known in
    let remaining = remaining_of g.S.Read.remaining in
    let contents = contents_of g.S.Write.contents in
    let takes : TakesTurn remaining contents c.loop.socket c.loop.core (known c.loop.rooms) (Some c.in-Some.end) c.turn-step.new.socket c.turn-step.new.core (known c.turn-step.new.rooms) = rw c.in-Some.is at c.turn-step.ensures.takes in
    (c.turn-step.new.core, c.loop.invariant.converses c.in-Some.end c.turn-step.new.socket c.turn-step.new.core (known c.turn-step.new.rooms) (last_turn remaining contents c.args.turns c.loop.counter c.loop.socket c.turn-step.new.socket c.loop.core c.turn-step.new.core (known c.loop.rooms) (known c.turn-step.new.rooms) c.in-Some.end (omega arith) takes))

pub returns-clause-converses : goal.returns-clause-converses
returns-clause-converses g c =
    let known = g.R.Rooms.known c.loop.rooms in
    let remaining = remaining_of g.S.Read.remaining in
    let contents = contents_of g.S.Write.contents in
    (c.loop.core, c.loop.invariant.converses Bound c.close.new.socket c.loop.core known (no_turn_left remaining contents c.args.turns c.loop.counter c.loop.socket c.close.new.socket c.loop.core c.loop.core known known Bound (omega arith) refl c.close.ensures refl refl))
