use Rattle.std.proofs.Common.{[], inl, inr, refl, sym, subst, arith, ◌∙◌}
use Rattle.room_socket.specs.Prelude.{BeforeHello, Follows, Known, caller_of, none_made_as, rule_of}
use Rattle.room_socket.proofs.Naming.{makes_as}
use Rattle.room_socket.proofs.stream.serve.Goals as goal

pub returns-in-Ok-clause-serves : goal.returns-in-Ok-clause-serves
returns-in-Ok-clause-serves g c =
    let it = c.in-Ok.ensures.ok.0.1 in
    let ran = c.run.ensures.follows in
    let known = g.R.Rooms.known in
    let follows = rw it.called at ran.1.2 in record {
      fields = _;
      events = ran.1.0;
      many = ran.1.1;
      state = ran.0;
      follows = follows;
      names = makes_as _ ran.1.0 _ (known c.args.rooms.now) ran.0 (known c.run.new.rooms) refl follows;
    }

pub returns-in-Err-clause-serves : goal.returns-in-Err-clause-serves
returns-in-Err-clause-serves g c =
    let known = g.R.Rooms.known c.args.rooms.now in record {
      fields = [];
      events = [];
      many = omega arith;
      state = BeforeHello (caller_of (rule_of c.args.admission.now) []);
      follows = (refl, refl);
      names = none_made_as _ known known (λ room. refl);
    }

pub returns-in-Ok-clause-talks : goal.returns-in-Ok-clause-talks
returns-in-Ok-clause-talks g c =
    let talk = c.run.ensures.converses in
    inr (c.in-Ok.caller, c.in-Ok.socket, c.run.new.socket, talk.0, c.in-Ok.ensures.ok, talk.1)
