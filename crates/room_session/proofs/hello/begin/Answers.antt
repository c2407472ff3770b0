use Rattle.std.proofs.Common.{◌∙◌, sym, ap}
use Rattle.room_session.proofs.Replying.{not_begun, not_let_in, not_welcomed, welcomed}
use Rattle.room_session.proofs.hello.begin.Goals as goal

pub returns-in-Some-clause-message : goal.returns-in-Some-clause-message
returns-in-Some-clause-message g c =
    let known = g.R.Rooms.known c.args.rooms.now in
    let place = ap known.place (sym c.as_str.ensures) ∙ sym c.find.ensures ∙ c.in-Some.is in
    welcomed c.args.caller.now known _ c.args.message.id c.args.message.body c.in-Hello.room c.in-Hello.name c.in-Ok.speaker c.in-Some.room c.welcome.result c.in-Hello.is (sym c.greet.ensures ∙ c.in-Ok.is) place c.welcome.ensures.ok c.welcome.ensures.err

pub returns-in-Ok-clause-message : goal.returns-in-Ok-clause-message
returns-in-Ok-clause-message g c =
    let known = g.R.Rooms.known c.args.rooms.now in
    let place = ap known.place (sym c.as_str.ensures) ∙ sym c.find.ensures ∙ c.in-None.is in
    not_welcomed c.args.caller.now known c.args.message.id c.args.message.body c.in-Hello.room c.in-Hello.name c.in-Ok.speaker c.refuse.result c.in-Hello.is (sym c.greet.ensures ∙ c.in-Ok.is) place c.refuse.ensures

pub returns-in-Hello-clause-message : goal.returns-in-Hello-clause-message
returns-in-Hello-clause-message g c =
    not_let_in c.args.caller.now (g.R.Rooms.known c.args.rooms.now) c.args.message.id c.args.message.body c.in-Hello.room c.in-Hello.name c.in-Err.barred c.bar.result c.in-Hello.is (sym c.greet.ensures ∙ c.in-Err.is) c.bar.ensures

pub returns-clause-message : goal.returns-clause-message
returns-clause-message g c = not_begun c.args.caller.now (g.R.Rooms.known c.args.rooms.now) c.args.message.id c.args.message.body c.refuse-in-Change.result c.in-Change.is c.refuse-in-Change.ensures
