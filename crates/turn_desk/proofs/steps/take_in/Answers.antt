use Rattle.std.proofs.Common.{rules}
use Rattle.turn_desk.proofs.Meeting.{meets, met, met_fixed, met_stage, met_rests}
use Rattle.turn_desk.proofs.steps.take_in.Goals as goal

pub join_seat-requires : goal.join_seat-requires
join_seat-requires g c = let idle = c.requires.idle in
    (search rules, search rules, search rules, search rules, meets g.R.Turned.fixed g.R.Turned.list g.R.Turned.answers _ _ _ _ _ c.requires.seat.2 idle.0.stage c.requires.other.2 idle.1.stage)

pub load_length-requires : goal.load_length-requires
load_length-requires g c = let joined = c.join_seat.ensures.2 in record {
  seat = (search rules, search rules, met_fixed c.args.place.now.me c.args.other.me _ _ joined c.requires.seat.2);
  idle = met_stage c.args.place.now.me c.args.other.me _ joined c.requires.idle.0.stage;
}

pub returns-clause-place : goal.returns-clause-place
returns-clause-place g c = let joined = c.join_seat.ensures.2 in let now = c.load_length.ensures.look _ (met_fixed c.args.place.now.me c.args.other.me _ _ joined c.requires.seat.2) in
    (search rules, met_rests g.R.Turned.fixed g.R.Turned.list g.R.Turned.answers _ c.args.place.now.me c.args.other.me _ _ _ joined c.requires.idle.0 now)

pub returns-clause-seat : goal.returns-clause-seat
returns-clause-seat g c = let joined = c.join_seat.ensures.2 in let now = c.load_length.ensures.look _ (met_fixed c.args.place.now.me c.args.other.me _ _ joined c.requires.seat.2) in
    search rules

pub returns-clause-meet : goal.returns-clause-meet
returns-clause-meet g c = let joined = c.join_seat.ensures.2 in let now = c.load_length.ensures.look _ (met_fixed c.args.place.now.me c.args.other.me _ _ joined c.requires.seat.2) in
    met g.R.Turned.fixed g.R.Turned.list g.R.Turned.answers _ c.args.place.now c.args.other c.load_length.new.place _ _ joined now
