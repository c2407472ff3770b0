use Rattle.std.proofs.Common.{◌++◌, ◌∷◌, [], length, refl, ◌∙◌, ap, arith, rules, subst, sym, length-append}
use Rattle.std.proofs.lemmas.List.{length-map}
use Rattle.room_server.specs.Prelude.{into_iter_items, kin, AreFronts, IsFront}
use Rattle.room_server.proofs.Meeting.{fronts_more}
use Rattle.room_server.proofs.Sums.{counted}
use Rattle.room_server.proofs.Splitting.{length_more, next_at, whole_end, whole_more}
use Rattle.room_server.proofs.fronts.close_all.Goals as goal

-- the desk and the seat have the same position
pub close-requires : goal.close-requires
close-requires g c =
    let i = c.loop-desk.invariant in
    c.requires.1 (length c.loop-desk.yielded) c.in-Some.desk c.in-Some-next.seat
    (next_at c.args.table.desks c.loop-desk.yielded (into_iter_items c.loop-desk.desk-iterator) (into_iter_items c.next.new.self) c.in-Some.desk i.desks c.in-Some.ensures.steps.0 (length c.loop-desk.yielded) refl)
    (next_at c.args.seats.items i.seats.0 (into_iter_items c.loop-desk.seats) (into_iter_items c.next-in-loop-desk.new.self) c.in-Some-next.seat i.seats.1 c.in-Some-next.ensures.items (length c.loop-desk.yielded) (sym i.seats.2))

-- one more desk was closed
pub loop-desk-preserved : goal.loop-desk-preserved
loop-desk-preserved g c =
    let i = c.loop-desk.invariant in
    let of_seats = length_more i.seats.0 c.in-Some-next.seat in
    let of_desks = length_more c.loop-desk.yielded c.in-Some.desk in
    let many = i.seats.2 in
    let count = c.front-in-loop-desk.ensures ∙ ap length c.close.ensures.stands ∙ length-map c.close.ensures.h (λ p. p.1) in
    let front : IsFront c.in-Some.desk c.in-Some-next.seat c.front-in-loop-desk.result = record {
      h = c.close.ensures.h;
      legal = c.close.ensures.legal;
      begins = c.close.ensures.begins;
      all = c.close.ensures.all;
      apart = c.close.ensures.apart;
      sum = λ full. count ∙ counted (kin c.in-Some-next.seat) c.close.ensures.h c.close.ensures.apart c.close.ensures.kin (c.close.ensures.all full);
      kin = c.close.ensures.kin;
      count = count;
    } in
    record {
      desks = whole_more c.args.table.desks c.loop-desk.yielded (into_iter_items c.loop-desk.desk-iterator) (into_iter_items c.next.new.self) c.in-Some.desk i.desks c.in-Some.ensures.steps.0;
      seats = (
        i.seats.0 ++ c.in-Some-next.seat ∷ [],
        whole_more c.args.seats.items i.seats.0 (into_iter_items c.loop-desk.seats) (into_iter_items c.next-in-loop-desk.new.self) c.in-Some-next.seat i.seats.1 c.in-Some-next.ensures.items,
        omega (arith, of_seats, of_desks, many),
        subst (λ fs. AreFronts (c.loop-desk.yielded ++ c.in-Some.desk ∷ []) (i.seats.0 ++ c.in-Some-next.seat ∷ []) fs) (sym c.in_ok-push.ensures.items)
            (fronts_more c.loop-desk.yielded i.seats.0 c.loop-desk.fronts.items c.in-Some.desk c.in-Some-next.seat c.front-in-loop-desk.result many i.seats.3 front),
      );
    }

-- all were closed
pub returns : goal.returns
returns g c =
    let i = c.loop-desk.invariant in
    let desks = whole_end c.args.table.desks c.loop-desk.yielded (into_iter_items c.loop-desk.desk-iterator) i.desks (search rules) in
    let of_desks = ap length desks in
    let of_all = ap length i.seats.1 ∙ c.requires.0 in
    let parts = length-append i.seats.0 (into_iter_items c.loop-desk.seats) in
    let many = i.seats.2 in
    let seats = whole_end c.args.seats.items i.seats.0 (into_iter_items c.loop-desk.seats) i.seats.1 (omega (arith, of_desks, of_all, parts, many)) in
    subst (λ ds. AreFronts ds c.args.seats.items c.loop-desk.fronts.items) desks (subst (λ ss. AreFronts c.loop-desk.yielded ss c.loop-desk.fronts.items) seats i.seats.3)
