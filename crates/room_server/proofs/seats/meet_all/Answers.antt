use Rattle.std.proofs.Common.{arith, length, refl}
use Rattle.std.specs.Vec.Iter.{into_iter_items}
use Rattle.std.proofs.lemmas.Option.{slice_get_read, slice_get_within}
use Rattle.room_server.proofs.Meeting.{met_one}
use Rattle.room_server.proofs.Seating.{still_at}
use Rattle.room_server.proofs.Splitting.{length_more, next_at, whole_more}
use Rattle.room_server.proofs.seats.meet_all.Goals as goal

pub desk-requires : goal.desk-requires
desk-requires c =
    let i = c.loop-other.invariant in
    let here = next_at c.args.others.items c.loop-other.yielded (into_iter_items c.loop-other.other-iterator) (into_iter_items c.next.new.self) c.in-Some.other i.whole c.in-Some.ensures.steps.0 c.loop-other.room i.count in
    let below = slice_get_within c.args.others.items c.loop-other.room c.in-Some.other here in
    let many = c.requires.others.0 in
    let names = c.requires.others.2 in
    omega (arith, below, many, names)

-- the seat is the one of the room
pub meet-requires-clause-seat : goal.meet-requires-clause-seat
meet-requires-clause-seat c =
    let i = c.loop-other.invariant in
    let below = slice_get_within c.args.table.now.desks c.loop-other.room c.desk.result.now c.desk.ensures in
    let many = i.at.0 in
    i.at.1 c.loop-other.room c.desk.result.now c.index_mut.result.now c.desk.ensures
    (slice_get_read c.loop-other.seats.items (length c.loop-other.seats.items) c.loop-other.room c.index_mut.result.now refl (omega (arith, below, many)) c.index_mut.ensures.value)

pub meet-requires-clause-other : goal.meet-requires-clause-other
meet-requires-clause-other c =
    let i = c.loop-other.invariant in
    c.requires.others.1 c.loop-other.room c.desk.result.now c.in-Some.other c.desk.ensures
    (next_at c.args.others.items c.loop-other.yielded (into_iter_items c.loop-other.other-iterator) (into_iter_items c.next.new.self) c.in-Some.other i.whole c.in-Some.ensures.steps.0 c.loop-other.room i.count)

-- one more seat was met
pub loop-other-preserved : goal.loop-other-preserved
loop-other-preserved c =
    let i = c.loop-other.invariant in
    let below = slice_get_within c.args.table.now.desks c.loop-other.room c.desk.result.now c.desk.ensures in
    let many = i.at.0 in
    let was = slice_get_read c.loop-other.seats.items (length c.loop-other.seats.items) c.loop-other.room c.index_mut.result.now refl (omega (arith, below, many)) c.index_mut.ensures.value in
    let long = length_more c.loop-other.yielded c.in-Some.other in
    let count = i.count in
    record {
      whole = whole_more c.args.others.items c.loop-other.yielded (into_iter_items c.loop-other.other-iterator) (into_iter_items c.next.new.self) c.in-Some.other i.whole c.in-Some.ensures.steps.0;
      count = omega (arith, long, count);
      at = still_at c.args.table.now c.loop-other.seats.items c.loop-other.room c.desk.result.now c.index_mut.result.now c.meet.new.seat c.desk.ensures was i.at c.meet.ensures.desk;
      met = met_one c.args.table.now c.args.seats.now.items c.loop-other.yielded c.loop-other.seats.items c.loop-other.room c.desk.result.now c.index_mut.result.now c.in-Some.other c.meet.new.seat i.count c.desk.ensures was i.met c.meet.ensures.meet;
    }
