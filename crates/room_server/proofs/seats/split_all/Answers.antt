use Rattle.std.proofs.Common.{◌+◌, ◌++◌, ◌∷◌, [], arith, subst, sym}
use Rattle.room_server.specs.Prelude.{into_iter_items, AreSplit}
use Rattle.room_server.proofs.Splitting.{AtFirst, at_more, length_more, split_more, whole_more}
use Rattle.room_server.proofs.seats.split_all.Goals as goal

-- one more seat was split
pub loop-seat-preserved : goal.loop-seat-preserved
loop-seat-preserved c =
    let i = c.loop-seat.invariant in
    let one = c.split-one.result.0 in
    let other = c.split-one.result.1 in
    let kept = c.in_ok-push.ensures.items in
    let new = c.in_ok-push-2.ensures.items in
    let long = length_more c.loop-seat.yielded c.in-Some.seat in
    let count = i.count in
    record {
      whole = whole_more c.args.seats.items c.loop-seat.yielded (into_iter_items c.loop-seat.seat-iterator) (into_iter_items c.next.new.self) c.in-Some.seat i.whole c.in-Some.ensures.steps.0;
      count = omega (arith, long, count);
      kept = subst (λ xs. AtFirst c.args.table.now (c.loop-seat.room + 1) xs) (sym kept) (at_more c.args.table.now c.loop-seat.room c.loop-seat.kept.items c.desk.result.now one c.desk.ensures i.kept c.split-one.ensures.desk.0);
      new = subst (λ xs. AtFirst c.args.table.now (c.loop-seat.room + 1) xs) (sym new) (at_more c.args.table.now c.loop-seat.room c.loop-seat.new.items c.desk.result.now other c.desk.ensures i.new c.split-one.ensures.desk.1);
      split = subst (λ xs. AreSplit (c.loop-seat.yielded ++ c.in-Some.seat ∷ []) xs c.push-in-loop-seat.new.self.items) (sym kept)
          (subst (λ xs. AreSplit (c.loop-seat.yielded ++ c.in-Some.seat ∷ []) (c.loop-seat.kept.items ++ one ∷ []) xs) (sym new)
          (split_more c.loop-seat.yielded c.loop-seat.kept.items c.loop-seat.new.items c.in-Some.seat one other i.split c.split-one.ensures.split));
    }
