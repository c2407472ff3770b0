use Rattle.std.proofs.Common.{◌≡◌, ◌+◌, ◌++◌, ◌∷◌, [], All, length, vec_items, vec_len, ap, arith, rules, subst}
use Rattle.std.proofs.lemmas.List.Elements.{All-rest, All-same, All-push}
use Rattle.room_server.specs.Prelude.{into_iter_items, Works, IsFresh, IsSet, AreAt, known_through, rule_of, ServesEach}
use Rattle.room_server.proofs.Counting.{head_of, if_none, still_set}
use Rattle.room_server.proofs.Pooling.{pairs_more}
use Rattle.room_server.proofs.Splitting.{whole_more}
use Rattle.room_server.proofs.threads.join_all.Goals as goal

-- the allocation failed, and the set is lost
pub loop-thread-preserved-then-is_err : goal.loop-thread-preserved-then-is_err
loop-thread-preserved-then-is_err g c =
    let i = c.loop-thread.invariant in
    record {
      rest = All-rest (λ thread. (thread.promise.table.now ≡ c.args.table.now) × (thread.promise.turns ≡ c.args.turns) × (thread.promise.admission.now ≡ c.args.admission.now) × IsFresh c.args.table.now (vec_items thread.promise.lent.value)) c.in-Some.thread (into_iter_items c.next.new.self) (into_iter_items c.loop-thread.thread-iterator) c.in-Some.ensures.steps.0 i.rest;
      sets = All-same (λ set. IsSet c.args.table.now (vec_items set)) (vec_items c.push.new.self) (vec_items c.loop-thread.sets) (search rules) i.sets;
      none_lost = tt;
      works = tt;
      whole = whole_more (vec_items c.args.threads) c.loop-thread.yielded (into_iter_items c.loop-thread.thread-iterator) (into_iter_items c.next.new.self) c.in-Some.thread i.whole c.in-Some.ensures.steps.0;
    }

-- the joined thread was the first of the remaining threads, and it gives back the set that it was lent
pub loop-thread-preserved : goal.loop-thread-preserved
loop-thread-preserved g c =
    let i = c.loop-thread.invariant in
    let steps = c.in-Some.ensures.steps.0 in
    let head = head_of (λ thread. (thread.promise.table.now ≡ c.args.table.now) × (thread.promise.turns ≡ c.args.turns) × (thread.promise.admission.now ≡ c.args.admission.now) × IsFresh c.args.table.now (vec_items thread.promise.lent.value)) c.in-Some.thread (into_iter_items c.next.new.self) (into_iter_items c.loop-thread.thread-iterator) steps i.rest in
    let set : IsSet c.args.table.now (vec_items c.join.result) = still_set c.args.table.now (vec_items c.in-Some.thread.promise.lent.value) (vec_items c.join.result)
    (subst (λ t. AreAt t (vec_items c.join.result)) head.0 c.join.ensures.0) c.join.ensures.1 head.3 in
    let lent = vec_items c.in-Some.thread.promise.lent.value in
    let works : Works c.args.table.now (rule_of c.args.admission.now) c.args.turns lent (vec_items c.join.result) = record {
      fresh = head.3;
      same = c.join.ensures.1;
      sessions = c.join.ensures.2.0;
      serves = subst (λ t. ServesEach (rule_of c.args.admission.now) c.args.turns c.join.ensures.2.0 (known_through t lent) (known_through t (vec_items c.join.result))) head.0
          (subst (λ turns. ServesEach (rule_of c.args.admission.now) turns c.join.ensures.2.0 (known_through c.in-Some.thread.promise.table.now lent) (known_through c.in-Some.thread.promise.table.now (vec_items c.join.result))) head.1
          (subst (λ admission. ServesEach (rule_of admission) c.in-Some.thread.promise.turns c.join.ensures.2.0 (known_through c.in-Some.thread.promise.table.now lent) (known_through c.in-Some.thread.promise.table.now (vec_items c.join.result))) head.2 c.join.ensures.2.1));
    } in
    let items : vec_items c.push.new.self ≡ vec_items c.loop-thread.sets ++ c.join.result ∷ [] = search rules in
    let long : vec_len c.push.new.self ≡ vec_len c.loop-thread.sets + 1 = search rules in
    let fewer = ap length steps in
    record {
      rest = All-rest (λ thread. (thread.promise.table.now ≡ c.args.table.now) × (thread.promise.turns ≡ c.args.turns) × (thread.promise.admission.now ≡ c.args.admission.now) × IsFresh c.args.table.now (vec_items thread.promise.lent.value)) c.in-Some.thread (into_iter_items c.next.new.self) (into_iter_items c.loop-thread.thread-iterator) steps i.rest;
      sets = All-same (λ set. IsSet c.args.table.now (vec_items set)) (vec_items c.push.new.self) (vec_items c.loop-thread.sets ++ c.join.result ∷ []) items
          (All-push (λ set. IsSet c.args.table.now (vec_items set)) (vec_items c.loop-thread.sets) c.join.result i.sets set);
      none_lost = if_none c.loop-thread.fault (λ was. (was.0, let count = was.1 in omega (arith, long, fewer, count))) i.none_lost;
      works = if_none c.loop-thread.fault (pairs_more (Works c.args.table.now (rule_of c.args.admission.now) c.args.turns) (λ thread. vec_items thread.promise.lent.value) vec_items c.loop-thread.yielded (vec_items c.loop-thread.sets) (vec_items c.push.new.self) c.in-Some.thread c.join.result items works) i.works;
      whole = whole_more (vec_items c.args.threads) c.loop-thread.yielded (into_iter_items c.loop-thread.thread-iterator) (into_iter_items c.next.new.self) c.in-Some.thread i.whole steps;
    }
