use Rattle.std.proofs.Common.{◌≡◌, ◌++◌, All, None, length, map, refl, vec_items, vec_len, ◌∙◌, ap, arith, rules, subst, sym}
use mathlib.Core.List.{[], ◌∷◌}
use denote.Exit.{yes}
use mir.Syntax.{named}
use denote.Param.Send.{param_send, arg_send, shr_send}
use Rattle.std.proofs.lemmas.List.Elements.{All-rest, All-same, All-push}
use Rattle.std.proofs.Crossing.{send}
use Rattle.room_server.specs.Prelude.{into_iter_items, IsFresh, Pairs, Works, rule_of}
use Rattle.room_history.proofs.Crossing.{closure_send}
use Rattle.room_server.proofs.Counting.{all_none, head_of, if_none}
use Rattle.room_server.proofs.Pooling.{if_both, moved_all, moved_over}
use Rattle.room_server.proofs.Crossing.{admission_sync, jobs_sync, seats_send, table_sync, u64_send}
use Rattle.room_server.proofs.threads.fn.run_threads.scope.Goals.{in-None, in-Some+then-is_err, in-Some+else-is_err+in-Err}
use Rattle.room_server.proofs.threads.fn.run_threads.scope.Goals as goal

-- the closure takes with it references to the runtime, the gate, the table and the queue, and the seats
pub spawn_with-requires-send-F : goal.spawn_with-requires-send-F
spawn_with-requires-send-F g c κs within =
    closure_send 2 _ _ (_ ∷ _ ∷ _ ∷ _ ∷ _ ∷ _ ∷ _ ∷ _ ∷ []) (
      shr_send (named 6) κs.1.1.1.1.1.1.0 _ c.requires.sync.0,
      (
        send,
        (
          shr_send (named 7) κs.1.1.1.1.1.1.1.0 _ c.requires.sync.1,
          (
            shr_send (named 8) κs.1.1.1.1.1.1.1.1.0 _ table_sync,
            (seats_send, (shr_send (named 9) κs.1.1.1.1.1.1.1.1.1.0 _ jobs_sync, (u64_send, (shr_send (named 10) κs.1.1.1.1.1.1.1.1.1.1.0 _ admission_sync, tt)))),
          ),
        ),
      ),
    )

pub spawn_with-requires-send-T : goal.spawn_with-requires-send-T
spawn_with-requires-send-T g c κs within = param_send 3 _ (arg_send _ yes _ seats_send)

pub loop-seats-init : goal.loop-seats-init
loop-seats-init g c =
    let long = c.new-threads.ensures.len in
    record {
      rest = All-same (λ set. IsFresh c.captures.table.now (vec_items set)) (into_iter_items c.into_iter-seats-iterator.result) (vec_items c.captures.sets) c.into_iter-seats-iterator.ensures.into_iter_gives.0 c.requires.sets;
      threads = all_none (λ thread. (thread.promise.table.now ≡ c.captures.table.now) × (thread.promise.turns ≡ c.captures.load-turns) × (thread.promise.admission.now ≡ c.captures.admission.now) × IsFresh c.captures.table.now (vec_items thread.promise.lent.value)) (vec_items c.new-threads.result) c.new-threads.ensures.items;
      lent = ap (λ ts. map (λ thread. vec_items thread.promise.lent.value) ts ++ map vec_items (into_iter_items c.into_iter-seats-iterator.result)) c.new-threads.ensures.items;
      count = omega (arith, long);
      no_fault = refl;
    }

-- the thread promises to give back the set that it is lent, which was the first of the remaining sets
pub loop-seats-preserved : goal.loop-seats-preserved
loop-seats-preserved g c =
    let i = c.loop-seats.invariant in
    let steps = c.in-Some.ensures.steps.0 in
    let set = head_of (λ set. IsFresh c.captures.table.now (vec_items set)) c.in-Some.seats (into_iter_items c.next.new.self) (into_iter_items c.loop-seats.seats-iterator) steps i.rest in
    let items : vec_items c.push_reserved.new.self ≡ vec_items c.loop-seats.threads ++ c.in-Ok.thread ∷ [] = c.push_reserved.ensures.items ∙ ap (λ ts. ts ++ c.in-Ok.thread ∷ []) c.reserve.ensures.items in
    let long = c.push_reserved.ensures.len in
    let same = c.reserve.ensures.len in
    let fewer = ap length steps in
    let count = i.count in
    let here : c.in-Ok.thread.promise.table.now ≡ c.captures.table.now = search rules in
    let admits : c.in-Ok.thread.promise.admission.now ≡ c.captures.admission.now = search rules in
    let told : c.in-Ok.thread.promise.turns ≡ c.captures.load-turns = search rules in
    let lent : c.in-Ok.thread.promise.lent.value ≡ c.in-Some.seats = search rules in
    record {
      rest = All-rest (λ set. IsFresh c.captures.table.now (vec_items set)) c.in-Some.seats (into_iter_items c.next.new.self) (into_iter_items c.loop-seats.seats-iterator) steps i.rest;
      threads = All-same (λ thread. (thread.promise.table.now ≡ c.captures.table.now) × (thread.promise.turns ≡ c.captures.load-turns) × (thread.promise.admission.now ≡ c.captures.admission.now) × IsFresh c.captures.table.now (vec_items thread.promise.lent.value)) (vec_items c.push_reserved.new.self) (vec_items c.loop-seats.threads ++ c.in-Ok.thread ∷ []) items
          (All-push (λ thread. (thread.promise.table.now ≡ c.captures.table.now) × (thread.promise.turns ≡ c.captures.load-turns) × (thread.promise.admission.now ≡ c.captures.admission.now) × IsFresh c.captures.table.now (vec_items thread.promise.lent.value)) (vec_items c.loop-seats.threads) c.in-Ok.thread i.threads
          (here, told, admits, subst (λ v. IsFresh c.captures.table.now (vec_items v)) (sym lent) set));
      lent = moved_over (λ thread. vec_items thread.promise.lent.value) vec_items (vec_items c.loop-seats.threads) (vec_items c.push_reserved.new.self) (into_iter_items c.loop-seats.seats-iterator) (into_iter_items c.next.new.self) c.in-Ok.thread c.in-Some.seats items steps (ap vec_items lent) ∙ i.lent;
      count = omega (arith, long, same, fewer, count);
      no_fault = i.no_fault;
    }

-- each thread that was started has a fresh set
pub join_all-requires : goal.join_all-requires
join_all-requires g c =
    elim c.match-next.branch [
      | in-None w ↦ All-same (λ thread. (thread.promise.table.now ≡ c.captures.table.now) × (thread.promise.turns ≡ c.captures.load-turns) × (thread.promise.admission.now ≡ c.captures.admission.now) × IsFresh c.captures.table.now (vec_items thread.promise.lent.value)) (vec_items c.match-next.threads) (vec_items c.loop-seats.threads) (ap vec_items w.threads-is) c.loop-seats.invariant.threads
      | in-Some+then-is_err w ↦ All-same (λ thread. (thread.promise.table.now ≡ c.captures.table.now) × (thread.promise.turns ≡ c.captures.load-turns) × (thread.promise.admission.now ≡ c.captures.admission.now) × IsFresh c.captures.table.now (vec_items thread.promise.lent.value)) (vec_items c.match-next.threads) (vec_items c.loop-seats.threads) (ap vec_items w.threads-is ∙ w.reserve.ensures.items) c.loop-seats.invariant.threads
      | in-Some+else-is_err+in-Err w ↦ All-same (λ thread. (thread.promise.table.now ≡ c.captures.table.now) × (thread.promise.turns ≡ c.captures.load-turns) × (thread.promise.admission.now ≡ c.captures.admission.now) × IsFresh c.captures.table.now (vec_items thread.promise.lent.value)) (vec_items c.match-next.threads) (vec_items c.loop-seats.threads) (ap vec_items w.threads-is ∙ w.reserve.ensures.items) c.loop-seats.invariant.threads
    ]

-- without a fault, a thread was started for each set
pub returns : goal.returns
returns g c =
    let i = c.loop-seats.invariant in
    let gives = c.into_iter-seats-iterator.ensures.into_iter_gives.0 in
    let whole : c.match-next.fault ≡ None → (vec_len c.match-next.threads ≡ vec_len c.captures.sets) × (map (λ thread. vec_items thread.promise.lent.value) (vec_items c.match-next.threads) ≡ map vec_items (vec_items c.captures.sets)) = λ none.
    elim c.match-next.branch [
      | in-None w ↦
          let left : length (into_iter_items c.loop-seats.seats-iterator) ≡ 0 = search rules in
          let count = i.count in
          let all = ap length gives in
          let long : vec_len c.captures.sets ≡ length (vec_items c.captures.sets) = search rules in
          let same = ap vec_len w.threads-is in (
            omega (arith, left, count, all, long, same),
            ap (λ ts. map (λ thread. vec_items thread.promise.lent.value) (vec_items ts)) w.threads-is
                ∙ moved_all (λ thread. vec_items thread.promise.lent.value) vec_items (vec_items c.loop-seats.threads) (into_iter_items c.loop-seats.seats-iterator) (vec_items c.captures.sets) left (i.lent ∙ ap (map vec_items) gives),
          )
      | in-Some+then-is_err w ↦ let e = w.fault-is in absurd (cc)
      | in-Some+else-is_err+in-Err w ↦ let e = w.fault-is in absurd (cc)
    ] in
    record {
      sets = c.join_all.ensures.sets;
      all = if_none c.join_all.result.fault (λ was. was.1 ∙ (whole was.0).0) c.join_all.ensures.all;
      works = if_both c.join_all.result.fault (λ was pairs. subst (λ lent. Pairs (Works c.captures.table.now (rule_of c.captures.admission.now) c.captures.load-turns) lent (map vec_items (vec_items c.join_all.result.sets))) (whole was.0).1 pairs) c.join_all.ensures.all c.join_all.ensures.works;
    }
