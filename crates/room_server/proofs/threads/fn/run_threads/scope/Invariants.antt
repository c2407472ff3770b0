use Rattle.std.proofs.Common.{◌≡◌, ◌+◌, ◌++◌, All, None, length, map, vec_items, vec_len}
use Rattle.room_server.specs.Prelude.{into_iter_items, IsFresh}
use Rattle.room_server.proofs.threads.fn.run_threads.scope.Given as goal

-- a thread was started for each of the sets so far
abbrev pub invariant-loop-seats : goal.invariant-loop-seats
invariant-loop-seats g l = record {
  rest : All (λ set. IsFresh l.table (vec_items set)) (into_iter_items l.seats-iterator);
  threads : All (λ thread. (thread.promise.table.now ≡ l.table) × (thread.promise.turns ≡ l.load-turns) × (thread.promise.admission.now ≡ l.admission) × IsFresh l.table (vec_items thread.promise.lent.value)) (vec_items l.threads);
  lent : map (λ thread. vec_items thread.promise.lent.value) (vec_items l.threads) ++ map vec_items (into_iter_items l.seats-iterator) ≡ map vec_items (into_iter_items l.initial.seats-iterator);
  count : vec_len l.threads + length (into_iter_items l.seats-iterator) ≡ length (into_iter_items l.initial.seats-iterator);
  no_fault : l.fault ≡ None;
}
