use Rattle.std.proofs.Common.{◌≡◌, ◌+◌, ◌++◌, All, IfNone, None, length, map, vec_items, vec_len}
use Rattle.room_server.specs.Prelude.{into_iter_items, Pairs, Works, IsFresh, IsSet, rule_of}
use Rattle.room_server.proofs.threads.join_all.Given as goal

-- the sets of the threads so far came back
abbrev pub invariant-loop-thread : goal.invariant-loop-thread
invariant-loop-thread g l = record {
  whole : l.yielded ++ into_iter_items l.thread-iterator ≡ vec_items l.fn.threads;
  rest : All (λ thread. (thread.promise.table.now ≡ l.fn.table) × (thread.promise.turns ≡ l.fn.turns) × (thread.promise.admission.now ≡ l.fn.admission) × IsFresh l.fn.table (vec_items thread.promise.lent.value)) (into_iter_items l.thread-iterator);
  sets : All (λ set. IsSet l.fn.table (vec_items set)) (vec_items l.sets);
  none_lost : IfNone l.fault ((l.fn.fault ≡ None) × (vec_len l.sets + length (into_iter_items l.thread-iterator) ≡ vec_len l.fn.threads));
  works : IfNone l.fault (Pairs (Works l.fn.table (rule_of l.fn.admission) l.fn.turns) (map (λ thread. vec_items thread.promise.lent.value) l.yielded) (map vec_items (vec_items l.sets)));
}
