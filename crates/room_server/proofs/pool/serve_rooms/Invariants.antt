use Rattle.std.proofs.Common.{◌≡◌, ◌+◌, ◌++◌, ℕ, [], ◌∷◌, All, map, vec_items, length}
use Rattle.room_server.specs.Prelude.{into_iter_items, Meet, HaveMet, IsSet, AreAt}
use Rattle.room_server.specs.Inner.Parts.{parts_in}
use Rattle.room_server.proofs.pool.serve_rooms.Given as goal

-- the sets so far were met
abbrev pub invariant-loop-others : goal.invariant-loop-others
invariant-loop-others g l = record {
  at : AreAt l.table l.seats.items;
  met : HaveMet (length l.yielded) l.seats.items;
  meet : Meet (map vec_items l.yielded) l.seats.items;
  rest : All (λ set. IsSet l.table (vec_items set)) (into_iter_items l.others-iterator);
  whole : l.yielded ++ into_iter_items l.others-iterator ≡ into_iter_items l.initial.others-iterator;
  none_lost : (room : ℕ) → parts_in room (l.seats.items ∷ map vec_items (into_iter_items l.others-iterator)) ≡ parts_in room (l.fn.seats.items ∷ []);
  count : length l.yielded + length (into_iter_items l.others-iterator) ≡ l.fn.load.workers;
}
