use Rattle.std.proofs.Common.{◌≡◌, ◌+◌, ℕ, [], ◌∷◌, All, map, vec_items, vec_len}
use Rattle.room_server.specs.Prelude.{HaveMet, HavePartsFor, IsFresh, AreAt}
use Rattle.room_server.specs.Inner.Parts.{parts_in}
use Rattle.room_server.proofs.sets.split_sets.Given as goal

-- these sets were split off, and there are parts for the remaining sets
abbrev pub invariant-loop : goal.invariant-loop
invariant-loop l = record {
  at : AreAt l.table l.left.items;
  first : HaveMet 0 l.left.items;
  own : All (λ seat. seat.mine ≡ []) l.left.items;
  sets : All (λ set. IsFresh l.table (vec_items set)) (vec_items l.sets);
  count : vec_len l.sets ≡ l.counter;
  none_lost : (room : ℕ) → parts_in room (l.left.items ∷ map vec_items (vec_items l.sets)) ≡ parts_in room (l.fn.seats.items ∷ []);
  parts : (more : ℕ) → l.counter + more ≡ l.fn.count → HavePartsFor more l.left.items;
}
