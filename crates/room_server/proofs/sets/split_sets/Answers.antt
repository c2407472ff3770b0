use Rattle.std.proofs.Common.{◌≡◌, ◌-◌, ◌++◌, ◌∷◌, suc, [], map, vec_items, ◌∙◌, ap, arith}
use Rattle.std.proofs.lemmas.List.{map-append}
use Rattle.std.proofs.lemmas.List.Elements.{All-same, All-push}
use Rattle.room_server.specs.Seats.{IsFresh}
use Rattle.room_server.proofs.Counting.{met_left, new_is_fresh, own_left, parts_for_one, parts_left}
use Rattle.room_server.proofs.Parts.{parts_push, split_parts}
use Rattle.room_server.specs.Inner.Parts.{parts_in}
use Rattle.room_server.proofs.sets.split_sets.Goals as goal

-- there are parts for the sets that are still to be split off
pub split_all-requires-clause-parts : goal.split_all-requires-clause-parts
split_all-requires-clause-parts c =
    let before = c.loop-test.true in
    parts_for_one (c.args.count - c.loop.counter) c.loop.left.items (omega (arith, before)) (c.loop.invariant.parts (c.args.count - c.loop.counter) (omega (arith, before)))

-- there is one set more, and parts for one set fewer
pub loop-preserved : goal.loop-preserved
loop-preserved c =
    let i = c.loop.invariant in
    let at = c.in_ok-kept.ensures.at in
    let split = c.in_ok-kept.ensures.split in
    let long = c.in_ok-push.ensures.len in
    let count = i.count in
    let before = c.loop-test.true in
    let one = parts_for_one (c.args.count - c.loop.counter) c.loop.left.items (omega (arith, before)) (i.parts (c.args.count - c.loop.counter) (omega (arith, before))) in
    let sets : map vec_items (vec_items c.push.new.self) ≡ map vec_items (vec_items c.loop.sets) ++ c.in_ok-kept.set.items ∷ [] =
    ap (map vec_items) c.in_ok-push.ensures.items ∙ map-append vec_items (vec_items c.loop.sets) (c.in_ok-kept.set ∷ []) in
    record {
      at = at.0;
      first = met_left c.loop.left.items c.in_ok-kept.kept.items c.in_ok-kept.set.items split 0 i.first;
      own = own_left c.loop.left.items c.in_ok-kept.kept.items c.in_ok-kept.set.items split i.own;
      sets = All-same (λ set. IsFresh c.args.table.now (vec_items set)) (vec_items c.push.new.self) (vec_items c.loop.sets ++ c.in_ok-kept.set ∷ []) c.in_ok-push.ensures.items
          (All-push (λ set. IsFresh c.args.table.now (vec_items set)) (vec_items c.loop.sets) c.in_ok-kept.set i.sets
          (new_is_fresh c.loop.left.items c.in_ok-kept.kept.items c.in_ok-kept.set.items split c.args.table.now at.1));
      count = omega (arith, long, count);
      none_lost = λ room.
          let were = i.none_lost room in
          let shared = split_parts c.loop.left.items c.in_ok-kept.kept.items c.in_ok-kept.set.items split one room in
          let pushed = ap (parts_in room) sets ∙ parts_push room (map vec_items (vec_items c.loop.sets)) c.in_ok-kept.set.items in
          omega (arith, were, shared, pushed);
      parts = λ more sum. parts_left c.loop.left.items c.in_ok-kept.kept.items c.in_ok-kept.set.items split more (i.parts (suc more) (omega (arith, sum)));
    }
