use Rattle.std.proofs.Common.{◌≡◌, [], ◌∷◌, length, map, refl, vec_items, vec_len, ◌∙◌, ap, arith, rules, subst, sym}
use Rattle.std.proofs.lemmas.List.{length-map, map-append}
use Rattle.std.proofs.lemmas.List.Elements.{All-rest, All-same}
use Rattle.room_server.specs.Prelude.{into_iter_items, Meet, HaveMet, IsSet, rule_of}
use Rattle.room_server.proofs.Counting.{head_of, met_more, none_met}
use Rattle.room_server.proofs.Pooling.{meet_more, meet_none}
use Rattle.room_server.proofs.Parts.{all_parts, met_parts, worked_parts}
use Rattle.room_server.proofs.Splitting.{length_more, no_more, whole_end, whole_more}
use Rattle.room_server.specs.Inner.Parts.{parts_in}
use Rattle.room_server.proofs.pool.serve_rooms.Goals as goal

pub meet_all-requires-clause-others : goal.meet_all-requires-clause-others
meet_all-requires-clause-others g c =
    (head_of (λ set. IsSet c.args.table.now (vec_items set)) c.in-Some-others.others (into_iter_items c.next.new.self) (into_iter_items c.loop-others.others-iterator) c.in-Some-others.ensures.steps.0 c.loop-others.invariant.rest).0

-- one more set was met
pub loop-others-preserved : goal.loop-others-preserved
loop-others-preserved g c =
    let i = c.loop-others.invariant in
    let steps = c.in-Some-others.ensures.steps.0 in
    let set = head_of (λ set. IsSet c.args.table.now (vec_items set)) c.in-Some-others.others (into_iter_items c.next.new.self) (into_iter_items c.loop-others.others-iterator) steps i.rest in
    let long = length_more c.loop-others.yielded c.in-Some-others.others in
    let fewer = ap length steps in
    let count = i.count in
    record {
      at = c.meet_all.ensures.at;
      met = subst (λ n. HaveMet n c.meet_all.new.seats.items) (sym long)
          (met_more c.args.table.now c.loop-others.seats.items c.in-Some-others.others.items c.meet_all.new.seats.items (length c.loop-others.yielded) i.at set c.meet_all.ensures.met i.met);
      meet = subst (λ sets. Meet sets c.meet_all.new.seats.items) (sym (map-append vec_items c.loop-others.yielded (c.in-Some-others.others ∷ [])))
          (meet_more c.args.table.now (map vec_items c.loop-others.yielded) c.loop-others.seats.items c.in-Some-others.others.items c.meet_all.new.seats.items i.at set.0 c.meet_all.ensures.met i.meet);
      whole = whole_more (into_iter_items c.into_iter-others-iterator.result) c.loop-others.yielded (into_iter_items c.loop-others.others-iterator) (into_iter_items c.next.new.self) c.in-Some-others.others i.whole steps;
      rest = All-rest (λ set. IsSet c.args.table.now (vec_items set)) c.in-Some-others.others (into_iter_items c.next.new.self) (into_iter_items c.loop-others.others-iterator) steps i.rest;
      none_lost = λ room.
          let were = i.none_lost room in
          let met = met_parts c.args.table.now c.loop-others.seats.items c.in-Some-others.others.items c.meet_all.new.seats.items i.at set.0 c.meet_all.ensures.met room in
          let one = ap (λ sets. parts_in room (map vec_items sets)) steps in
          omega (arith, were, met, one);
      count = omega (arith, long, fewer, count);
    }

pub loop-others-init : goal.loop-others-init
loop-others-init g c =
    let gives = c.into_iter-others-iterator.ensures.into_iter_gives.0 in
    let of_threads = rw c.in_default.is at c.run_threads-joined.ensures.all in
    let works = rw c.in_default.is at c.run_threads-joined.ensures.works in
    let split = c.in_ok-seats.ensures in
    record {
      at = split.left.0;
      met = split.left.1;
      meet = meet_none c.in_ok-seats.seats.items split.own (none_met c.in_ok-seats.seats.items split.left.1);
      rest = All-same (λ set. IsSet c.args.table.now (vec_items set)) (into_iter_items c.into_iter-others-iterator.result) (vec_items c.run_threads-joined.result.sets) gives c.run_threads-joined.ensures.sets;
      whole = refl;
      none_lost = λ room.
          let were = split.parts room in
          let worked = worked_parts c.args.table.now (rule_of c.args.admission.now) c.args.load.turns (map vec_items (vec_items c.in_ok-seats.sets)) (map vec_items (vec_items c.run_threads-joined.result.sets)) works room in
          let one = ap (λ sets. parts_in room (map vec_items sets)) gives in
          omega (arith, were, worked, one);
      count = (let all = ap length gives in let long : vec_len c.run_threads-joined.result.sets ≡ length (vec_items c.run_threads-joined.result.sets) = search rules in let many = split.count in omega (arith, all, long, of_threads, many));
    }

-- the threads' sets were met into the first seats, and these have all parts again
pub returns-clause-pools : goal.returns-clause-pools
returns-clause-pools g c =
    let i = c.loop-others.invariant in
    let gives = c.into_iter-others-iterator.ensures.into_iter_gives.0 in
    let left : length (into_iter_items c.loop-others.others-iterator) ≡ 0 = search rules in
    let all = whole_end (into_iter_items c.into_iter-others-iterator.result) c.loop-others.yielded (into_iter_items c.loop-others.others-iterator) i.whole left ∙ gives in
    let long : vec_len c.in_ok-seats.sets ≡ length (vec_items c.in_ok-seats.sets) = search rules in
    let count = c.in_ok-seats.ensures.count in
    let sets = length-map (vec_items c.in_ok-seats.sets) vec_items in
    let of_first = c.requires.at.0 in
    let of_seats = i.at.0 in
    record {
      lent = map vec_items (vec_items c.in_ok-seats.sets);
      back = map vec_items (vec_items c.run_threads-joined.result.sets);
      many = omega (arith, sets, long, count);
      works = rw c.in_default.is at c.run_threads-joined.ensures.works;
      meet = subst (λ sets. Meet (map vec_items sets) c.loop-others.seats.items) all i.meet;
      parts = all_parts c.args.seats.items c.loop-others.seats.items c.requires.first (omega (arith, of_first, of_seats))
          (λ room. let were = i.none_lost room in let none = ap (λ sets. parts_in room (map vec_items sets)) (no_more (into_iter_items c.loop-others.others-iterator) left) in omega (arith, were, none));
    }
