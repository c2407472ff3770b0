use Rattle.std.proofs.Common.{◌≡◌, ◌++◌, ◌∷◌, [], List, length, refl, sym, ap, ◌∙◌, rules, append_assoc, append-nil, arith}
use Rattle.std.specs.Vec.Iter.{into_iter_items}
use Rattle.room_history.proofs.Holding.{run_more}
use Rattle.room_history.proofs.run.answer_all.Goals as goal

nothing_left : {X : Type 0} (xs : List X) → length xs ≡ 0 → xs ≡ []
nothing_left [] e = refl
nothing_left (x ∷ xs) e = absurd (omega arith)

pub loop-call-init : goal.loop-call-init
loop-call-init g c = record {
  all = c.into_iter-call-iterator.ensures.into_iter_gives.0;
  base = refl;
  limit = refl;
  run = rw c.in_ok-replies.ensures.items (c.holds.ensures, refl);
}

pub loop-call-preserved : goal.loop-call-preserved
loop-call-preserved g c =
    let i = c.loop-call.invariant in
    let room = c.args.room.now in
    let base = c.take.ensures.base ∙ i.base in
    let limit = c.take.ensures.limit ∙ i.limit in
    record {
      all = append_assoc c.loop-call.yielded (c.in-Some.call ∷ []) (into_iter_items c.next.new.self) ∙ ap (λ cs. c.loop-call.yielded ++ cs) (sym c.in-Some.ensures.steps.0) ∙ i.all;
      base = base;
      limit = limit;
      run = rw c.in_ok-push.ensures.items (run_more room.base room.limit room.journal c.loop-call.yielded c.loop-call.replies.items c.loop-call.room.journal c.take.new.self.journal c.in-Some.call c.take.result i.run
          (rw (← i.base, ← i.limit) c.take.ensures.step) (rw (← base, ← limit) c.take.ensures.holds));
    }

pub returns-clause-run : goal.returns-clause-run
returns-clause-run g c =
    let i = c.loop-call.invariant in
    let none : length (into_iter_items c.loop-call.call-iterator) ≡ 0 = search rules in
    let empty : into_iter_items c.loop-call.call-iterator ≡ [] = nothing_left (into_iter_items c.loop-call.call-iterator) none in
    let all = sym (append-nil c.loop-call.yielded) ∙ ap (λ cs. c.loop-call.yielded ++ cs) (sym empty) ∙ i.all in
    rw (← all) i.run
