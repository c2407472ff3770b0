use Rattle.std.proofs.Common.{◌≡◌, ◌<◌, ◌≤◌, length, drop, arith, sym, ap, subst, ◌∙◌}
use Rattle.std.proofs.lemmas.List.{take_at}
use Rattle.osm_changes.specs.Changes.{inverse, AreChanges}
use Rattle.osm_changes.proofs.Turning.{turned_one_more, turned_all, AreChanges-inverse}
use Rattle.osm_changes.proofs.changes.Changes.inverse.Goals as goal

pub loop-change-preserved : goal.loop-change-preserved
loop-change-preserved g c =
    let same : length c.deref_mut-change-items.result.now ≡ length c.args.self = ap length (c.deref_mut-change-items.ensures.value ∙ c.self.view_is) in
    let test = c.loop-change-test.true in
    let below : c.loop-change.change-index < length c.args.self = omega (arith, test, same) in
    rw (c.take_back.ensures) (turned_one_more c.args.self c.loop-change.change-items c.loop-change.change-index _ below c.loop-change.invariant)

pub invariant_of-result : goal.invariant_of-result
invariant_of-result g c =
    let same : length c.deref_mut-change-items.result.now ≡ length c.args.self = ap length (c.deref_mut-change-items.ensures.value ∙ c.self.view_is) in
    let test = c.loop-change-test.false in
    let end : length c.args.self ≤ c.loop-change.change-index = omega (arith, test, same) in
    let all : c.loop-change.change-items ≡ inverse c.args.self = turned_all c.args.self c.loop-change.change-items c.loop-change.change-index end c.loop-change.invariant in
    let len = c.loop-change.auto.change-items ∙ c.deref_mut-change-items.ensures.len in
    subst AreChanges (sym (take_at c.loop-change.change-items (drop (length c.loop-change.change-items) c.self.inside.changes.items) c.self.inside.changes.len len)) (subst AreChanges (sym all) (AreChanges-inverse c.args.self (subst AreChanges c.self.view_is c.self.invariant)))
