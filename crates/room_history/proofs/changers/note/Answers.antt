use Rattle.std.proofs.Common.{◌≡◌, IsSome, Some, rules, arith, unwrap_or, cond, ap, ◌∙◌}
use Rattle.indexmap.specs.IndexMap.{get, spare}
use Rattle.edit_footprint.specs.Touches.{is_same_touch}
use Rattle.room_history.specs.Inner.Changers.{changed_again, never}
use Rattle.room_history.proofs.NotingChanges.{replaced}
use Rattle.room_history.proofs.changers.note.Goals as goal

pub returns-in-Some-clause-last : goal.returns-in-Some-clause-last
returns-in-Some-clause-last g c =
    let w = c.changed_again.result in
    let some : IsSome (get is_same_touch c.args.table.now c.args.touch) = search rules in
    replaced c.args.table.now.entries _ c.args.touch w ((c.get_mut.follows.holds w).3 some).0 (changed_again c.args.entries.now c.args.author.now c.args.seq)
    (c.changed_again.ensures ∙ ap (λ o. changed_again c.args.entries.now c.args.author.now c.args.seq (unwrap_or o never)) c.in-Some.ensures.value)

pub returns-in-Some-clause-room : goal.returns-in-Some-clause-room
returns-in-Some-clause-room g c =
    let kept : spare (c.get_mut.follows.lender c.changed_again.result) ≡ spare c.args.table.now = (c.get_mut.follows.holds c.changed_again.result).6 in
    omega (arith, kept)

pub returns-in-Ok-clause-last : goal.returns-in-Ok-clause-last
returns-in-Ok-clause-last g c =
    replaced c.args.table.now.entries c.insert.new.self.entries c.args.touch c.changed_again-first.result
    (λ q. c.in-Ok.ensures.updates.0 q ∙ ap (λ m. cond (is_same_touch c.args.touch q) (Some c.changed_again-first.result) (get is_same_touch m q)) c.get_mut.follows.holds-at-none)
    (changed_again c.args.entries.now c.args.author.now c.args.seq)
    (c.changed_again-first.ensures ∙ ap (λ o. changed_again c.args.entries.now c.args.author.now c.args.seq (unwrap_or o never)) c.in-None.ensures.value)
