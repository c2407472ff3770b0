use Rattle.std.proofs.Common.{Some, ap, ◌∙◌}
use Rattle.edit_simple.specs.Prelude.{is_missing, least_taken_by, least_passed_by}
use Rattle.edit_simple.proofs.lookup.least_missing_member.Goals.{then-is_missing, else-is_missing}
use Rattle.edit_simple.proofs.lookup.least_missing_member.Goals as goal

pub loop-member-preserved : goal.loop-member-preserved
loop-member-preserved g c =
    let p = is_missing (g.R.Lookup.rows c.args.rows.now) c.args.new.now in
    elim c.if-is_missing.branch [
      | then-is_missing w ↦ w.least-is ∙ ap Some w.lesser.ensures ∙ least_taken_by (λ m. m.name) p c.args.members.now c.loop-member.member-index c.member-item.result c.loop-member-test.true c.member-item.is c.loop-member.least c.loop-member.invariant w.if-is_missing.ensures
      | else-is_missing w ↦ w.least-is ∙ least_passed_by (λ m. m.name) p c.args.members.now c.loop-member.member-index c.member-item.result c.loop-member-test.true c.member-item.is c.loop-member.least c.loop-member.invariant w.if-is_missing.ensures
    ]
