use Rattle.std.proofs.Common.{subst, sym, ◌∙◌}
use Rattle.room_stacks.specs.Prelude.{IsStrictlyIncreasing, increasing}
use Rattle.room_stacks.proofs.Entering.{standing_rises}
use Rattle.room_stacks.proofs.stacks.Stacks.standing.Goals as goal

pub returns-clause-rising : goal.returns-clause-rising
returns-clause-rising g c =
    let kept = c.self.invariant.kept in
    subst IsStrictlyIncreasing (sym (c.standing.ensures ∙ kept.standing_kept c.args.author.now)) (increasing _ (standing_rises _ c.args.author.now kept.rising))
