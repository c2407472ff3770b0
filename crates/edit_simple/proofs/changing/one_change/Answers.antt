use Rattle.std.proofs.Common.{◌++◌, sym, subst}
use Rattle.edit_simple.specs.Prelude.{row_changes, AreChanges, AreChanges-row_changes}
use Rattle.edit_simple.proofs.changing.one_change.Goals as goal

pub push_row-requires : goal.push_row-requires
push_row-requires g c =
    subst (λ cs. AreChanges (cs ++ row_changes c.args.name.now c.args.before c.args.after)) (sym c.empty-changes.ensures)
    (AreChanges-row_changes c.args.name.now c.args.before c.args.after)
