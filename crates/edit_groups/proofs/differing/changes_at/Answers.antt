use Rattle.std.proofs.Common.{ap, ◌∙◌, arith}
use Rattle.std.proofs.lemmas.List.{take_all}
use Rattle.edit_groups.specs.Prelude.{row_at, rows_changes, one_fits, covering}
use Rattle.edit_groups.proofs.differing.changes_at.Goals as goal

pub push_row-requires : goal.push_row-requires
push_row-requires g c =
    one_fits (g.M.Lookup.rows c.args.before.now) (row_at (g.N.Lookup.rows c.args.after.now)) c.args.names.now c.loop-name.name-index c.name-item.result c.loop-name-test.true c.name-item.is
    c.requires.rising c.loop-name.changes c.in_ok-old.old c.in_ok-new.new c.loop-name.invariant (c.in_ok-old.ensures ∙ c.element.ensures) (c.in_ok-new.ensures ∙ c.element-in-loop-name.ensures)

pub returns : goal.returns
returns g c =
    c.loop-name.invariant
    ∙ ap (rows_changes (g.M.Lookup.rows c.args.before.now) (row_at (g.N.Lookup.rows c.args.after.now))) (take_all c.loop-name.name-index c.args.names.now (let end = c.loop-name-test.false in omega (arith, end)))
    ∙ covering (g.M.Lookup.rows c.args.before.now) (g.N.Lookup.rows c.args.after.now) c.args.names.now c.requires.rising c.requires.rest
