use Rattle.std.proofs.Common.{◌++◌, T, map, ap, subst, sym, ◌∙◌, arith}
use Rattle.std.proofs.lemmas.List.{take_all}
use Rattle.osm_changes.specs.Prelude.{are_rising, changes_of, row_changes, AreChanges, ChangedRow, more-all, next_fits}
use Rattle.osm_changes.proofs.changed_row.ChangedRows.changes.Goals as goal

pub push_changes-requires : goal.push_changes-requires
push_changes-requires g c =
    let rows = c.deref-row-items.result.now in
    let row = c.row-item.result in
    subst (λ cs. AreChanges (cs ++ row_changes row.name row.before row.after)) (sym c.loop-row.invariant)
    (next_fits (λ (r : ChangedRow _). r.name) (λ r. r.before) (λ r. r.after) rows c.loop-row.row-index row c.loop-row-test.true c.row-item.is
    (subst (λ xs. T (are_rising (map (λ (r : ChangedRow _). r.name) xs))) (sym c.deref-row-items.ensures.value) c.self.invariant))

pub loop-row-preserved : goal.loop-row-preserved
loop-row-preserved g c =
    let row = c.row-item.result in
    c.in_ok-push_changes.ensures ∙ ap (λ cs. cs ++ row_changes row.name row.before row.after) c.loop-row.invariant
    ∙ more-all (λ (r : ChangedRow _). r.name) (λ r. r.before) (λ r. r.after) c.deref-row-items.result.now c.loop-row.row-index row c.loop-row-test.true c.row-item.is

pub returns : goal.returns
returns g c =
    c.loop-row.invariant
    ∙ ap changes_of (take_all c.loop-row.row-index c.deref-row-items.result.now (let end = c.loop-row-test.false in omega (arith, end)) ∙ c.deref-row-items.ensures.value ∙ c.self.view_is)
