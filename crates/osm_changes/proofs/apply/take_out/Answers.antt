use Rattle.std.proofs.Common.{◌∙◌, ap, sym}
use Rattle.osm_changes.specs.Prelude.{rows_but, RowAfter}
use Rattle.osm_changes.proofs.Applying.{out_one_more, taken_out}
use Rattle.osm_changes.proofs.apply.take_out.Goals as goal

pub loop-row-preserved : goal.loop-row-preserved
loop-row-preserved g c =
    let r = c.row-item.result in
    c.take_out.ensures.rest ∙ taken_out c.loop-row.rows r.name c.take_out.ensures.in_order
    ∙ (λ i. rows_but (ap (λ (s : RowAfter _). s.name) c.row-item.is i) (c.loop-row.invariant i))
    ∙ sym (out_one_more c.args.entered.now c.loop-row.row-index r c.args.rows.now c.loop-row-test.true)
