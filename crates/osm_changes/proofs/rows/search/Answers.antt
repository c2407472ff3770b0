use Rattle.std.proofs.Common.{◌≡◌, ◌<◌, length, rules, ◌∙◌, HoldsAt, Greater}
use Rattle.std.proofs.lemmas.Fn.{always_returns_same}
use Rattle.osm_changes.specs.Prelude.{cell_cmp, cell_of}
use Rattle.osm_changes.proofs.Likely.{parts_here}
use Rattle.osm_changes.proofs.rows.search.Goals as goal

pub returns-in-Greater-clause-position : goal.returns-in-Greater-clause-position
returns-in-Greater-clause-position g c =
    let past = c.is_past.ensures c.if-is_past.true in
    let above : c.args.likely < length c.args.changes.now → HoldsAt (λ d. cell_cmp (cell_of d) c.args.cell.now ≡ Greater) c.args.changes.now c.args.likely =
    λ l d. c.order_at.ensures.within l d ∙ c.in-Greater.is in
    parts_here (λ d. cell_cmp (cell_of d) c.args.cell.now) c.args.changes.now c.args.likely past.0 past.1 above

pub returns-clause-position : goal.returns-clause-position
returns-clause-position g c =
    c.binary_search_by.ensures.position (λ d. cell_cmp (cell_of d) c.args.cell.now) (always_returns_same _ _ _ (λ x r f' called. search rules))
