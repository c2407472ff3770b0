use Rattle.std.proofs.Common.{◌≡◌, subst, sym, HoldsAt, option_copied, Equal, IfOk}
use Rattle.osm_changes.specs.Prelude.{IsBinarySearchResult, gap_at, Cell, cell_cmp, cell_of, half}
use Rattle.osm_changes.proofs.HalvesAfter.{found_at, not_found}
use Rattle.osm_changes.proofs.rows.half_after.Goals as goal

pub returns-in-Ok : goal.returns-in-Ok
returns-in-Ok g c =
    let cs = c.args.changes.now in
    let place = c.in-Ok.place in
    let cell : Cell = c.args.cell in
    let here : HoldsAt (λ d. cell_cmp (cell_of d) cell ≡ Equal) cs place = c.in-Ok.ensures.position in
    subst (λ v. IfOk c.copy_of.result (λ h. h ≡ v))
    (sym (found_at cs cell place c.index-changes-place.result (half cell.part (option_copied c.args.row)) c.requires c.in-Ok.ensures.bound here))
    c.copy_of.ensures

pub returns-in-Err : goal.returns-in-Err
returns-in-Err g c =
    let cs = c.args.changes.now in
    let place = c.in-Err.place in
    let cell : Cell = c.args.cell in
    let gap : IsBinarySearchResult (λ d. cell_cmp (cell_of d) cell) cs (gap_at place) = c.in-Err.ensures.position in
    subst (λ v. IfOk c.half_of.result (λ h. h ≡ v))
    (sym (not_found cs cell place (half cell.part (option_copied c.args.row)) c.requires c.in-Err.ensures.bound gap))
    (subst (λ p. IfOk c.half_of.result (λ h. h ≡ half p (option_copied c.args.row))) c.part.ensures c.half_of.ensures)
