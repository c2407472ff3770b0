use Rattle.std.proofs.Common.{◌∙◌, ap, subst, sym, T, map}
use Rattle.osm_changes.specs.Prelude.{IsRising-name_set, Change, ChangedRow, are_rising, changed, changed_names, changed_rows}
use Rattle.osm_changes.proofs.ChangedRows.{names_stay}
use Rattle.osm_changes.proofs.store.Store.changed_rows.Goals as goal

pub from_vec-requires : goal.from_vec-requires
from_vec-requires g c =
    let m = c.self.inside.map in
    let cs = c.rows.result.now in
    subst (λ names. T (are_rising names))
    (sym (ap (map (λ (r : ChangedRow _). r.name)) c.in_ok-rows.ensures ∙ names_stay m (changed m cs) (changed_names cs)))
    (IsRising-name_set (map (λ (k : Change _). k.name) cs))

pub returns : goal.returns
returns g c = c.from_vec.ensures ∙ c.in_ok-rows.ensures ∙ (λ i. changed_rows (c.self.view_is i).rows (c.rows.ensures.rows i))
