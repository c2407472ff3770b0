use Rattle.std.proofs.Common.{◌<◌, length, sym, rules}
use Rattle.osm_elements.proofs.KeyedPlaces.{found_at, gap_at}
use Rattle.osm_elements.proofs.keyed.KeyedRows.get.Goals as goal

pub index-requires : goal.index-requires
index-requires g c =
    let e = rw (c.deref.ensures.value) at c.in-Ok.ensures in
    let l : c.in-Ok.at < length c.self.inside.rows.items = (found_at g.V.KeyedValue.is_kept c.args.key.now c.self.inside.rows.items c.self.invariant c.in-Ok.at e).in_range in
    search rules

pub returns-in-Ok : goal.returns-in-Ok
returns-in-Ok g c =
    let e = rw (c.deref.ensures.value) at c.in-Ok.ensures in
    rw (← c.self.view_is) (sym ((found_at g.V.KeyedValue.is_kept c.args.key.now c.self.inside.rows.items c.self.invariant c.in-Ok.at e).value c.index.result.now c.index.ensures))

pub returns-in-Err : goal.returns-in-Err
returns-in-Err g c =
    let e = rw (c.deref.ensures.value) at c.in-Err.ensures in
    rw (← c.self.view_is) (sym (gap_at g.V.KeyedValue.is_kept c.args.key.now c.self.inside.rows.items c.self.invariant c.in-Err.field-0 e).none)
