use Rattle.std.proofs.Common.{◌<◌, length, is_some, map, ap, sym, rules}
use Rattle.osm_elements.specs.Prelude.{keyed_pair, AreRows-without_key}
use Rattle.osm_elements.proofs.KeyedPlaces.{found_at, gap_at}
use Rattle.osm_elements.proofs.keyed.KeyedRows.clear.Goals as goal

pub remove-requires : goal.remove-requires
remove-requires g c =
    let e = rw (c.deref.ensures.value) at c.in-Ok.ensures in
    let l : c.in-Ok.at < length c.self.inside.rows.items = (found_at g.V.KeyedValue.is_kept c.args.key.now c.self.inside.rows.items c.self.invariant c.in-Ok.at e).in_range in
    search rules

pub invariant_of-self : goal.invariant_of-self
invariant_of-self g c =
    let e = rw (c.deref.ensures.value) at c.in-Ok.ensures in
    let found = found_at g.V.KeyedValue.is_kept c.args.key.now c.self.inside.rows.items c.self.invariant c.in-Ok.at e in
    rw (c.remove.ensures.items, found.gone) (AreRows-without_key g.V.KeyedValue.is_kept (map keyed_pair c.self.inside.rows.items) c.args.key.now c.self.invariant)

pub returns-in-Ok-clause-there : goal.returns-in-Ok-clause-there
returns-in-Ok-clause-there g c =
    let e = rw (c.deref.ensures.value) at c.in-Ok.ensures in
    rw (← c.self.view_is) (sym (found_at g.V.KeyedValue.is_kept c.args.key.now c.self.inside.rows.items c.self.invariant c.in-Ok.at e).there)

pub returns-in-Ok-clause-rest : goal.returns-in-Ok-clause-rest
returns-in-Ok-clause-rest g c =
    let e = rw (c.deref.ensures.value) at c.in-Ok.ensures in
    rw (← c.self.view_is, c.remove.ensures.items) (found_at g.V.KeyedValue.is_kept c.args.key.now c.self.inside.rows.items c.self.invariant c.in-Ok.at e).gone

pub returns-in-Err-clause-there : goal.returns-in-Err-clause-there
returns-in-Err-clause-there g c =
    let e = rw (c.deref.ensures.value) at c.in-Err.ensures in
    rw (← c.self.view_is) (sym (ap is_some (gap_at g.V.KeyedValue.is_kept c.args.key.now c.self.inside.rows.items c.self.invariant c.in-Err.field-0 e).none))

pub returns-in-Err-clause-rest : goal.returns-in-Err-clause-rest
returns-in-Err-clause-rest g c =
    let e = rw (c.deref.ensures.value) at c.in-Err.ensures in
    rw (← c.self.view_is) (sym (gap_at g.V.KeyedValue.is_kept c.args.key.now c.self.inside.rows.items c.self.invariant c.in-Err.field-0 e).gone)
