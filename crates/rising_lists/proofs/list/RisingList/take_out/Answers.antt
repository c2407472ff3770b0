use Rattle.std.proofs.Common.{◌≡◌, ap, subst, sym, ◌∙◌}
use Rattle.std.specs.List.{remove}
use Rattle.rising_lists.proofs.list.RisingList.take_out.Goals as goal
use Rattle.rising_lists.specs.Facts.Searching.{out_in_gap, out_where_found}
use Rattle.rising_lists.specs.Inner.States.{values}
use Rattle.rising_lists.specs.Rising.{IsRising, but}

pub returns-in-Ok : goal.returns-in-Ok
returns-in-Ok g c =
    let items = c.in-Many.values.value.items in
    let is : items ≡ c.args.self.now = ap values (sym c.in-Many.is) ∙ c.self.view_is in
    let rises = subst (IsRising g.V.Ord.cmp) (sym is) c.requires in
    let here = rw (c.deref-in-Many.ensures.value, c.deref.ensures) at c.in-Ok.ensures.position in
    let within = rw (c.deref-in-Many.ensures.value, c.deref.ensures) at c.in-Ok.ensures.bound in
    c.remove.ensures.items ∙ ap (λ v. remove v.items c.in-Ok.at) c.deref_mut.ensures.value ∙ out_where_found g.V.Ord.cmp g.met.V.Ord.total c.args.value.now items c.in-Ok.at rises within here ∙ ap (but g.V.Ord.cmp c.args.value.now) is

pub returns-in-Err : goal.returns-in-Err
returns-in-Err g c =
    let items = c.in-Many.values.value.items in
    let is : items ≡ c.args.self.now = ap values (sym c.in-Many.is) ∙ c.self.view_is in
    let rises = subst (IsRising g.V.Ord.cmp) (sym is) c.requires in
    let gap = rw (c.deref-in-Many.ensures.value, c.deref.ensures) at c.in-Err.ensures.position in
    let within = rw (c.deref-in-Many.ensures.value, c.deref.ensures) at c.in-Err.ensures.bound in
    sym (out_in_gap g.V.Ord.cmp g.met.V.Ord.total c.args.value.now items rises c.in-Err.field-0 within gap) ∙ ap (but g.V.Ord.cmp c.args.value.now) is
