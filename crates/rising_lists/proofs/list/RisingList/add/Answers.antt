use Rattle.std.proofs.Common.{◌≡◌, ap, subst, sym, ◌∙◌}
use Rattle.std.specs.List.{insert}
use Rattle.rising_lists.proofs.list.RisingList.add.Goals as goal
use Rattle.rising_lists.specs.Facts.Searching.{put_in_gap, put_where_found}
use Rattle.rising_lists.specs.Inner.States.{values}
use Rattle.rising_lists.specs.Rising.{IsRising, with_value}

pub returns-in-Ok-clause-ok : goal.returns-in-Ok-clause-ok
returns-in-Ok-clause-ok g c =
    let items = c.in-Many.values.value.items in
    let is : items ≡ c.args.self.now = ap values (sym c.in-Many.is) ∙ c.self.view_is in
    let rises = subst (IsRising g.V.Ord.cmp) (sym is) c.requires in
    let here = rw (c.deref-in-Many.ensures.value, c.deref.ensures) at c.in-Ok.ensures.position in
    let within = rw (c.deref-in-Many.ensures.value, c.deref.ensures) at c.in-Ok.ensures.bound in
    sym (put_where_found g.V.Ord.cmp g.met.V.Ord.total c.args.value items c.in-Ok.field-0 rises within here) ∙ ap (with_value g.V.Ord.cmp c.args.value) is

pub returns-in_ok-insert-in-Err-clause-ok : goal.returns-in_ok-insert-in-Err-clause-ok
returns-in_ok-insert-in-Err-clause-ok g c =
    let items = c.in-Many.values.value.items in
    let is : items ≡ c.args.self.now = ap values (sym c.in-Many.is) ∙ c.self.view_is in
    let rises = subst (IsRising g.V.Ord.cmp) (sym is) c.requires in
    let gap = rw (c.deref-in-Many.ensures.value, c.deref.ensures) at c.in-Err.ensures.position in
    let within = rw (c.deref-in-Many.ensures.value, c.deref.ensures) at c.in-Err.ensures.bound in
    c.in_ok-insert-in-Err.ensures.items ∙ ap (λ v. insert v.items c.in-Err.at c.args.value) c.deref_mut.ensures.value ∙ put_in_gap g.V.Ord.cmp g.met.V.Ord.total c.args.value items rises c.in-Err.at within gap ∙ ap (with_value g.V.Ord.cmp c.args.value) is
