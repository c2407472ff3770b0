use Rattle.std.proofs.Common.{◌∙◌, sym, subst}
use Rattle.edit_footprint.specs.Prelude.{AreHeld, standing, touch_cmp, touch_cmp_total, IsTable-lists}
use Rattle.edit_footprint.specs.Touches.{IsFootprint}
use Rattle.edit_footprint.proofs.Keeping.{lacks_next, on_err, same_held, stands}
use Rattle.edit_footprint.proofs.holders.Holders.stand.Goals as goal

pub add_all-requires : goal.add_all-requires
add_all-requires g c =
    let before = c.self.inside.lists.lists.entries in
    lacks_next before before c.touches-touches.result.now c.args.seq (rw (← c.self.view_is) at c.requires)

pub returns-in_err-add_all-clause-err : goal.returns-in_err-add_all-clause-err
returns-in_err-add_all-clause-err g c =
    on_err c.from_residual.result
    (same_held c.self.inside.lists.lists.entries c.add_all.new.self.lists.entries c.self.inside.lists.kept c.add_all.new.self.kept c.in_err-add_all.ensures.err ∙ c.self.view_is)

pub returns-clause-ok : goal.returns-clause-ok
returns-clause-ok g c =
    let before = c.self.inside.lists.lists.entries in
    let after = c.add_all.new.self.lists.entries in
    let touches = c.touches-touches.result.now in
    let rises = subst IsFootprint (sym c.touches-touches.ensures.touches) c.touches-touches.ensures.rising in
    let next = rw (← c.self.view_is) at c.requires in
    stands before after touches c.args.seq c.self.inside.lists.kept c.add_all.new.self.kept rises next c.in_ok-add_all.ensures.ok
    ∙ (λ i. standing (c.self.view_is i) (c.touches-touches.ensures.touches i) c.args.seq)

pub returns-in_err-add_all-clause-held : goal.returns-in_err-add_all-clause-held
returns-in_err-add_all-clause-held g c = subst AreHeld c.self.view_is (IsTable-lists touch_cmp touch_cmp_total c.self.inside.lists.lists.entries c.self.inside.lists.kept)

pub returns-clause-held : goal.returns-clause-held
returns-clause-held g c = subst AreHeld c.self.view_is (IsTable-lists touch_cmp touch_cmp_total c.self.inside.lists.lists.entries c.self.inside.lists.kept)
