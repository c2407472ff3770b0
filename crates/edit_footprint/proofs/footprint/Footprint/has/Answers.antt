use Rattle.std.proofs.Common.{ap, ◌∙◌}
use Rattle.edit_footprint.specs.Prelude.{touch_cmp, touch_cmp_total, does, search_tells}
use Rattle.edit_footprint.proofs.footprint.Footprint.has.Goals as goal

pub returns : goal.returns
returns g c =
    let touches = c.self.inside.touches.items in
    let position = rw (c.deref.ensures.value) at c.binary_search.ensures.position in
    let bound = rw (c.deref.ensures.value) at c.binary_search.ensures.bound in
    c.is_ok.ensures.value ∙ search_tells touch_cmp touch_cmp_total c.args.touch.now touches c.self.invariant c.binary_search.result bound position ∙ ap (λ l. does l c.args.touch.now) c.self.view_is
