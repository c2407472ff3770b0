use Rattle.std.proofs.Common.{◌≡◌, ◌++◌, true, false, sym, ap, ◌∙◌}
use Rattle.std.specs.Vec.Iter.{into_iter_items}
use Rattle.osm_changes.specs.Inner.Applying.{is_new}
use Rattle.osm_changes.proofs.Applying.{none_is_new_then}
use Rattle.osm_changes.proofs.apply.replace.Goals as goal

pub unreachable-requires : goal.unreachable-requires
unreachable-requires g c =
    let r = c.in-Some.row in
    let done = c.loop-row.yielded in
    let cut = sym c.loop-row.invariant.all ∙ ap (λ rest. done ++ rest) c.in-Some.ensures.steps.0 in
    let clash : true ≡ false =
    sym c.in-Err.ensures.new ∙ ap (λ m. is_new m r) c.loop-row.invariant.rows_are
    ∙ none_is_new_then c.args.entered.items c.args.rows.now done r (into_iter_items c.next.new.self) cut c.requires.rising c.requires.there in
    absurd (cc)
