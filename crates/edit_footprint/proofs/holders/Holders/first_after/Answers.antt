use Rattle.std.proofs.Common.{◌+◌, ◌<◌, ℕ, Option, List, length, take, flat_map, sym, subst, rules}
use Rattle.edit_footprint.specs.Prelude.{Name, Touch, rivals, IsFootprint, IsFirstHolder}
use Rattle.edit_footprint.specs.Inner.Searching.{sooner_rival}
use Rattle.edit_footprint.proofs.Searching.{next_rivals, hunted_before, step_rivals}
use Rattle.edit_footprint.proofs.holders.Holders.first_after.Goals as goal

pub loop-touch-preserved : goal.loop-touch-preserved
loop-touch-preserved g c =
    let touches = c.touches-touches.result.now in
    let within : c.loop-touch.touch-index < length touches = search rules in
    let touch = c.touch-item.result in
    let held = c.args.self.now in
    let footprint = subst IsFootprint (sym c.touches-touches.ensures.touches) c.touches-touches.ensures.rising in
    subst (λ (f : Option (ℕ × Name)). IsFirstHolder held (flat_map rivals (take (c.loop-touch.touch-index + 1) touches)) c.args.seq f) (sym c.sooner_rival-first.ensures.sooner)
    (subst (λ (l : List Touch). IsFirstHolder held l c.args.seq (sooner_rival held c.loop-touch.first touch c.args.seq))
    (sym (next_rivals touches c.loop-touch.touch-index touch within c.touch-item.is))
    (step_rivals held (flat_map rivals (take c.loop-touch.touch-index touches)) touch c.args.seq
    (hunted_before touches c.loop-touch.touch-index touch footprint within c.touch-item.is) c.sooner_rival-first.ensures.rising c.loop-touch.first c.loop-touch.invariant))
