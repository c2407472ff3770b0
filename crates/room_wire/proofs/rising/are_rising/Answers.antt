use Rattle.std.proofs.Common.{map, ap, ap₂, sym, ◌∙◌}
use Rattle.std.proofs.lemmas.List.{drop_all}
use Rattle.osm_elements.specs.Maps.{are_rising}
use Rattle.room_wire.specs.Inner.Rising.{is_before}
use Rattle.room_wire.proofs.RisingNames.{rising_last, rises_on}
use Rattle.room_wire.proofs.rising.are_rising.Goals.{else-place-rows-via-then-place-rows+else-not-is_before, else-place-rows-via-else-place-rows}
use Rattle.room_wire.proofs.rising.are_rising.Goals as goal

pub loop-place-preserved : goal.loop-place-preserved
loop-place-preserved g c =
    let named = g.T.Named.named in
    let rows = c.args.rows.now in
    let place = c.loop-place.place in
    elim c.else-place-rows.branch [
      | else-place-rows-via-then-place-rows+else-not-is_before w ↦
          rises_on named rows place w.index-rows-place.result w.index-rows-place-then-place-rows.result (are_rising (map named rows)) w.if-place-rows.true
          (w.if-not-is_before.ensures ∙ ap₂ is_before (w.name.ensures ∙ ap named w.index-rows-place.is) (w.name-then-place-rows.ensures ∙ ap named w.index-rows-place-then-place-rows.is)) c.loop-place.invariant
      | else-place-rows-via-else-place-rows w ↦ c.loop-place.invariant ∙ rising_last named rows place c.loop-place-test.true w.if-place-rows.false
    ]

pub returns : goal.returns
returns g c = sym (c.loop-place.invariant ∙ ap (λ rs. are_rising (map g.T.Named.named rs)) (drop_all c.loop-place.place c.args.rows.now c.loop-place-test.false))
