use Rattle.std.proofs.Common.{◌∙◌, ap, take, fold}
use Rattle.osm_elements.specs.Rows.{without_row}
use Rattle.room_mirror.proofs.Rooming.{taken_out_again}
use Rattle.room_mirror.proofs.replacing.reserve.Goals as goal

pub returns-in-Err-clause-err : goal.returns-in-Err-clause-err
returns-in-Err-clause-err g c =
    let done = take c.loop-place.place c.args.absent.now in
    c.take_out_all.ensures ∙ ap (λ m. fold without_row m done) (c.in-Err.ensures.err ∙ c.loop-place.invariant)
    ∙ taken_out_again c.args.rows.now c.args.absent.now c.loop-place.place c.requires.order c.requires.absent
