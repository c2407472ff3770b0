-- A call that takes some bytes leaves fewer.
use Rattle.std.proofs.Common.{◌∙◌, ◌||◌, Bool, false, ap}
use Rattle.room_program.proofs.StreamLemmas.{put-more}
use Rattle.room_program.proofs.sink.put_all.Goals as goal

pub loop-rest-preserved : goal.loop-rest-preserved
loop-rest-preserved g c =
    let inv = c.loop-rest.invariant in
    let taken = g.W.Sink.taken in (
      c.in-Ok.ensures.failed ∙ ap (λ (b : Bool). b || false) inv.0,
      put-more (taken c.args.writer.now) (taken c.loop-rest.writer) (taken c.put.new.self) c.args.bytes.now inv.1.0 c.loop-rest.rest.now c.in-Ok.count
          inv.1.1 inv.1.2 c.in-Ok.ensures.bytes,
    )
