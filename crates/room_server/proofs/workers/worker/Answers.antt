use Rattle.std.proofs.Common.{◌∙◌, suc}
use Rattle.room_server.specs.Prelude.{keeps_both, known_of, known_through}
use Rattle.room_server.proofs.workers.worker.Goals as goal

-- one session more keeps what is kept and known, so all sessions do
pub loop-preserved-in-loop : goal.loop-preserved-in-loop
loop-preserved-in-loop g c =
    let served = c.loop.invariant.2 in (
      c.serve-end.ensures.kept ∙ c.loop.invariant.0,
      keeps_both (known_through c.args.table.now c.args.seats.items) (known_of c.loop.rooms) (known_of c.serve-end.new.rooms) c.loop.invariant.1 c.serve-end.ensures.keeps,
      (suc served.0, (known_of c.loop.rooms, served.1, c.serve-end.ensures.serves)),
    )

pub loop-preserved : goal.loop-preserved
loop-preserved g c =
    let served = c.loop.invariant.2 in (
      c.serve-end.ensures.kept ∙ c.loop.invariant.0,
      keeps_both (known_through c.args.table.now c.args.seats.items) (known_of c.loop.rooms) (known_of c.serve-end.new.rooms) c.loop.invariant.1 c.serve-end.ensures.keeps,
      (suc served.0, (known_of c.loop.rooms, served.1, c.serve-end.ensures.serves)),
    )
