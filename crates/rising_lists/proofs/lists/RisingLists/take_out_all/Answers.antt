use Rattle.std.proofs.Common.{◌<◌, length, take, rules}
use Rattle.rising_lists.proofs.lists.RisingLists.take_out_all.Goals as goal
use Rattle.rising_lists.specs.Facts.Steps.{Loses-more, next}

pub loop-key-preserved : goal.loop-key-preserved
loop-key-preserved g c =
    let within : c.loop-key.key-index < length c.args.keys.now = search rules in
    let x = c.key-item.result in
    let e = next c.args.keys.now c.loop-key.key-index x within c.key-item.is in
    let keys = take c.loop-key.key-index c.args.keys.now in
    rw e (Loses-more g.K.Ord.cmp g.V.Ord.cmp c.args.self.now.lists.entries c.loop-key.self.lists.entries c.take_out.new.self.lists.entries keys c.args.value.now c.loop-key.invariant x c.take_out.ensures)
