use Rattle.std.proofs.Common.{◌<◌, length, take, rules}
use Rattle.rising_lists.proofs.lists.RisingLists.add_all.Goals as goal
use Rattle.rising_lists.specs.Facts.Steps.{Gains-more, back, lacks_take, next}

pub loop-at-preserved : goal.loop-at-preserved
loop-at-preserved g c =
    let within : c.loop-at.at < length c.args.keys.now = search rules in
    let x = c.index-keys-at.result in
    let e = next c.args.keys.now c.loop-at.at x within c.index-keys-at.is in
    let keys = take c.loop-at.at c.args.keys.now in
    rw e (Gains-more g.K.Ord.cmp g.V.Ord.cmp c.args.self.now.lists.entries c.loop-at.self.lists.entries c.add.new.self.lists.entries keys c.args.value c.loop-at.invariant x c.in_default.ensures.ok)

pub returns-in-Err-clause-err : goal.returns-in-Err-clause-err
returns-in-Err-clause-err g c =
    let before = c.args.self.now.lists.entries in
    let keys = take c.loop-at.at c.args.keys.now in
    let lacks = lacks_take g.K.Ord.cmp g.V.Ord.cmp before before before c.args.keys.now c.args.value c.loop-at.at c.requires in
    back g.K.Ord.cmp g.V.Ord.cmp before c.loop-at.self.lists.entries c.take_out_all.new.self.lists.entries keys c.args.value c.add.new.self.lists.entries lacks c.loop-at.invariant c.in-Err.ensures.err c.take_out_all.ensures
