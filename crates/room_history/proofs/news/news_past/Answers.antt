use Rattle.std.proofs.Common.{◌+◌, ◌++◌, drop, ap, ◌∙◌}
use Rattle.room_history.specs.Inner.Telling.{told_from}
use Rattle.room_history.proofs.Telling.{one_more_told, all_told}
use Rattle.room_history.proofs.news.news_past.Goals as goal

pub loop-place-preserved : goal.loop-place-preserved
loop-place-preserved g c =
    let entries = c.args.entries.now in
    let recorded = c.args.recorded.now in
    let place = c.loop-place.place in
    let entry = c.index-entries-place.result in
    let kept = c.index-recorded-place.result in
    ap (λ items. items ++ drop (place + 1) (told_from 1 entries recorded)) c.in_ok-push.ensures.items
    ∙ one_more_told place entries recorded c.loop-place.told.items (drop c.args.from (told_from 1 entries recorded)) entry entry kept kept c.in_ok-news.news c.loop-place-test.true c.requires
    c.index-entries-place.is c.index-recorded-place.is c.in_ok-news.ensures c.loop-place.invariant

pub returns : goal.returns
returns g c =
    c.from_vec.ensures
    ∙ all_told c.loop-place.place c.args.entries.now c.args.recorded.now c.loop-place.told.items (drop c.args.from (told_from 1 c.args.entries.now c.args.recorded.now)) c.loop-place-test.false c.loop-place.invariant
