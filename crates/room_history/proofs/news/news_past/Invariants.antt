use Rattle.std.proofs.Common.{◌≡◌, ◌++◌, drop}
use Rattle.room_history.specs.Inner.Telling.{told_from}
use Rattle.room_history.proofs.news.news_past.Given as goal

abbrev pub invariant-loop-place : goal.invariant-loop-place
invariant-loop-place g l = l.told.items ++ drop l.place (told_from 1 l.fn.entries l.fn.recorded) ≡ drop l.fn.from (told_from 1 l.fn.entries l.fn.recorded)
