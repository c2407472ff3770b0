use Rattle.std.proofs.Common.{◌≡◌, IfOk, length, drop, sym, ap, subst, ◌∙◌}
use Rattle.room_history.specs.News.{news}
use Rattle.room_history.specs.Inner.Telling.{told_from}
use Rattle.room_history.proofs.NewsTold.{news_told}
use Rattle.room_history.proofs.Telling.{kept_of_each}
use Rattle.room_history.proofs.room.Room.news.Goals as goal

pub news_past-requires : goal.news_past-requires
news_past-requires g c =
    let room = c.self.inside in
    ap length (c.deref-2.ensures.value ∙ c.self.invariant.recorded_are) ∙ kept_of_each room.base.value room.entries.items ∙ ap length (sym c.deref.ensures.value)

pub returns : goal.returns
returns g c =
    let room = c.self.inside in
    let recorded = c.deref-2.ensures.value ∙ c.self.invariant.recorded_are in
    subst (λ ns. IfOk c.news_past.result (λ told. told ≡ ns))
    ((λ i. drop c.args.from (told_from 1 (c.deref.ensures.value i) (recorded i))) ∙ news_told room.base.value room.entries.items c.args.from ∙ ap (λ s. news s.base s.journal c.args.from) c.self.view_is)
    c.news_past.ensures
