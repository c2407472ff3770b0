use Rattle.std.proofs.Common.{List, sym, ap, subst, ◌∙◌}
use Rattle.room_history.specs.Prelude.{Change, Entry, changed_cells, past, overwritten_since}
use Rattle.room_history.specs.Inner.Changers.{IsOutcome, changer}
use Rattle.room_history.proofs.WrittenChanges.{overwritten_found}
use Rattle.room_history.proofs.room.Room.overwritten.Goals as goal

pub returns-in-Some : goal.returns-in-Some
returns-in-Some g c =
    let room = c.self.inside in
    let table = room.changers.rows in
    let cells = changed_cells c.args.changes.now in
    let found : IsOutcome c.in-Some.since (changer room.entries.items c.args.author.now table) cells c.overwritten.result =
    subst (λ (es : List (Entry _)). IsOutcome c.in-Some.since (changer es c.args.author.now table) cells c.overwritten.result) c.deref.ensures.value
    (subst (λ (cs : List (Change _)). IsOutcome c.in-Some.since (changer c.deref.result.now c.args.author.now table) (changed_cells cs) c.overwritten.result) c.rows-changes.ensures.rows c.overwritten.ensures) in
    overwritten_found c.leads_back.ensures.differ c.leads_back.ensures.from c.leads_back.ensures.back room.base.value c.self.invariant.base_sound room.limit room.entries.items c.self.invariant.journal table c.self.invariant.changers_are
    c.args.author.now c.in-Some.since cells c.rows-changes.ensures.changes.rising c.overwritten.result found
    ∙ ap (λ o. overwritten_since c.args.author.now o cells room.entries.items (past room.base.value room.entries.items).entries) (sym c.in-Some.is)
    ∙ ap (λ s. overwritten_since c.args.author.now c.args.since cells s.journal (past s.base s.journal).entries) c.self.view_is
