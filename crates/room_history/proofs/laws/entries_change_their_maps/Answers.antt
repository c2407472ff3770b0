use Rattle.room_history.proofs.ChangingEntries.{entry_changes, entry_leads}
use Rattle.room_history.proofs.laws.entries_change_their_maps.Goals as goal

pub returns-clause-changes : goal.returns-clause-changes
returns-clause-changes g c = λ base limit i k e sound h.
    (entry_changes c.differences_are_changes.ensures.changes c.differences_are_changes.ensures.from c.an_inverse_restores.ensures.from base sound limit i k e h).changes

pub returns-clause-from : goal.returns-clause-from
returns-clause-from g c = λ base limit i k e sound h.
    (entry_changes c.differences_are_changes.ensures.changes c.differences_are_changes.ensures.from c.an_inverse_restores.ensures.from base sound limit i k e h).from

pub returns-clause-leads : goal.returns-clause-leads
returns-clause-leads g c = λ base limit i k e sound h.
    entry_leads c.differences_are_changes.ensures.changes c.differences_are_changes.ensures.from c.an_inverse_restores.ensures.from base sound limit i k e h
