use Rattle.std.proofs.Common.{[]}
use Rattle.room_history.specs.Prelude.{entries, opened}
use Rattle.room_history.proofs.Holding.{journal_holds}
use Rattle.room_history.proofs.Turning.{all_lead}
use Rattle.room_history.proofs.laws.legal_histories_hold.Goals as goal

pub returns-clause-journal : goal.returns-clause-journal
returns-clause-journal g c = λ opening h legal. all_lead opening [] (entries h) opened legal

pub returns-clause-holds : goal.returns-clause-holds
returns-clause-holds g c = λ opening h sound legal. journal_holds c.leads_back.ensures.differ c.leads_back.ensures.from c.leads_back.ensures.back opening.base sound opening.limit (entries h) (all_lead opening [] (entries h) opened legal)
