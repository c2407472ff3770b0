use Rattle.std.proofs.Common.{[]}
use Rattle.std.proofs.lemmas.List.Elements.{All-nil}
use Rattle.room_mirror.specs.Prelude.{opened, IsBrought}
use Rattle.room_mirror.proofs.FromCalls.{led_run, led_step}
use Rattle.room_mirror.proofs.laws.calls_bring_their_entries.Goals as goal

pub returns-clause-step : goal.returns-clause-step
returns-clause-step c = λ base limit j k call reply legal brought is step. led_step base limit j k call reply (legal, brought) is step

pub returns-clause-run : goal.returns-clause-run
returns-clause-run c = λ base limit calls room replies are run. led_run base limit calls replies [] room.journal (opened, All-nil IsBrought) are run.run
