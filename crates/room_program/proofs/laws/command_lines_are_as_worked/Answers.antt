-- Each holds by evaluation.
use Rattle.std.proofs.Common.{refl}
use Rattle.clap.proofs.OnLiterals.{clap_on_literals}
use Rattle.room_program.specs.CommandLineExamples.{taken, bad_limit, serve_taken, bad_serve, bad_word, help_asked, version_asked}
use Rattle.room_program.proofs.laws.command_lines_are_as_worked.Goals as goal

pub returns-clause-taken : goal.returns-clause-taken
unfolding taken clap_on_literals
returns-clause-taken c = (
  record { taken = refl; subcommand = refl; limit_is = refl; base_is = refl },
  record { taken = refl; subcommand = refl; limit_is = refl; base_is = refl },
  record { taken = refl; subcommand = refl; limit_is = refl; base_is = refl },
  record { taken = refl; subcommand = refl; limit_is = refl; base_is = refl },
  record { taken = refl; subcommand = refl; limit_is = refl; base_is = refl },
  record { taken = refl; subcommand = refl; limit_is = refl; base_is = refl },
  record { taken = refl; subcommand = refl; limit_is = refl; base_is = refl },
)

pub returns-clause-bad_limit : goal.returns-clause-bad_limit
unfolding bad_limit clap_on_literals
returns-clause-bad_limit c = (refl, refl, refl, refl, refl, refl, refl)

pub returns-clause-serve_taken : goal.returns-clause-serve_taken
unfolding serve_taken clap_on_literals
returns-clause-serve_taken c = (
  (refl, refl, refl, refl, refl, refl, refl, refl, refl),
  (refl, refl, refl, refl, refl, refl, refl, refl, refl),
  (refl, refl, refl, refl, refl, refl, refl, refl, refl),
  (refl, refl, refl, refl, refl, refl, refl, refl, refl),
)

pub returns-clause-bad_serve : goal.returns-clause-bad_serve
unfolding bad_serve clap_on_literals
returns-clause-bad_serve c = (refl, refl, refl, refl, refl, refl)

pub returns-clause-bad_word : goal.returns-clause-bad_word
unfolding bad_word clap_on_literals
returns-clause-bad_word c = (refl, refl, refl, refl)

pub returns-clause-help_asked : goal.returns-clause-help_asked
unfolding help_asked clap_on_literals
returns-clause-help_asked c = (refl, refl, refl)

pub returns-clause-version_asked : goal.returns-clause-version_asked
unfolding version_asked clap_on_literals
returns-clause-version_asked c = (refl, refl, refl)
