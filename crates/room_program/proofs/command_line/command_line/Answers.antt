-- The command that is built has the shape of the definition, subcommand by subcommand.
use Rattle.std.proofs.Common.{rules, ap, ap₂, ◌∙◌, ◌≡◌, true, codes}
use Rattle.std.proofs.lemmas.Result.{IfOk-weaker}
use Rattle.clap.specs.Words.{App, app_of, new_app, with_subcommand}
use Rattle.room_program.proofs.command_line.command_line.Goals as goal

abbrev needs_subcommand : App → App
needs_subcommand a = record a { top = record a.top { subcommand_required = true; has_version = true } }

pub returns : goal.returns
returns c =
    let above_is : app_of c.subcommand_required.result ≡ needs_subcommand (new_app (codes "maproom")) = search rules in
    let first_is = c.in_ok-subcommand.ensures.shape c.in_ok-replay.ensures.local ∙ ap₂ with_subcommand above_is (ap (λ (a : App). a.top) c.in_ok-replay.ensures.shape) in
    IfOk-weaker c.subcommand-2.result _ _ (λ line added. added.shape c.in_ok-serve.ensures.local ∙ ap₂ with_subcommand first_is (ap (λ (a : App). a.top) c.in_ok-serve.ensures.shape)) c.subcommand-2.ensures
