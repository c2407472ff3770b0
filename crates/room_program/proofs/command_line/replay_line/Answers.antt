use Rattle.std.proofs.Common.{rules, ap₂, ◌∙◌, ◌||◌, ◌≡◌, Bool, codes, false}
use Rattle.std.proofs.lemmas.Result.{IfOk-weaker}
use Rattle.clap.specs.Words.{app_of, new_app, with_rule}
use Rattle.clap.specs.declared.builder.command.Command.TheViews.{out-Command as fields_of}
use Rattle.room_program.proofs.command_line.replay_line.Goals as goal

pub returns-clause-shape : goal.returns-clause-shape
returns-clause-shape c =
    let empty_is : app_of c.long_about.result ≡ new_app (codes "replay") = search rules in
    let limit_is = c.in_ok-arg.ensures.shape c.limit_option.ensures.local ∙ ap₂ with_rule empty_is c.limit_option.ensures.rule in
    IfOk-weaker c.arg-2.result _ _ (λ line added. added.shape c.base_option.ensures.local ∙ ap₂ with_rule limit_is c.base_option.ensures.rule) c.arg-2.ensures

pub returns-clause-local : goal.returns-clause-local
returns-clause-local c =
    let either = λ (a b : Bool). a || b in
    let empty_is : (fields_of c.long_about.result).has_globals ≡ false = search rules in
    let limit_is = c.in_ok-arg.ensures.globals ∙ ap₂ either empty_is c.limit_option.ensures.local in
    IfOk-weaker c.arg-2.result _ _ (λ line added. added.globals ∙ ap₂ either limit_is c.base_option.ensures.local) c.arg-2.ensures
