-- The command that is built has the shape of the definition, option by option.
use Rattle.std.proofs.Common.{rules, ap₂, ◌∙◌, ◌||◌, ◌≡◌, Bool, codes, false}
use Rattle.std.proofs.lemmas.Result.{IfOk-weaker}
use Rattle.clap.specs.Words.{app_of, new_app, with_rule}
use Rattle.clap.specs.declared.builder.command.Command.TheViews.{out-Command as fields_of}
use Rattle.room_program.proofs.command_line.serve_line.Goals as goal

pub returns-clause-shape : goal.returns-clause-shape
returns-clause-shape c =
    let empty_is = c.serve_words.ensures.shape in
    let addr_is = c.in_ok-arg.ensures.shape c.addr_option.ensures.local ∙ ap₂ with_rule empty_is c.addr_option.ensures.rule in
    let workers_is = c.in_ok-arg-2.ensures.shape c.workers_option.ensures.local ∙ ap₂ with_rule addr_is c.workers_option.ensures.rule in
    let sessions_is = c.in_ok-arg-3.ensures.shape c.sessions_option.ensures.local ∙ ap₂ with_rule workers_is c.sessions_option.ensures.rule in
    let limit_is = c.in_ok-arg-4.ensures.shape c.limit_option.ensures.local ∙ ap₂ with_rule sessions_is c.limit_option.ensures.rule in
    let base_is = c.in_ok-arg-5.ensures.shape c.base_option.ensures.local ∙ ap₂ with_rule limit_is c.base_option.ensures.rule in
    let name_header_is = c.in_ok-arg-6.ensures.shape c.name_header_option.ensures.local ∙ ap₂ with_rule base_is c.name_header_option.ensures.rule in
    let watchers_is = c.in_ok-arg-7.ensures.shape c.watchers_option.ensures.local ∙ ap₂ with_rule name_header_is c.watchers_option.ensures.rule in
    let origin_is = c.in_ok-arg-8.ensures.shape c.origin_option.ensures.local ∙ ap₂ with_rule watchers_is c.origin_option.ensures.rule in
    IfOk-weaker c.arg-9.result _ _ (λ line added. added.shape c.room_words.ensures.local ∙ ap₂ with_rule origin_is c.room_words.ensures.rule) c.arg-9.ensures

pub returns-clause-local : goal.returns-clause-local
returns-clause-local c =
    let either = λ (a b : Bool). a || b in
    let empty_is = c.serve_words.ensures.local in
    let addr_is = c.in_ok-arg.ensures.globals ∙ ap₂ either empty_is c.addr_option.ensures.local in
    let workers_is = c.in_ok-arg-2.ensures.globals ∙ ap₂ either addr_is c.workers_option.ensures.local in
    let sessions_is = c.in_ok-arg-3.ensures.globals ∙ ap₂ either workers_is c.sessions_option.ensures.local in
    let limit_is = c.in_ok-arg-4.ensures.globals ∙ ap₂ either sessions_is c.limit_option.ensures.local in
    let base_is = c.in_ok-arg-5.ensures.globals ∙ ap₂ either limit_is c.base_option.ensures.local in
    let name_header_is = c.in_ok-arg-6.ensures.globals ∙ ap₂ either base_is c.name_header_option.ensures.local in
    let watchers_is = c.in_ok-arg-7.ensures.globals ∙ ap₂ either name_header_is c.watchers_option.ensures.local in
    let origin_is = c.in_ok-arg-8.ensures.globals ∙ ap₂ either watchers_is c.origin_option.ensures.local in
    IfOk-weaker c.arg-9.result _ _ (λ line added. added.globals ∙ ap₂ either origin_is c.room_words.ensures.local) c.arg-9.ensures
