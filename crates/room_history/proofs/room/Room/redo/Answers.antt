use Rattle.std.proofs.Common.{sym, ap, ◌∙◌, option_map}
use Rattle.room_history.specs.Prelude.{Redo, last, redos}
use Rattle.room_history.proofs.BinarySearching.{last_is}
use Rattle.room_history.proofs.Stepping.{redos_told, step_refused, step_accepted, step_nothing_to_redo}
use Rattle.room_interface.specs.declared.call.Request.TheVariants as requests
use Rattle.room_history.proofs.room.Room.redo.Goals as goal

pub append_work-requires-clause-work : goal.append_work-requires-clause-work
append_work-requires-clause-work g c =
    let room = c.self.inside in
    let state = c.args.self.now in
    let told = c.copied.ensures ∙ c.last.ensures.value ∙ last_is c.redo.result.now
    ∙ ap last (c.redo.ensures ∙ redos_told room.store room.recorded.items room.origins.items room.holders room.changers.rows room.stacks.deeds room.base.value room.limit room.entries.items c.self.invariant c.args.author)
    ∙ ap (λ s. last (redos s.journal c.args.author)) c.self.view_is in
    sym told ∙ c.in-Some.is

pub returns-in-Ok-append_work-clause-step : goal.returns-in-Ok-append_work-clause-step
returns-in-Ok-append_work-clause-step g c =
    let room = c.self.inside in
    let state = c.args.self.now in
    let told = c.copied.ensures ∙ c.last.ensures.value ∙ last_is c.redo.result.now
    ∙ ap last (c.redo.ensures ∙ redos_told room.store room.recorded.items room.origins.items room.holders room.changers.rows room.stacks.deeds room.base.value room.limit room.entries.items c.self.invariant c.args.author)
    ∙ ap (λ s. last (redos s.journal c.args.author)) c.self.view_is in
    rw c.in-Ok-append_work.ensures.ok.1 (step_accepted state.base state.limit state.journal c.args.author c.args.id c.requires requests.Redo (Redo c.in-Some.of) (ap (option_map Redo) (sym told ∙ c.in-Some.is)) c.in-Ok.ensures.accepted c.in-Ok-append_work.seq c.in-Ok-append_work.ensures.ok.0)

pub returns-in-Err-clause-step : goal.returns-in-Err-clause-step
returns-in-Err-clause-step g c =
    let room = c.self.inside in
    let state = c.args.self.now in
    let told = c.copied.ensures ∙ c.last.ensures.value ∙ last_is c.redo.result.now
    ∙ ap last (c.redo.ensures ∙ redos_told room.store room.recorded.items room.origins.items room.holders room.changers.rows room.stacks.deeds room.base.value room.limit room.entries.items c.self.invariant c.args.author)
    ∙ ap (λ s. last (redos s.journal c.args.author)) c.self.view_is in
    step_refused state.base state.limit state.journal c.args.author c.args.id c.requires requests.Redo (Redo c.in-Some.of) (ap (option_map Redo) (sym told ∙ c.in-Some.is)) c.in-Err.refused c.in-Err.ensures.refused

pub returns-in-None-clause-step : goal.returns-in-None-clause-step
returns-in-None-clause-step g c =
    let room = c.self.inside in
    let state = c.args.self.now in
    let told = c.copied.ensures ∙ c.last.ensures.value ∙ last_is c.redo.result.now
    ∙ ap last (c.redo.ensures ∙ redos_told room.store room.recorded.items room.origins.items room.holders room.changers.rows room.stacks.deeds room.base.value room.limit room.entries.items c.self.invariant c.args.author)
    ∙ ap (λ s. last (redos s.journal c.args.author)) c.self.view_is in
    step_nothing_to_redo state.base state.limit state.journal c.args.author c.args.id c.requires (sym told ∙ c.in-None.is)
