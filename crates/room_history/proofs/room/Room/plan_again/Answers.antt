use Rattle.std.proofs.Common.{sym, ap, ◌∙◌, inr, option_copied}
use Rattle.room_history.specs.Prelude.{redo_refusal, past, mapof, action_at}
use Rattle.room_history.proofs.Stepping.{action_told, accepted_again, changed_again, touched_again, refused_again}
use Rattle.room_history.proofs.room.Room.plan_again.Goals as goal

pub returns-in-Some-clause-accepted : goal.returns-in-Some-clause-accepted
returns-in-Some-clause-accepted g c =
    let room = c.self.inside in
    let state = c.args.self.now in
    let found = action_told room.store room.recorded.items room.origins.items room.holders room.changers.rows room.stacks.deeds room.base.value room.limit room.entries.items c.self.invariant c.deref.result.now c.deref-2.result.now c.args.of (option_copied c.action_of.result) c.deref.ensures.value c.deref-2.ensures.value c.action_of.ensures in
    let acts = sym (ap (λ s. action_at (past s.base s.journal) c.args.of) c.self.view_is) ∙ found ∙ ap option_copied c.in-Some.is in
    accepted_again (mapof state.base state.journal) (action_at (past state.base state.journal) c.args.of) c.in-Some.action.now c.planned.result acts c.planned.ensures.accepted

pub returns-in-Some-clause-changes : goal.returns-in-Some-clause-changes
returns-in-Some-clause-changes g c =
    let room = c.self.inside in
    let state = c.args.self.now in
    let found = action_told room.store room.recorded.items room.origins.items room.holders room.changers.rows room.stacks.deeds room.base.value room.limit room.entries.items c.self.invariant c.deref.result.now c.deref-2.result.now c.args.of (option_copied c.action_of.result) c.deref.ensures.value c.deref-2.ensures.value c.action_of.ensures in
    let acts = sym (ap (λ s. action_at (past s.base s.journal) c.args.of) c.self.view_is) ∙ found ∙ ap option_copied c.in-Some.is in
    changed_again (mapof state.base state.journal) (action_at (past state.base state.journal) c.args.of) c.in-Some.action.now c.planned.result acts c.planned.ensures.changes

pub returns-in-Some-clause-footprint : goal.returns-in-Some-clause-footprint
returns-in-Some-clause-footprint g c =
    let room = c.self.inside in
    let state = c.args.self.now in
    let found = action_told room.store room.recorded.items room.origins.items room.holders room.changers.rows room.stacks.deeds room.base.value room.limit room.entries.items c.self.invariant c.deref.result.now c.deref-2.result.now c.args.of (option_copied c.action_of.result) c.deref.ensures.value c.deref-2.ensures.value c.action_of.ensures in
    let acts = sym (ap (λ s. action_at (past s.base s.journal) c.args.of) c.self.view_is) ∙ found ∙ ap option_copied c.in-Some.is in
    touched_again (mapof state.base state.journal) (action_at (past state.base state.journal) c.args.of) c.in-Some.action.now c.planned.result acts c.planned.ensures.footprint

pub returns-in-Some-clause-refused : goal.returns-in-Some-clause-refused
returns-in-Some-clause-refused g c =
    let room = c.self.inside in
    let state = c.args.self.now in
    let found = action_told room.store room.recorded.items room.origins.items room.holders room.changers.rows room.stacks.deeds room.base.value room.limit room.entries.items c.self.invariant c.deref.result.now c.deref-2.result.now c.args.of (option_copied c.action_of.result) c.deref.ensures.value c.deref-2.ensures.value c.action_of.ensures in
    let acts = sym (ap (λ s. action_at (past s.base s.journal) c.args.of) c.self.view_is) ∙ found ∙ ap option_copied c.in-Some.is in
    refused_again (mapof state.base state.journal) (action_at (past state.base state.journal) c.args.of) c.in-Some.action.now c.planned.result acts c.planned.ensures.refused

pub returns-in-None-clause-refused : goal.returns-in-None-clause-refused
returns-in-None-clause-refused g c =
    let room = c.self.inside in
    let state = c.args.self.now in
    let found = action_told room.store room.recorded.items room.origins.items room.holders room.changers.rows room.stacks.deeds room.base.value room.limit room.entries.items c.self.invariant c.deref.result.now c.deref-2.result.now c.args.of (option_copied c.action_of.result) c.deref.ensures.value c.deref-2.ensures.value c.action_of.ensures in
    let none = sym (ap (λ s. action_at (past s.base s.journal) c.args.of) c.self.view_is) ∙ found ∙ ap option_copied c.in-None.is in
    inr (ap (redo_refusal (mapof state.base state.journal)) none)
