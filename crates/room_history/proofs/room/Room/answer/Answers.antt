use Rattle.std.proofs.Common.{◌≡◌, ◌<◌, length, sym, subst, ◌∙◌, rules, arith}
use Rattle.room_interface.specs.declared.call.Request.TheVariants as requests
use Rattle.room_history.specs.Inner.Rooms.{MayAppend}
use Rattle.room_history.proofs.Stepping.{step_full, step_repeat, spent_is, same_call}
use Rattle.room_history.proofs.room.Room.answer.Goals as goal

pub returns-in-Some-clause-step : goal.returns-in-Some-clause-step
returns-in-Some-clause-step g c =
    let room = c.self.inside in
    let is = sym (spent_is room.store room.recorded.items room.origins.items room.holders room.changers.rows room.stacks.deeds room.base.value room.limit room.entries.items c.self.invariant c.args.call.author c.args.call.id) ∙ sym c.in-Some.ensures in
    rw (← c.self.view_is) (step_repeat room.base.value room.limit room.entries.items c.args.call c.in-Some.seq is)

pub returns-then-len-self-clause-step : goal.returns-then-len-self-clause-step
returns-then-len-self-clause-step g c =
    let room = c.self.inside in
    let fresh = sym (spent_is room.store room.recorded.items room.origins.items room.holders room.changers.rows room.stacks.deeds room.base.value room.limit room.entries.items c.self.invariant c.args.call.author c.args.call.id) ∙ sym c.in_default.ensures in
    let count : c.len.result ≡ length c.self.inside.entries.items = search rules in
    rw (← c.self.view_is) (step_full room.base.value room.limit room.entries.items c.args.call fresh (omega (arith, c.if-len-self.true, count)))

pub act-requires : goal.act-requires
act-requires g c =
    let room = c.self.inside in
    let fresh = sym (spent_is room.store room.recorded.items room.origins.items room.holders room.changers.rows room.stacks.deeds room.base.value room.limit room.entries.items c.self.invariant c.args.call.author c.args.call.id) ∙ sym c.in_default.ensures in
    let count : c.len.result ≡ length c.self.inside.entries.items = search rules in
    let below : length c.self.inside.entries.items < c.self.inside.limit = omega (arith, c.if-len-self.false, count) in
    subst (λ s. MayAppend s.limit s.journal c.args.call.author c.args.call.id) c.self.view_is (fresh, below)

pub undo-requires : goal.undo-requires
undo-requires g c =
    let room = c.self.inside in
    let fresh = sym (spent_is room.store room.recorded.items room.origins.items room.holders room.changers.rows room.stacks.deeds room.base.value room.limit room.entries.items c.self.invariant c.args.call.author c.args.call.id) ∙ sym c.in_default.ensures in
    let count : c.len.result ≡ length c.self.inside.entries.items = search rules in
    let below : length c.self.inside.entries.items < c.self.inside.limit = omega (arith, c.if-len-self.false, count) in
    subst (λ s. MayAppend s.limit s.journal c.args.call.author c.args.call.id) c.self.view_is (fresh, below)

pub redo-requires : goal.redo-requires
redo-requires g c =
    let room = c.self.inside in
    let fresh = sym (spent_is room.store room.recorded.items room.origins.items room.holders room.changers.rows room.stacks.deeds room.base.value room.limit room.entries.items c.self.invariant c.args.call.author c.args.call.id) ∙ sym c.in_default.ensures in
    let count : c.len.result ≡ length c.self.inside.entries.items = search rules in
    let below : length c.self.inside.entries.items < c.self.inside.limit = omega (arith, c.if-len-self.false, count) in
    subst (λ s. MayAppend s.limit s.journal c.args.call.author c.args.call.id) c.self.view_is (fresh, below)

pub returns-in-Do-clause-step : goal.returns-in-Do-clause-step
returns-in-Do-clause-step g c =
    let state = c.args.self.now in
    same_call state.base state.limit state.journal c.act.new.self.journal c.args.call (requests.Do c.in-Do.edit c.in-Do.since) c.act.result c.in-Do.is c.act.ensures.step

pub returns-in-Undo-clause-step : goal.returns-in-Undo-clause-step
returns-in-Undo-clause-step g c =
    let state = c.args.self.now in
    same_call state.base state.limit state.journal c.undo.new.self.journal c.args.call (requests.Undo c.in-Undo.number) c.undo.result c.in-Undo.is c.undo.ensures.step

pub returns-in-Redo-clause-step : goal.returns-in-Redo-clause-step
returns-in-Redo-clause-step g c =
    let state = c.args.self.now in
    same_call state.base state.limit state.journal c.redo.new.self.journal c.args.call requests.Redo c.redo.result c.in-Redo.is c.redo.ensures.step
