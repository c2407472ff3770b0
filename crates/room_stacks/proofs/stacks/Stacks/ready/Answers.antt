use Rattle.std.proofs.Common.{Some, ap, ◌∙◌}
use Rattle.room_stacks.specs.Stacks.{StacksState}
use Rattle.room_stacks.proofs.Readying.{on_err, readied, readied_seen, stays, stays_seen}
use Rattle.room_stacks.proofs.stacks.Stacks.ready.Goals as goal

pub invariant_of-self-in_err-reserve-2 : goal.invariant_of-self-in_err-reserve-2
invariant_of-self-in_err-reserve-2 g c =
    let s = c.self.inside in
    let h = c.reserve-2.ensures in
    stays s.ready s.ids c.reserve.new.self s.lists c.reserve-2.new.self c.self.invariant c.reserve.ensures.works c.reserve.ensures.room h.numbers h.distinct h.same h.kept

pub returns-in_err-reserve-2-clause-err : goal.returns-in_err-reserve-2-clause-err
returns-in_err-reserve-2-clause-err g c =
    let s = c.self.inside in
    let h = c.reserve-2.ensures in
    on_err c.from_residual-in_err-reserve-2.result
    (stays_seen s.ready s.ids c.reserve.new.self s.lists c.reserve-2.new.self c.self.invariant c.reserve.ensures.works c.reserve.ensures.room h.numbers h.distinct h.same h.kept ∙ c.self.view_is)

pub invariant_of-self-2 : goal.invariant_of-self-2
invariant_of-self-2 g c =
    let s = c.self.inside in
    let h = c.reserve-2.ensures in
    readied s.ready s.ids c.reserve.new.self s.lists c.reserve-2.new.self c.self.invariant c.reserve.ensures.works c.reserve.ensures.room h.numbers h.distinct h.same h.kept
    c.in_ok-reserve-2.field-0 c.args.author.now c.in_ok-reserve-2.ensures.number c.in_ok-reserve.ensures.ok c.in_ok-reserve-2.ensures.room

pub returns-clause-ok : goal.returns-clause-ok
returns-clause-ok g c =
    let s = c.self.inside in
    let h = c.reserve-2.ensures in
    readied_seen s.ready s.ids c.reserve.new.self s.lists c.reserve-2.new.self c.self.invariant c.reserve.ensures.works c.reserve.ensures.room h.numbers h.distinct h.same h.kept
    c.in_ok-reserve-2.field-0 c.args.author.now c.in_ok-reserve-2.ensures.number c.in_ok-reserve.ensures.ok c.in_ok-reserve-2.ensures.room
    ∙ ap (λ (t : StacksState). record { deeds = t.deeds; ready = Some c.args.author.now }) c.self.view_is
