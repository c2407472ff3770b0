use Rattle.std.proofs.Common.{◌≡◌, Some, None, sym, ap, ◌∙◌, option_copied}
use Rattle.room_history.specs.Prelude.{action_at, past, recorded_next}
use Rattle.room_history.specs.Inner.Telling.{is_group}
use Rattle.room_history.proofs.Stepping.{action_told, again_does}
use Rattle.room_history.proofs.room.Room.does_group.Goals as goal

pub returns-in-Some : goal.returns-in-Some
returns-in-Some g c =
    let room = c.self.inside in
    let state = c.args.self.now in
    let p = past state.base state.journal in
    let found = action_told room.store room.recorded.items room.origins.items room.holders room.changers.rows room.stacks.deeds room.base.value room.limit room.entries.items c.self.invariant c.deref.result.now c.deref-in-Redo.result.now c.in-Redo.of (option_copied c.action_of.result) c.deref.ensures.value c.deref-in-Redo.ensures.value c.action_of.ensures in
    let acts : action_at p c.in-Redo.of ≡ Some c.in-Some.edit.now = sym (ap (λ s. action_at (past s.base s.journal) c.in-Redo.of) c.self.view_is) ∙ found ∙ ap option_copied c.in-Some.is in
    c.is_group-in-Some.ensures ∙ ap is_group (sym acts ∙ sym (again_does p.map (action_at p c.in-Redo.of))) ∙ ap (λ k. is_group (recorded_next p k).action) (sym c.in-Redo.is)

pub returns-in-None : goal.returns-in-None
returns-in-None g c =
    let room = c.self.inside in
    let state = c.args.self.now in
    let p = past state.base state.journal in
    let found = action_told room.store room.recorded.items room.origins.items room.holders room.changers.rows room.stacks.deeds room.base.value room.limit room.entries.items c.self.invariant c.deref.result.now c.deref-in-Redo.result.now c.in-Redo.of (option_copied c.action_of.result) c.deref.ensures.value c.deref-in-Redo.ensures.value c.action_of.ensures in
    let acts : action_at p c.in-Redo.of ≡ None = sym (ap (λ s. action_at (past s.base s.journal) c.in-Redo.of) c.self.view_is) ∙ found ∙ ap option_copied c.in-None.is in
    ap is_group (sym acts ∙ sym (again_does p.map (action_at p c.in-Redo.of))) ∙ ap (λ k. is_group (recorded_next p k).action) (sym c.in-Redo.is)
