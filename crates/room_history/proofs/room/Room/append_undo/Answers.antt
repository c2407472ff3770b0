use Rattle.std.proofs.Common.{◌≤◌, ◌≡◌, ◌+◌, ◌++◌, ◌∷◌, [], None, refl, length, sym, ap, subst, ◌∙◌, rules, List}
use Rattle.room_history.specs.Inner.Changers.{last_at}
use Rattle.room_history.specs.Prelude.{RoomState, with_entry, Change, AreFrom, changed_rows, is_sound, applied_to, HoldsOnly, Undo, Effect, undo_refusal, recorded_footprint, past, recorded_next, numbered}
use Rattle.osm_changes.specs.Changes.{changed}
use Rattle.room_stacks.specs.declared.deed.Deed.TheVariants.{Undid}
use Rattle.room_history.specs.Inner.Rooms.{MayAppend}
use Rattle.room_history.proofs.KeptEffects.{undone_effect}
use Rattle.room_history.proofs.KeptChangers.{noted}
use Rattle.room_history.proofs.Stepping.{IsRoom-same_changers, IsRoom-undo, holds_just, unspent_deed, above_deeds, stands_there, undo_from, undo_sound, on_err}
use Rattle.room_history.proofs.room.Room.append_undo.Goals as goal

pub effect_of-requires : goal.effect_of-requires
effect_of-requires g c =
    let room = c.self.inside in
    let may = subst (λ s. MayAppend s.limit s.journal c.args.author c.args.id) (sym c.self.view_is) c.requires.may in
    let ok = ap (λ s. undo_refusal (past s.base s.journal) s.journal c.args.author c.args.undoable.of) c.self.view_is ∙ c.requires.accepted in
    let next = c.inverse.ensures ∙ c.requires.changes ∙ sym (ap (λ s. (recorded_next (past s.base s.journal) (Undo c.args.undoable.of)).changes) c.self.view_is) in
    subst (λ cs. AreFrom room.store.rows cs) (sym next) (undo_from room.store room.recorded.items room.origins.items room.holders room.changers.rows room.stacks.deeds room.base.value room.limit room.entries.items c.self.invariant c.args.author c.args.id may c.args.undoable.of ok c.leads_back.ensures.differ c.leads_back.ensures.from c.leads_back.ensures.back)

pub apply_rows-requires-clause-from : goal.apply_rows-requires-clause-from
apply_rows-requires-clause-from g c =
    let room = c.self.inside in
    let may = subst (λ s. MayAppend s.limit s.journal c.args.author c.args.id) (sym c.self.view_is) c.requires.may in
    let ok = ap (λ s. undo_refusal (past s.base s.journal) s.journal c.args.author c.args.undoable.of) c.self.view_is ∙ c.requires.accepted in
    let next = c.inverse.ensures ∙ c.requires.changes ∙ sym (ap (λ s. (recorded_next (past s.base s.journal) (Undo c.args.undoable.of)).changes) c.self.view_is) in
    subst (λ (e : Effect _). AreFrom room.store.rows e.changes) (sym c.in_ok-effect.ensures.effect) (subst (λ cs. AreFrom room.store.rows cs) (sym next) (undo_from room.store room.recorded.items room.origins.items room.holders room.changers.rows room.stacks.deeds room.base.value room.limit room.entries.items c.self.invariant c.args.author c.args.id may c.args.undoable.of ok c.leads_back.ensures.differ c.leads_back.ensures.from c.leads_back.ensures.back))

pub apply_rows-requires-clause-sound : goal.apply_rows-requires-clause-sound
apply_rows-requires-clause-sound g c =
    let room = c.self.inside in
    let may = subst (λ s. MayAppend s.limit s.journal c.args.author c.args.id) (sym c.self.view_is) c.requires.may in
    let ok = ap (λ s. undo_refusal (past s.base s.journal) s.journal c.args.author c.args.undoable.of) c.self.view_is ∙ c.requires.accepted in
    let next = c.inverse.ensures ∙ c.requires.changes ∙ sym (ap (λ s. (recorded_next (past s.base s.journal) (Undo c.args.undoable.of)).changes) c.self.view_is) in
    ap (λ (e : Effect _). is_sound (changed room.store.rows e.changes)) c.in_ok-effect.ensures.effect ∙ ap (λ cs. is_sound (changed room.store.rows cs)) next ∙ undo_sound room.store room.recorded.items room.origins.items room.holders room.changers.rows room.stacks.deeds room.base.value room.limit room.entries.items c.self.invariant c.args.author c.args.id may c.args.undoable.of ok

pub apply_rows-requires-clause-rows : goal.apply_rows-requires-clause-rows
apply_rows-requires-clause-rows g c =
    let is = c.in_ok-effect.ensures.effect in
    ap (λ (e : Effect _). e.rows) is ∙ ap (changed_rows c.self.inside.store.rows) (sym (ap (λ (e : Effect _). e.changes) is))

pub invariant_of-self-in_err-apply_rows : goal.invariant_of-self-in_err-apply_rows
invariant_of-self-in_err-apply_rows g c =
    let room = c.self.inside in
    rw (c.in_err-apply_rows.ensures.err, c.reserve.ensures.recorded, c.reserve.ensures.origins, c.reserve.ensures.deeds, c.reserve.ensures.entries)
    (IsRoom-same_changers room.store room.recorded.items room.origins.items room.holders room.changers.rows room.stacks.deeds room.base.value room.limit room.entries.items c.self.invariant c.ready.new.self.rows (λ t. ap (λ rows. last_at rows t) c.ready.ensures.rows))

pub returns-in_err-apply_rows-clause-err : goal.returns-in_err-apply_rows-clause-err
returns-in_err-apply_rows-clause-err g c =
    on_err c.from_residual-in_err-apply_rows.result _ (ap (λ es. record { base = c.self.inside.base.value; limit = c.self.inside.limit; journal = es }) c.reserve.ensures.entries ∙ c.self.view_is)

pub fall-requires : goal.fall-requires
fall-requires g c =
    let room = c.self.inside in
    let may = subst (λ s. MayAppend s.limit s.journal c.args.author c.args.id) (sym c.self.view_is) c.requires.may in
    let ok = ap (λ s. undo_refusal (past s.base s.journal) s.journal c.args.author c.args.undoable.of) c.self.view_is ∙ c.requires.accepted in
    let touched = c.requires.footprint ∙ sym (ap (λ s. recorded_footprint (past s.base s.journal) c.args.undoable.of) c.self.view_is) in
    subst (λ l. HoldsOnly room.holders l c.args.undoable.of) (sym touched) (holds_just room.store room.recorded.items room.origins.items room.holders room.changers.rows room.stacks.deeds room.base.value room.limit room.entries.items c.self.invariant c.args.author c.args.id may c.args.undoable.of ok)

pub note-requires-clause-unspent : goal.note-requires-clause-unspent
note-requires-clause-unspent g c =
    let room = c.self.inside in
    let may = subst (λ s. MayAppend s.limit s.journal c.args.author c.args.id) (sym c.self.view_is) c.requires.may in
    unspent_deed room.store room.recorded.items room.origins.items room.holders room.changers.rows room.stacks.deeds room.base.value room.limit room.entries.items c.self.invariant c.args.author c.args.id may c.reserve.new.stacks.deeds c.reserve.ensures.deeds

pub note-requires-clause-may : goal.note-requires-clause-may
note-requires-clause-may g c =
    let room = c.self.inside in
    let may = subst (λ s. MayAppend s.limit s.journal c.args.author c.args.id) (sym c.self.view_is) c.requires.may in
    let ok = ap (λ s. undo_refusal (past s.base s.journal) s.journal c.args.author c.args.undoable.of) c.self.view_is ∙ c.requires.accepted in
    stands_there room.store room.recorded.items room.origins.items room.holders room.changers.rows room.stacks.deeds room.base.value room.limit room.entries.items c.self.invariant c.args.author c.args.id may c.args.undoable.of ok c.reserve.new.stacks.deeds c.reserve.ensures.deeds

pub note-requires-clause-last : goal.note-requires-clause-last
note-requires-clause-last g c =
    let room = c.self.inside in
    let may = subst (λ s. MayAppend s.limit s.journal c.args.author c.args.id) (sym c.self.view_is) c.requires.may in
    let count : c.len.result ≡ length room.entries.items = search rules in
    above_deeds room.store room.recorded.items room.origins.items room.holders room.changers.rows room.stacks.deeds room.base.value room.limit room.entries.items c.self.invariant c.args.author c.args.id may c.reserve.new.stacks.deeds (c.len.result + 1) c.reserve.ensures.deeds (ap (λ n. n + 1) count)

pub invariant_of-self-2 : goal.invariant_of-self-2
invariant_of-self-2 g c =
    let room = c.self.inside in
    let may = subst (λ s. MayAppend s.limit s.journal c.args.author c.args.id) (sym c.self.view_is) c.requires.may in
    let ok = ap (λ s. undo_refusal (past s.base s.journal) s.journal c.args.author c.args.undoable.of) c.self.view_is ∙ c.requires.accepted in
    let next = c.inverse.ensures ∙ c.requires.changes ∙ sym (ap (λ s. (recorded_next (past s.base s.journal) (Undo c.args.undoable.of)).changes) c.self.view_is) in
    let count : c.len.result ≡ length room.entries.items = c.len.ensures ∙ c.reserve.new.entries.ok.0 ∙ ap length c.reserve.ensures.entries in
    IsRoom-undo room.store room.recorded.items room.origins.items room.holders room.changers.rows room.stacks.deeds room.base.value room.limit room.entries.items c.self.invariant c.args.author c.args.id may c.args.undoable.of ok c.enter.new.entries.items c.apply_rows.new.self c.enter.new.recorded.items c.enter.new.origins.items c.fall.new.self c.changed.new.self.rows c.note.new.stacks.deeds c.inverse.result c.of.result
    next
    (c.in_ok-apply_rows.ensures.ok ∙ ap (λ (e : Effect _). applied_to room.store e.changes) c.in_ok-effect.ensures.effect)
    (undone_effect room.store.rows c.inverse.result c.in_ok-effect.effect c.of.result None c.in_ok-effect.ensures.effect c.of.ensures (numbered (past room.base.value room.entries.items).entries c.args.undoable.of) next refl)
    (c.enter.ensures.recorded ∙ ap (λ ks. ks ++ c.of.result ∷ []) c.reserve.ensures.recorded)
    (c.enter.ensures.origins ∙ ap (λ os. os ++ (c.len.result + 1) ∷ []) c.reserve.ensures.origins ∙ ap (λ n. room.origins.items ++ (n + 1) ∷ []) count)
    c.fall.ensures
    (noted room.entries.items c.args.author (c.len.result + 1) room.changers.rows c.ready.new.self.rows c.changed.new.self.rows c.deref.result.now c.rows-taken_back.result.now c.inverse.result (c.deref.ensures.value ∙ c.reserve.ensures.entries) (ap (λ n. n + 1) count) (λ t. ap (λ rows. last_at rows t) c.ready.ensures.rows) (c.rows-taken_back.ensures.rows ∙ ap (λ (k : Effect _). k.changes) c.in_ok-effect.ensures.effect) c.changed.ensures)
    (c.note.ensures ∙ (λ i. c.reserve.ensures.deeds i ++ Undid c.args.author c.args.id c.args.undoable.of (count i + 1) ∷ []))
    (c.enter.ensures.entries ∙ ap (λ es. es ++ record { author = c.args.author; id = c.args.id; kind = Undo c.args.undoable.of } ∷ []) c.reserve.ensures.entries)

pub invariant_of-self-in_err-ready : goal.invariant_of-self-in_err-ready
invariant_of-self-in_err-ready g c =
    let room = c.self.inside in
    rw (c.reserve.ensures.recorded, c.reserve.ensures.origins, c.reserve.ensures.deeds, c.reserve.ensures.entries)
    (IsRoom-same_changers room.store room.recorded.items room.origins.items room.holders room.changers.rows room.stacks.deeds room.base.value room.limit room.entries.items c.self.invariant c.ready.new.self.rows (λ t. ap (λ rows. last_at rows t) c.ready.ensures.rows))

pub changed-requires : goal.changed-requires
changed-requires g c =
    let is = c.rows-taken_back.ensures.rows ∙ sym c.rows.ensures.rows in
    subst (λ (cs : List (Change _)). length cs ≤ c.ready.new.self.room) (sym is) c.in_ok-ready.ensures.ready

pub enter-requires : goal.enter-requires
enter-requires g c = record { room = c.in_ok-reserve.ensures.room }

pub returns-clause-ok : goal.returns-clause-ok
returns-clause-ok g c =
    let room = c.self.inside in
    let count : c.len.result ≡ length room.entries.items = c.len.ensures ∙ c.reserve.new.entries.ok.0 ∙ ap length c.reserve.ensures.entries in (
      ap (λ n. n + 1) count ∙ ap (λ (s : RoomState _). length s.journal + 1) c.self.view_is,
      ap (λ es. record { base = room.base.value; limit = room.limit; journal = es }) (c.enter.ensures.entries ∙ ap (λ es. es ++ record { author = c.args.author; id = c.args.id; kind = Undo c.args.undoable.of } ∷ []) c.reserve.ensures.entries)
          ∙ ap (λ (s : RoomState _). record { base = s.base; limit = s.limit; journal = with_entry s.journal c.args.author c.args.id (Undo c.args.undoable.of) }) c.self.view_is,
    )
