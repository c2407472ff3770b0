use Rattle.std.proofs.Common.{◌≤◌, ◌≡◌, ◌+◌, ◌++◌, ◌∷◌, [], length, sym, ap, subst, ◌∙◌, rules, List}
use Rattle.room_history.specs.Inner.Changers.{last_at}
use Rattle.room_history.specs.Prelude.{RoomState, with_entry, Change, then_some, AreFrom, changed_rows, is_sound, applied_to, Effect, kind_refusal, past, mapof, recorded_next}
use Rattle.osm_changes.specs.Changes.{changed}
use Rattle.edit_footprint.specs.Holding.{standing}
use Rattle.room_history.specs.Inner.Deeds.{deed_by}
use Rattle.room_history.specs.Inner.Origins.{origin_next}
use Rattle.room_history.specs.Inner.Rooms.{MayAppend, MayWork}
use Rattle.room_history.specs.Inner.Telling.{is_group}
use Rattle.room_history.proofs.KeptEffects.{worked_effect}
use Rattle.room_history.proofs.KeptChangers.{noted}
use Rattle.room_history.proofs.Stepping.{IsRoom-same_changers, IsRoom-work, stands_next, unspent_deed, above_deeds, work_rises, work_noted, on_err, on_ok}
use Rattle.room_history.proofs.room.Room.append_work.Goals as goal

pub stand-requires-clause-next : goal.stand-requires-clause-next
stand-requires-clause-next g c =
    let room = c.self.inside in
    let count : c.len.result ≡ length room.entries.items = search rules in
    stands_next room.store room.recorded.items room.origins.items room.holders room.changers.rows room.stacks.deeds room.base.value room.limit room.entries.items c.self.invariant c.len.result count

pub stand-requires-clause-rising : goal.stand-requires-clause-rising
stand-requires-clause-rising g c =
    let room = c.self.inside in
    let may = subst (λ s. MayAppend s.limit s.journal c.args.author c.args.id) (sym c.self.view_is) c.requires.may in
    let work = subst (λ s. MayWork s.journal c.args.author c.args.kind) (sym c.self.view_is) c.requires.work in
    let ok = ap (λ s. kind_refusal (past s.base s.journal) s.journal c.args.author c.args.kind) c.self.view_is ∙ c.requires.accepted in
    work_rises room.store room.recorded.items room.origins.items room.holders room.changers.rows room.stacks.deeds room.base.value room.limit room.entries.items c.self.invariant c.args.author c.args.id may c.args.kind work ok
    c.args.footprint (c.requires.footprint ∙ sym (ap (λ s. (recorded_next (past s.base s.journal) c.args.kind).footprint) c.self.view_is))

pub stand-requires-clause-from : goal.stand-requires-clause-from
stand-requires-clause-from g c =
    let room = c.self.inside in
    let here = sym (ap (λ s. mapof s.base s.journal) c.self.view_is) ∙ sym c.self.invariant.rows_are in
    subst (λ (k : Effect _). AreFrom room.store.rows k.changes) (sym c.in_ok-effect.ensures.effect) (subst (λ m. AreFrom m c.args.changes) here c.requires.from)

pub stand-requires-clause-sound : goal.stand-requires-clause-sound
stand-requires-clause-sound g c =
    let room = c.self.inside in
    ap (λ (k : Effect _). is_sound (changed room.store.rows k.changes)) c.in_ok-effect.ensures.effect ∙ ap (λ m. is_sound (changed m c.args.changes)) c.self.invariant.rows_are
    ∙ ap (λ s. is_sound (changed (mapof s.base s.journal) c.args.changes)) c.self.view_is ∙ c.requires.sound

pub returns-in_err-effect-clause-err : goal.returns-in_err-effect-clause-err
returns-in_err-effect-clause-err g c =
    on_err c.from_residual-in_err-effect.result _ (ap (λ es. record { base = c.self.inside.base.value; limit = c.self.inside.limit; journal = es }) c.reserve.ensures.entries ∙ c.self.view_is)

pub returns-in_err-stand-clause-ok : goal.returns-in_err-stand-clause-ok
returns-in_err-stand-clause-ok g c = on_ok c.from_residual-in_err-stand.result _ c.from_residual-in_err-stand.ensures.0

pub returns-in_err-stand-clause-err : goal.returns-in_err-stand-clause-err
returns-in_err-stand-clause-err g c =
    on_err c.from_residual-in_err-stand.result _ (ap (λ es. record { base = c.self.inside.base.value; limit = c.self.inside.limit; journal = es }) c.reserve.ensures.entries ∙ c.self.view_is)

pub note-requires-clause-unspent : goal.note-requires-clause-unspent
note-requires-clause-unspent g c =
    let room = c.self.inside in
    let may = subst (λ s. MayAppend s.limit s.journal c.args.author c.args.id) (sym c.self.view_is) c.requires.may in
    unspent_deed room.store room.recorded.items room.origins.items room.holders room.changers.rows room.stacks.deeds room.base.value room.limit room.entries.items c.self.invariant c.args.author c.args.id may c.reserve.new.stacks.deeds c.reserve.ensures.deeds

pub note-requires-clause-may : goal.note-requires-clause-may
note-requires-clause-may g c =
    let room = c.self.inside in
    let may = subst (λ s. MayAppend s.limit s.journal c.args.author c.args.id) (sym c.self.view_is) c.requires.may in
    let work = subst (λ s. MayWork s.journal c.args.author c.args.kind) (sym c.self.view_is) c.requires.work in
    work_noted room.store room.recorded.items room.origins.items room.holders room.changers.rows room.stacks.deeds room.base.value room.limit room.entries.items c.self.invariant c.args.author c.args.id may c.args.kind work c.reserve.new.stacks.deeds c.reserve.ensures.deeds

pub note-requires-clause-last : goal.note-requires-clause-last
note-requires-clause-last g c =
    let room = c.self.inside in
    let count : c.len.result ≡ length room.entries.items = search rules in
    let may = subst (λ s. MayAppend s.limit s.journal c.args.author c.args.id) (sym c.self.view_is) c.requires.may in
    above_deeds room.store room.recorded.items room.origins.items room.holders room.changers.rows room.stacks.deeds room.base.value room.limit room.entries.items c.self.invariant c.args.author c.args.id may c.reserve.new.stacks.deeds (c.len.result + 1) c.reserve.ensures.deeds (ap (λ n. n + 1) count)

pub invariant_of-self-2 : goal.invariant_of-self-2
invariant_of-self-2 g c =
    let room = c.self.inside in
    let count : c.len.result ≡ length room.entries.items = c.len.ensures ∙ c.reserve.new.entries.ok.0 ∙ ap length c.reserve.ensures.entries in
    let may = subst (λ s. MayAppend s.limit s.journal c.args.author c.args.id) (sym c.self.view_is) c.requires.may in
    let work = subst (λ s. MayWork s.journal c.args.author c.args.kind) (sym c.self.view_is) c.requires.work in
    let ok = ap (λ s. kind_refusal (past s.base s.journal) s.journal c.args.author c.args.kind) c.self.view_is ∙ c.requires.accepted in
    IsRoom-work room.store room.recorded.items room.origins.items room.holders room.changers.rows room.stacks.deeds room.base.value room.limit room.entries.items c.self.invariant c.args.author c.args.id may c.args.kind work ok
    c.enter.new.entries.items c.stand.new.store c.enter.new.recorded.items c.enter.new.origins.items c.stand.new.holders c.changed.new.self.rows c.note.new.stacks.deeds c.args.changes c.args.footprint c.of.result
    (c.requires.changes ∙ sym (ap (λ s. (recorded_next (past s.base s.journal) c.args.kind).changes) c.self.view_is))
    (c.requires.footprint ∙ sym (ap (λ s. (recorded_next (past s.base s.journal) c.args.kind).footprint) c.self.view_is))
    (c.in_ok-stand.ensures.ok.0 ∙ ap (λ (k : Effect _). applied_to room.store k.changes) c.in_ok-effect.ensures.effect)
    (worked_effect room.store.rows c.args.changes c.in_ok-effect.effect c.of.result c.then_some.result c.in_ok-effect.ensures.effect c.of.ensures
    (recorded_next (past room.base.value room.entries.items) c.args.kind) c.args.footprint
    (c.requires.changes ∙ sym (ap (λ s. (recorded_next (past s.base s.journal) c.args.kind).changes) c.self.view_is))
    (c.requires.footprint ∙ sym (ap (λ s. (recorded_next (past s.base s.journal) c.args.kind).footprint) c.self.view_is))
    (c.then_some.ensures ∙ ap (λ b. then_some b c.args.footprint) (c.does_group-is_group.ensures ∙ sym (ap (λ s. is_group (recorded_next (past s.base s.journal) c.args.kind).action) c.self.view_is))))
    (c.enter.ensures.recorded ∙ ap (λ ks. ks ++ c.of.result ∷ []) c.reserve.ensures.recorded)
    (c.enter.ensures.origins ∙ (λ i. c.reserve.ensures.origins i ++ (c.origin_next-origin.ensures ∙ ap (λ os. origin_next os c.args.kind) (c.deref.ensures.value ∙ c.reserve.ensures.origins)) i ∷ []))
    (c.in_ok-stand.ensures.ok.1 ∙ ap (λ n. standing room.holders c.args.footprint (n + 1)) count)
    (noted room.entries.items c.args.author (c.len.result + 1) room.changers.rows c.ready.new.self.rows c.changed.new.self.rows c.deref-2.result.now c.rows-2.result.now c.args.changes (c.deref-2.ensures.value ∙ c.reserve.ensures.entries) (ap (λ n. n + 1) count) (λ t. ap (λ rows. last_at rows t) c.ready.ensures.rows) (c.rows-2.ensures.rows ∙ ap (λ (k : Effect _). k.changes) c.in_ok-effect.ensures.effect) c.changed.ensures)
    (c.note.ensures ∙ (λ i. c.reserve.ensures.deeds i ++ deed_by (count i + 1) c.args.author c.args.id c.args.kind ∷ []))
    (c.enter.ensures.entries ∙ ap (λ es. es ++ record { author = c.args.author; id = c.args.id; kind = c.args.kind } ∷ []) c.reserve.ensures.entries)

pub returns-in_err-reserve-clause-err : goal.returns-in_err-reserve-clause-err
returns-in_err-reserve-clause-err g c =
    on_err c.from_residual.result _ (ap (λ es. record { base = c.self.inside.base.value; limit = c.self.inside.limit; journal = es }) c.reserve.ensures.entries ∙ c.self.view_is)

pub invariant_of-self-in_err-stand : goal.invariant_of-self-in_err-stand
invariant_of-self-in_err-stand g c =
    let room = c.self.inside in
    rw (c.in_err-stand.ensures.err.0, c.in_err-stand.ensures.err.1, c.reserve.ensures.recorded, c.reserve.ensures.origins, c.reserve.ensures.deeds, c.reserve.ensures.entries)
    (IsRoom-same_changers room.store room.recorded.items room.origins.items room.holders room.changers.rows room.stacks.deeds room.base.value room.limit room.entries.items c.self.invariant c.ready.new.self.rows (λ t. ap (λ rows. last_at rows t) c.ready.ensures.rows))

pub effect_of-requires : goal.effect_of-requires
effect_of-requires g c =
    subst (λ m. AreFrom m c.args.changes) (sym (ap (λ s. mapof s.base s.journal) c.self.view_is) ∙ sym c.self.invariant.rows_are) c.requires.from

pub stand-requires-clause-rows : goal.stand-requires-clause-rows
stand-requires-clause-rows g c =
    let e = c.in_ok-effect.ensures.effect in
    ap (λ (k : Effect _). k.rows) e ∙ ap (changed_rows c.self.inside.store.rows) (sym (ap (λ (k : Effect _). k.changes) e))

pub invariant_of-self-in_err-ready : goal.invariant_of-self-in_err-ready
invariant_of-self-in_err-ready g c =
    let room = c.self.inside in
    rw (c.reserve.ensures.recorded, c.reserve.ensures.origins, c.reserve.ensures.deeds, c.reserve.ensures.entries)
    (IsRoom-same_changers room.store room.recorded.items room.origins.items room.holders room.changers.rows room.stacks.deeds room.base.value room.limit room.entries.items c.self.invariant c.ready.new.self.rows (λ t. ap (λ rows. last_at rows t) c.ready.ensures.rows))

pub changed-requires : goal.changed-requires
changed-requires g c =
    let is = c.rows-2.ensures.rows ∙ sym c.rows.ensures.rows in
    subst (λ (cs : List (Change _)). length cs ≤ c.ready.new.self.room) (sym is) c.in_ok-ready.ensures.ready

pub enter-requires : goal.enter-requires
enter-requires g c = record { room = c.in_ok-reserve.ensures.room }

pub returns-in_err-ready-clause-err : goal.returns-in_err-ready-clause-err
returns-in_err-ready-clause-err g c =
    on_err c.from_residual-in_err-ready.result _ (ap (λ es. record { base = c.self.inside.base.value; limit = c.self.inside.limit; journal = es }) c.reserve.ensures.entries ∙ c.self.view_is)

pub returns-clause-ok : goal.returns-clause-ok
returns-clause-ok g c =
    let room = c.self.inside in
    let count : c.len.result ≡ length room.entries.items = c.len.ensures ∙ c.reserve.new.entries.ok.0 ∙ ap length c.reserve.ensures.entries in (
      ap (λ n. n + 1) count ∙ ap (λ (s : RoomState _). length s.journal + 1) c.self.view_is,
      ap (λ es. record { base = room.base.value; limit = room.limit; journal = es }) (c.enter.ensures.entries ∙ ap (λ es. es ++ record { author = c.args.author; id = c.args.id; kind = c.args.kind } ∷ []) c.reserve.ensures.entries)
          ∙ ap (λ (s : RoomState _). record { base = s.base; limit = s.limit; journal = with_entry s.journal c.args.author c.args.id c.args.kind }) c.self.view_is,
    )
