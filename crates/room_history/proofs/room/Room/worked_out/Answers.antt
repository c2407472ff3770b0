use Rattle.std.proofs.Common.{◌≡◌, length, ap, ◌∙◌, arith, rules, option_copied, vec_len}
use Rattle.room_history.specs.Prelude.{Undo, recorded_footprint, is_standing, past, recorded_next}
use Rattle.room_history.proofs.Stepping.{is_first, is_kept, has_action, action_told, next_is, footprint_told, is_group_told, kept_changes}
use Rattle.room_history.proofs.room.Room.worked_out.Goals as goal

pub index-kept-requires : goal.index-kept-requires
index-kept-requires g c =
    let room = c.self.inside in
    let there = ap (λ s. is_standing s.journal c.args.of) c.self.view_is ∙ c.requires in
    let low = is_first room.store room.recorded.items room.origins.items room.holders room.changers.rows room.stacks.deeds room.base.value room.limit room.entries.items c.self.invariant c.args.of there in
    let high = is_kept room.store room.recorded.items room.origins.items room.holders room.changers.rows room.stacks.deeds room.base.value room.limit room.entries.items c.self.invariant c.args.of there in
    let count : vec_len room.recorded ≡ length room.recorded.items = search rules in
    omega (arith, low, high, count)

pub unreachable-requires : goal.unreachable-requires
unreachable-requires g c =
    let room = c.self.inside in
    let there = ap (λ s. is_standing s.journal c.args.of) c.self.view_is ∙ c.requires in
    let found = action_told room.store room.recorded.items room.origins.items room.holders room.changers.rows room.stacks.deeds room.base.value room.limit room.entries.items c.self.invariant c.deref.result.now c.deref-2.result.now c.args.of (option_copied c.action_of.result) c.deref.ensures.value c.deref-2.ensures.value c.action_of.ensures in
    has_action room.store room.recorded.items room.origins.items room.holders room.changers.rows room.stacks.deeds room.base.value room.limit room.entries.items c.self.invariant c.args.of there (found ∙ ap option_copied c.in-None.is)

pub returns-clause-changes : goal.returns-clause-changes
returns-clause-changes g c =
    let room = c.self.inside in
    let there = ap (λ s. is_standing s.journal c.args.of) c.self.view_is ∙ c.requires in
    let told = kept_changes room.recorded.items c.args.of c.index-kept.result.now c.in_ok-changes-in-Some.changes c.in_ok-changes-in-Some.ensures c.index-kept.ensures in
    next_is room.store room.recorded.items room.origins.items room.holders room.changers.rows room.stacks.deeds room.base.value room.limit room.entries.items c.self.invariant c.args.of there c.in_ok-changes-in-Some.changes told
    ∙ ap (λ s. (recorded_next (past s.base s.journal) (Undo c.args.of)).changes) c.self.view_is

pub returns-clause-footprint : goal.returns-clause-footprint
returns-clause-footprint g c =
    let room = c.self.inside in
    let there = ap (λ s. is_standing s.journal c.args.of) c.self.view_is ∙ c.requires in
    let found = action_told room.store room.recorded.items room.origins.items room.holders room.changers.rows room.stacks.deeds room.base.value room.limit room.entries.items c.self.invariant c.deref.result.now c.deref-2.result.now c.args.of (option_copied c.action_of.result) c.deref.ensures.value c.deref-2.ensures.value c.action_of.ensures in
    let told = kept_changes room.recorded.items c.args.of c.index-kept.result.now c.in_ok-changes-in-Some.changes c.in_ok-changes-in-Some.ensures c.index-kept.ensures in
    c.in_ok-footprint-in-Some.ensures
    ∙ footprint_told room.store room.recorded.items room.origins.items room.holders room.changers.rows room.stacks.deeds room.base.value room.limit room.entries.items c.self.invariant c.args.of there c.in-Some.edit.now (found ∙ ap option_copied c.in-Some.is) c.in_ok-changes-in-Some.changes told c.index-kept.result.now c.index-kept.ensures
    ∙ ap (λ s. recorded_footprint (past s.base s.journal) c.args.of) c.self.view_is

pub footprint_by-requires : goal.footprint_by-requires
footprint_by-requires g c =
    let room = c.self.inside in
    let there = ap (λ s. is_standing s.journal c.args.of) c.self.view_is ∙ c.requires in
    let found = action_told room.store room.recorded.items room.origins.items room.holders room.changers.rows room.stacks.deeds room.base.value room.limit room.entries.items c.self.invariant c.deref.result.now c.deref-2.result.now c.args.of (option_copied c.action_of.result) c.deref.ensures.value c.deref-2.ensures.value c.action_of.ensures in
    is_group_told room.store room.recorded.items room.origins.items room.holders room.changers.rows room.stacks.deeds room.base.value room.limit room.entries.items c.self.invariant c.args.of there c.in-Some.edit.now (found ∙ ap option_copied c.in-Some.is) c.index-kept.result.now c.index-kept.ensures
