use Rattle.std.proofs.Common.{sym, ap, subst, ◌∙◌, inr, option_map}
use Rattle.room_history.specs.Prelude.{IsFirstAfter, asked, conflict, undos, past}
use Rattle.room_history.specs.Inner.Holders.{AreHolders}
use Rattle.room_history.specs.Inner.Undoing.{asked_or, standing_refusal, undone_or}
use Rattle.room_history.proofs.Choosing.{asked_answered, asked_refused, asked_stands, refused_on}
use Rattle.room_history.proofs.Deeds.{standing_deeds}
use Rattle.room_stacks.specs.Stacks as stacks
use Rattle.room_history.proofs.room.Room.undoable.Goals as goal

pub asked_for-requires : goal.asked_for-requires
asked_for-requires g c =
    c.standing-own.ensures.numbers ∙ ap (λ ds. stacks.standing ds c.args.author.now) c.self.invariant.deeds_are
    ∙ standing_deeds c.self.inside.entries.items c.args.author.now ∙ ap (λ j. undos j c.args.author.now) (sym c.deref.ensures.value)

pub returns-in_err-of-clause-refused : goal.returns-in_err-of-clause-refused
returns-in_err-of-clause-refused g c =
    let state = c.args.self.now in
    let entries = c.deref.ensures.value ∙ ap (λ s. s.journal) c.self.view_is in
    let chosen = sym c.in_err-of.was ∙ c.asked_for.ensures ∙ ap (λ j. asked_or (standing_refusal j c.args.author.now) (asked j c.args.author.now c.args.number)) entries in
    refused_on c.from_residual.result c.in_err-of.field-0.0 _ c.from_residual.ensures.0 c.from_residual.ensures.1
    (asked_refused state.journal c.args.author.now (past state.base state.journal) (asked state.journal c.args.author.now c.args.number) c.in_err-of.field-0.0 chosen)

pub worked_out-requires : goal.worked_out-requires
worked_out-requires g c =
    let state = c.args.self.now in
    let entries = c.deref.ensures.value ∙ ap (λ s. s.journal) c.self.view_is in
    let chosen = sym c.in_ok-of.was ∙ c.asked_for.ensures ∙ ap (λ j. asked_or (standing_refusal j c.args.author.now) (asked j c.args.author.now c.args.number)) entries in
    asked_stands state.journal c.args.author.now (asked state.journal c.args.author.now c.args.number) c.in_ok-of.of chosen

pub returns-in-Some-clause-refused : goal.returns-in-Some-clause-refused
returns-in-Some-clause-refused g c =
    let state = c.args.self.now in
    let entries = c.deref.ensures.value ∙ ap (λ s. s.journal) c.self.view_is in
    let chosen = sym c.in_ok-of.was ∙ c.asked_for.ensures ∙ ap (λ j. asked_or (standing_refusal j c.args.author.now) (asked j c.args.author.now c.args.number)) entries in
    let held = subst (λ s. AreHolders (past s.base s.journal) s.journal c.self.inside.holders) c.self.view_is c.self.invariant.holders_are in
    let first = subst (λ l. IsFirstAfter c.self.inside.holders l c.in_ok-of.of c.first_after.result) c.in-Ok.ensures.footprint c.first_after.ensures in
    inr (ap (λ b. undone_or c.in_ok-of.of (option_map conflict b)) (sym c.in-Some.is) ∙ asked_answered state.journal c.args.author.now (past state.base state.journal) c.self.inside.holders held (asked state.journal c.args.author.now c.args.number) c.in_ok-of.of c.first_after.result chosen first)

pub returns-in-None-clause-found : goal.returns-in-None-clause-found
returns-in-None-clause-found g c =
    let state = c.args.self.now in
    let entries = c.deref.ensures.value ∙ ap (λ s. s.journal) c.self.view_is in
    let chosen = sym c.in_ok-of.was ∙ c.asked_for.ensures ∙ ap (λ j. asked_or (standing_refusal j c.args.author.now) (asked j c.args.author.now c.args.number)) entries in
    let held = subst (λ s. AreHolders (past s.base s.journal) s.journal c.self.inside.holders) c.self.view_is c.self.invariant.holders_are in
    let first = subst (λ l. IsFirstAfter c.self.inside.holders l c.in_ok-of.of c.first_after.result) c.in-Ok.ensures.footprint c.first_after.ensures in
    ap (λ b. undone_or c.in_ok-of.of (option_map conflict b)) (sym c.in-None.is) ∙ asked_answered state.journal c.args.author.now (past state.base state.journal) c.self.inside.holders held (asked state.journal c.args.author.now c.args.number) c.in_ok-of.of c.first_after.result chosen first
