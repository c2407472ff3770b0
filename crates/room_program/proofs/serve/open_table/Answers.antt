-- The first fault is reported: of the names, of the line with the base, or of the base's map.
use Rattle.std.proofs.Common.{◌^◌, length, map, refl, ℕ, List, ◌∙◌, ap, arith, subst}
use Rattle.std.proofs.lemmas.List.{length-map}
use Rattle.room_program.specs.Prelude.{Bor, Replay, opening_fault, table_fault, CanBeServed, IsUnopened, AreFine, IsNameFault}
use Rattle.room_program.proofs.ReplayLemmas.{unread_no_base}
use Rattle.room_program.proofs.ServingLemmas.{base_unopened, names_unopened}
use Rattle.room_program.proofs.StreamLemmas.{passed_on}
use Rattle.room_program.proofs.serve.open_table.Goals as goal

pub returns-in_err-names-clause-err : goal.returns-in_err-names-clause-err
returns-in_err-names-clause-err g c =
    let texts = map (λ (room : Bor (List ℕ)). room.now) in
    let items = c.args.asked.now.rooms.items in
    let input = c.args.input.now in
    let fault = c.in_err-names.field-0.0 in
    let few = c.if-len-gt-MOST_ROOMS.false in
    let many = c.len.ensures in
    let long = c.args.asked.now.rooms.ok.0 in
    let mapped = length-map items (λ (room : Bor (List ℕ)). room.now) in
    let named = subst (λ names. IsNameFault (texts names) fault) c.deref.ensures.value c.in_err-names.ensures.err in
    passed_on (IsUnopened g.S.Source c.args.asked.now.base (texts items) input input) c.from_residual.result (table_fault fault) c.from_residual.ensures.1
    (names_unopened g.S.Source (texts items) input input c.args.asked.now.base fault (omega (arith, few, many, long, mapped)) refl named)

pub returns-in_err-rows-clause-err : goal.returns-in_err-rows-clause-err
returns-in_err-rows-clause-err g c =
    let texts = map (λ (room : Bor (List ℕ)). room.now) in
    let items = c.args.asked.now.rooms.items in
    let input = c.args.input.now in
    let read = c.base_rows.new.input in
    let fault = c.in_err-rows.field-0.0 in
    let few = c.if-len-gt-MOST_ROOMS.false in
    let many = c.len.ensures in
    let long = c.args.asked.now.rooms.ok.0 in
    let mapped = length-map items (λ (room : Bor (List ℕ)). room.now) in
    let fine = subst (λ names. AreFine (texts names) (length (texts names))) c.deref.ensures.value c.in_ok-names.ensures.fine in
    let can : CanBeServed (texts items) = (omega (arith, few, many, long, mapped), fine) in
    let why = c.in_err-rows.ensures.err in
    passed_on (IsUnopened g.S.Source c.args.asked.now.base (texts items) input read) c.from_residual-in_err-rows.result (Replay fault) c.from_residual-in_err-rows.ensures.1
    (can, why.0, unread_no_base g.S.Source (2 ^ 40) input read fault why.1)

pub returns-in_err-opened-clause-err : goal.returns-in_err-opened-clause-err
returns-in_err-opened-clause-err g c =
    let texts = map (λ (room : Bor (List ℕ)). room.now) in
    let items = c.args.asked.now.rooms.items in
    let input = c.args.input.now in
    let read = c.base_rows.new.input in
    let fault = c.in_err-opened.field-0.0 in
    let few = c.if-len-gt-MOST_ROOMS.false in
    let many = c.len.ensures in
    let long = c.args.asked.now.rooms.ok.0 in
    let mapped = length-map items (λ (room : Bor (List ℕ)). room.now) in
    let fine = subst (λ names. AreFine (texts names) (length (texts names))) c.deref.ensures.value c.in_ok-names.ensures.fine in
    let can : CanBeServed (texts items) = (omega (arith, few, many, long, mapped), fine) in
    passed_on (IsUnopened g.S.Source c.args.asked.now.base (texts items) input read) c.from_residual-in_err-opened.result (opening_fault fault) c.from_residual-in_err-opened.ensures.1
    (base_unopened g.S.Source (texts items) input read c.args.asked.now.base c.in_ok-rows.rows fault can c.in_ok-rows.ensures.works c.in_ok-rows.ensures.ok c.in_err-opened.ensures.err)

pub returns-clause-ok : goal.returns-clause-ok
returns-clause-ok g c =
    let texts = map (λ (room : Bor (List ℕ)). room.now) in
    let items = c.args.asked.now.rooms.items in
    let few = c.if-len-gt-MOST_ROOMS.false in
    let many = c.len.ensures in
    let long = c.args.asked.now.rooms.ok.0 in
    let mapped = length-map items (λ (room : Bor (List ℕ)). room.now) in
    let fine = subst (λ names. AreFine (texts names) (length (texts names))) c.deref.ensures.value c.in_ok-names.ensures.fine in
    let can : CanBeServed (texts items) = (omega (arith, few, many, long, mapped), fine) in
    (can, (c.in_ok-rows.rows, c.in_ok-rows.ensures.ok, rw (c.in_ok-names.ensures.ok ∙ ap texts c.deref.ensures.value) at c.in_ok-opened.ensures.ok))
