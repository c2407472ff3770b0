use Rattle.std.proofs.Common.{◌≡◌, ◌++◌, ◌∷◌, [], ℕ, List, Some, false, length, map, ◌∙◌, ap, arith, rules, subst, sym, slice_index_or}
use denote.Bor.{Bor}
use Rattle.std.proofs.lemmas.List.{length-map, take_all}
use Rattle.room_server.specs.Openings.{AreFine, IsNameFault}
use Rattle.room_server.specs.Inner.NewNames.{IsRefused, contains_name}
use Rattle.room_server.proofs.Opening.{err_same, fine_more, fine_none, first_fault, named, read_at, take_more}
use Rattle.room_server.proofs.names.RoomNames.read.Goals as goal

pub loop-position-init : goal.loop-position-init
loop-position-init c = record {
  fine = fine_none (map (λ text. text.now) c.args.texts.now);
  names = search rules;
}

-- the name at the position is refused
pub returns-in_err-name-clause-err : goal.returns-in_err-name-clause-err
returns-in_err-name-clause-err c =
    let i = c.loop-position.invariant in
    let texts = map (λ text. text.now) c.args.texts.now in
    let none : Bor (List ℕ) = record { ref_ptr = (0, 0); now = [] } in
    let text = (slice_index_or c.args.texts.now c.loop-position.position none).now in
    err_same (λ fault. IsNameFault texts fault) c.from_residual.result c.in_err-name.field-0.0 c.from_residual.ensures.1
    (first_fault texts c.loop-position.position text c.in_err-name.field-0.0 (read_at (λ text. text.now) c.args.texts.now c.loop-position.position none c.loop-position-test.true) i.fine
    (subst (λ names. IsRefused names text c.loop-position.position c.in_err-name.field-0.0) i.names c.in_err-name.ensures))

-- one more name was read
pub loop-position-preserved : goal.loop-position-preserved
loop-position-preserved c =
    let i = c.loop-position.invariant in
    let texts = map (λ text. text.now) c.args.texts.now in
    let none : Bor (List ℕ) = record { ref_ptr = (0, 0); now = [] } in
    let position = c.loop-position.position in
    let text = (slice_index_or c.args.texts.now position none).now in
    let at = read_at (λ text. text.now) c.args.texts.now position none c.loop-position-test.true in
    let is = c.in_ok-name.ensures.0 in
    let fresh = subst (λ names. contains_name names c.in_ok-name.name ≡ false) i.names c.in_ok-name.ensures.1 in
    let there = at ∙ ap Some (sym (named text c.in_ok-name.name is)) in
    record {
      fine = fine_more texts position text c.in_ok-name.name at is fresh i.fine;
      names = c.in_ok-add.ensures ∙ ap (λ names. names ++ c.in_ok-name.name ∷ []) i.names ∙ sym (take_more position texts c.in_ok-name.name there);
    }

pub returns-clause-ok : goal.returns-clause-ok
returns-clause-ok c =
    let i = c.loop-position.invariant in
    let past = c.loop-position-test.false in
    let within = c.loop-position.auto.position-end in
    let all = length-map c.args.texts.now (λ text. text.now) in
    let end : c.loop-position.position ≡ length (map (λ text. text.now) c.args.texts.now) = omega (arith, past, within, all) in
    i.names ∙ take_all c.loop-position.position (map (λ text. text.now) c.args.texts.now) (omega (arith, end))

pub returns-clause-fine : goal.returns-clause-fine
returns-clause-fine c =
    let i = c.loop-position.invariant in
    let past = c.loop-position-test.false in
    let within = c.loop-position.auto.position-end in
    let all = length-map c.args.texts.now (λ text. text.now) in
    let end : c.loop-position.position ≡ length (map (λ text. text.now) c.args.texts.now) = omega (arith, past, within, all) in
    subst (λ p. AreFine (map (λ text. text.now) c.args.texts.now) p) end i.fine
