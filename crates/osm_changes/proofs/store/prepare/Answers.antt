use Rattle.std.proofs.Common.{◌≡◌, map, not, ◌∙◌, ap, subst, sym, fold}
use Rattle.osm_refs.specs.Tables.{Table, table_of}
use Rattle.osm_changes.proofs.Applying.{are_new}
use Rattle.osm_changes.proofs.ChangedRows.{kept_alike, references_alike}
use Rattle.osm_changes.proofs.ReferencesEntered.{given}
use Rattle.osm_changes.specs.Inner.Applying.{after_of, with_entered, AreNew}
use Rattle.osm_changes.specs.Inner.References.{gained, given_back, reference_change_of}
use Rattle.osm_changes.proofs.store.prepare.Goals as goal

pub gain-requires : goal.gain-requires
gain-requires g c =
    let m = c.args.rows.now in
    let entered = c.args.entered.now in
    (m, map after_of entered, c.requires.order, c.requires.rising, c.requires.users, c.deref.ensures.value ∙ c.in_ok-new.ensures.changes ∙ references_alike m entered c.requires.before)

pub put_new-requires-clause-new : goal.put_new-requires-clause-new
put_new-requires-clause-new g c =
    let m = c.args.rows.now in
    let entered = c.args.entered.now in
    subst (AreNew m) (sym (c.in_ok-new.ensures.new ∙ kept_alike m (λ b. b) entered c.requires.before)) (are_new m (map after_of entered))

pub returns-in-Err-clause-err : goal.returns-in-Err-clause-err
returns-in-Err-clause-err g c =
    let m = c.args.rows.now in
    let entered = map after_of c.args.entered.now in
    let all = map (reference_change_of m) entered in
    let changes : c.in_ok-new.field-0.changes.items ≡ all = c.in_ok-new.ensures.changes ∙ references_alike m c.args.entered.now c.requires.before in
    let enters : c.gain.new.users ≡ fold gained (table_of m) all =
    c.in_ok-gain.ensures.ok ∙ ap (λ (t : Table). fold gained t c.deref.result.now) c.requires.users ∙ ap (fold gained (table_of m)) (c.deref.ensures.value ∙ changes) in
    let back : c.give_back.new.users ≡ c.args.users.now =
    c.give_back.ensures ∙ ap (λ (t : Table). fold given_back t c.deref-in-Err.result.now) enters ∙ ap (fold given_back (fold gained (table_of m) all)) (c.deref-in-Err.ensures.value ∙ changes)
    ∙ given m c.requires.order entered c.requires.rising ∙ sym c.requires.users in
    (c.in-Err.ensures.err, back)

pub returns-clause-ok : goal.returns-clause-ok
returns-clause-ok g c =
    let m = c.args.rows.now in
    let entered = c.args.entered.now in
    let changes : c.in_ok-new.field-0.changes.items ≡ map (reference_change_of m) (map after_of entered) = c.in_ok-new.ensures.changes ∙ references_alike m entered c.requires.before in (
      c.in_ok-new.ensures.others ∙ kept_alike m not entered c.requires.before,
      changes,
      c.in_default.ensures.ok ∙ ap (fold with_entered m) (c.in_ok-new.ensures.new ∙ kept_alike m (λ b. b) entered c.requires.before),
      c.in_ok-gain.ensures.ok ∙ ap (λ (t : Table). fold gained t c.deref.result.now) c.requires.users ∙ ap (fold gained (table_of m)) (c.deref.ensures.value ∙ changes),
    )
