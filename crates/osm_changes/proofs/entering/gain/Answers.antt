use Rattle.std.proofs.Common.{◌≡◌, take, ◌∙◌, ap, subst, sym, fold}
use Rattle.osm_refs.specs.Rising.{names_but, IsRising}
use Rattle.osm_refs.specs.Tables.{Table, references_at}
use Rattle.osm_changes.proofs.ReferencesEntered.{next_is_new, next_rises, some_given}
use Rattle.osm_changes.specs.Inner.References.{given_back}
use Rattle.osm_changes.proofs.entering.gain.Goals as goal

pub gain-requires-clause-rising : goal.gain-requires-clause-rising
gain-requires-clause-rising g c =
    subst IsRising (sym c.as_slice.ensures) (next_rises c.args.users.now c.args.changes.now c.requires c.loop-at.at c.index-changes-at.result c.loop-at-test.true c.index-changes-at.is)

pub gain-requires-clause-new : goal.gain-requires-clause-new
gain-requires-clause-new g c =
    let change = c.index-changes-at.result in
    subst (λ names. names_but names (references_at c.loop-at.users change.name) ≡ names) (sym c.as_slice.ensures)
    (ap (λ (t : Table). names_but change.begun (references_at t change.name)) c.loop-at.invariant
    ∙ next_is_new c.args.users.now c.args.changes.now c.requires c.loop-at.at change c.loop-at-test.true c.index-changes-at.is)

pub returns-in-Err-clause-err : goal.returns-in-Err-clause-err
returns-in-Err-clause-err g c =
    let some = take c.loop-at.at c.args.changes.now in
    c.give_back.ensures ∙ ap (λ (t : Table). fold given_back t some) (c.in-Err.ensures.err ∙ c.loop-at.invariant) ∙ some_given c.args.users.now c.args.changes.now c.requires c.loop-at.at
