use Rattle.std.proofs.Common.{OnOk, ◌≡◌, ◌++◌, ◌∙◌, ap, subst, sym}
use Rattle.osm_changes.specs.Prelude.{name_set, IsRising-name_set, references, names_but, references_at, referring}
use Rattle.osm_refs.specs.Rising.{IsRising}
use Rattle.osm_changes.proofs.RowsNoted.{all_are_new, set_of_set}
use Rattle.osm_changes.proofs.entering.enter_row.Goals as goal

pub gain-requires-clause-rising : goal.gain-requires-clause-rising
gain-requires-clause-rising g c = subst IsRising (sym (c.as_slice.ensures ∙ c.in_ok-names.ensures.set)) (IsRising-name_set (references c.args.element.now))

pub gain-requires-clause-new : goal.gain-requires-clause-new
gain-requires-clause-new g c = ap (names_but c.as_slice.result.now) c.requires ∙ all_are_new c.as_slice.result.now

pub returns : goal.returns
returns g c =
    let names : c.as_slice.result.now ≡ name_set (references c.args.element.now) = c.as_slice.ensures ∙ c.in_ok-names.ensures.set in
    let all : name_set (references_at c.args.users.now c.args.name.now ++ c.as_slice.result.now) ≡ name_set (references c.args.element.now) =
    ap (λ before. name_set (before ++ c.as_slice.result.now)) c.requires ∙ ap name_set names ∙ set_of_set (references c.args.element.now) in
    subst (λ set. OnOk c.gain.result (c.gain.new.self ≡ referring c.args.users.now c.args.name.now set)) all c.gain.ensures.ok
