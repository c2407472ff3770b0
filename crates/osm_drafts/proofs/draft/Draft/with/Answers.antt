use Rattle.std.proofs.Common.{◌≡◌, ◌++◌, not, ap, subst, sym, ◌∙◌, option_copied}
use Rattle.osm_drafts.specs.Prelude.{with_row, sound_in_order, drafted, among_inserted, begun_is_new, drafted_with, is_draft_with, users_changed, name_cmp_is, is_among, name_set, row_at, reference_change, IsRising-name_set, row_references, names_but, references_at, referring}
use Rattle.osm_refs.specs.Facts.RisingNames.{IsRising-filter}
use Rattle.osm_refs.specs.Rising.{IsRising}
use Rattle.osm_drafts.proofs.draft.Draft.with.Goals as goal

pub gain-requires-clause-rising : goal.gain-requires-clause-rising
gain-requires-clause-rising g c =
    let here = c.self.inside.here in
    let name = c.args.name in
    let after = name_set (row_references c.args.element) in
    let before = name_set (row_references (row_at here name)) in
    let change : c.in_ok-change.change ≡ reference_change name before after =
    c.in_ok-change.ensures ∙ ap (λ o. reference_change name (name_set (row_references o)) (name_set (row_references (option_copied c.as_ref.result)))) c.get.ensures
    ∙ ap (λ o. reference_change name before (name_set (row_references o))) c.as_ref.ensures.value in
    subst IsRising (sym (c.as_slice.ensures ∙ ap (λ k. k.begun) change)) (IsRising-filter (λ e. not (is_among before e)) after (IsRising-name_set (row_references c.args.element)))

pub gain-requires-clause-new : goal.gain-requires-clause-new
gain-requires-clause-new g c =
    let here = c.self.inside.here in
    let name = c.args.name in
    let after = name_set (row_references c.args.element) in
    let before = name_set (row_references (row_at here name)) in
    let change : c.in_ok-change.change ≡ reference_change name before after =
    c.in_ok-change.ensures ∙ ap (λ o. reference_change name (name_set (row_references o)) (name_set (row_references (option_copied c.as_ref.result)))) c.get.ensures
    ∙ ap (λ o. reference_change name before (name_set (row_references o))) c.as_ref.ensures.value in
    let begun : c.as_slice.result.now ≡ names_but after before = c.as_slice.ensures ∙ ap (λ k. k.begun) change in
    subst (λ names. names_but names (references_at c.self.inside.users name) ≡ names) (sym begun) (begun_is_new here name c.args.element c.self.invariant.order c.self.inside.users c.self.invariant.users_are)

pub invariant_of-result : goal.invariant_of-result
invariant_of-result g c =
    let here = c.self.inside.here in
    let name = c.args.name in
    let after = name_set (row_references c.args.element) in
    let before = name_set (row_references (row_at here name)) in
    let change : c.in_ok-change.change ≡ reference_change name before after =
    c.in_ok-change.ensures ∙ ap (λ o. reference_change name (name_set (row_references o)) (name_set (row_references (option_copied c.as_ref.result)))) c.get.ensures
    ∙ ap (λ o. reference_change name before (name_set (row_references o))) c.as_ref.ensures.value in
    let gains = c.in_ok-gain.ensures.ok ∙ ap (λ names. referring c.self.inside.users name (name_set (references_at c.self.inside.users name ++ names))) (c.as_slice.ensures ∙ ap (λ k. k.begun) change) in
    let loses = c.lose.ensures ∙ ap (λ names. referring c.gain.new.self name (names_but (references_at c.gain.new.self name) names)) (c.as_slice-2.ensures ∙ ap (λ k. k.ceased) change) in
    is_draft_with c.self.inside.written.keys c.insert.new.self.keys here name c.args.element c.self.inside.users c.lose.new.self c.put.new.rows c.self.invariant
    (λ q. ap (λ l. is_among l q) c.in_ok-insert.ensures.keys ∙ among_inserted _ name_cmp_is name c.self.inside.written.keys q)
    (users_changed here name c.args.element c.self.invariant.order c.self.inside.users c.gain.new.self c.lose.new.self c.self.invariant.users_are gains loses) c.in_ok-put.ensures.ok

pub returns : goal.returns
returns g c =
    ap (drafted c.self.inside.store.now.rows c.insert.new.self.keys) c.in_ok-put.ensures.ok
    ∙ drafted_with c.self.inside.store.now.rows c.self.inside.written.keys c.insert.new.self.keys c.self.inside.here c.args.name c.args.element
    (sound_in_order c.self.inside.store.now.rows c.map.ensures.sound) c.self.invariant.order c.self.invariant.inside
    (λ q. ap (λ l. is_among l q) c.in_ok-insert.ensures.keys ∙ among_inserted _ name_cmp_is c.args.name c.self.inside.written.keys q)
    ∙ ap (λ k. with_row k c.args.name c.args.element) c.self.view_is
