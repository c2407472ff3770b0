use Rattle.std.proofs.Common.{◌≡◌, refl, map, true, ◌∙◌, ap, sym, subst, fold}
use Rattle.osm_changes.specs.Prelude.{changed, changed_names, changed_rows, is_sound, table_of, sound_in_order}
use Rattle.osm_changes.specs.Inner.Applying.{after_of, rows_after, AreBefore}
use Rattle.osm_changes.specs.Inner.References.{lost, reference_change_of}
use Rattle.osm_changes.proofs.Applied.{names_rise, others_rise, others_not_new, map_became, users_became}
use Rattle.osm_changes.proofs.ChangedRows.{are_before, rows_made}
use Rattle.osm_changes.proofs.store.Store.apply_rows.Goals as goal

pub prepare-requires-clause-before : goal.prepare-requires-clause-before
prepare-requires-clause-before g c =
    let m = c.self.inside.map in
    let cs = c.args.changes.now in
    let made : c.as_slice.result.now ≡ changed_rows m cs = c.as_slice.ensures ∙ c.requires.rows ∙ ap (λ k. changed_rows k cs) (sym (ap (λ s. s.rows) c.self.view_is)) in
    subst (AreBefore m) (sym made) (are_before m (changed m cs) (changed_names cs))

pub prepare-requires-clause-rising : goal.prepare-requires-clause-rising
prepare-requires-clause-rising g c =
    let m = c.self.inside.map in
    let cs = c.args.changes.now in
    let rows = c.as_slice.result.now in
    let made : rows ≡ changed_rows m cs = c.as_slice.ensures ∙ c.requires.rows ∙ ap (λ k. changed_rows k cs) (sym (ap (λ s. s.rows) c.self.view_is)) in
    let are : map after_of rows ≡ rows_after m cs = rows_made m cs rows made in
    names_rise m cs (map after_of rows) are

pub replace-requires-clause-rising : goal.replace-requires-clause-rising
replace-requires-clause-rising g c =
    let m = c.self.inside.map in
    let cs = c.args.changes.now in
    let rows = c.as_slice.result.now in
    let made : rows ≡ changed_rows m cs = c.as_slice.ensures ∙ c.requires.rows ∙ ap (λ k. changed_rows k cs) (sym (ap (λ s. s.rows) c.self.view_is)) in
    let are : map after_of rows ≡ rows_after m cs = rows_made m cs rows made in
    others_rise m cs (map after_of rows) are c.in_ok-prepared.prepared.others.items c.in_ok-prepared.ensures.ok.0

pub replace-requires-clause-there : goal.replace-requires-clause-there
replace-requires-clause-there g c =
    let m = c.self.inside.map in
    let cs = c.args.changes.now in
    let rows = c.as_slice.result.now in
    let made : rows ≡ changed_rows m cs = c.as_slice.ensures ∙ c.requires.rows ∙ ap (λ k. changed_rows k cs) (sym (ap (λ s. s.rows) c.self.view_is)) in
    let are : map after_of rows ≡ rows_after m cs = rows_made m cs rows made in
    others_not_new m cs (map after_of rows) are c.in_ok-prepared.prepared.others.items c.in_ok-prepared.ensures.ok.0
    (sound_in_order m c.self.invariant.sound) c.prepare.new.rows c.in_ok-prepared.ensures.ok.2

pub invariant_of-self-2 : goal.invariant_of-self-2
invariant_of-self-2 g c =
    let m = c.self.inside.map in
    let cs = c.args.changes.now in
    let rows = c.as_slice.result.now in
    let made : rows ≡ changed_rows m cs = c.as_slice.ensures ∙ c.requires.rows ∙ ap (λ k. changed_rows k cs) (sym (ap (λ s. s.rows) c.self.view_is)) in
    let are : map after_of rows ≡ rows_after m cs = rows_made m cs rows made in
    let order = sound_in_order m c.self.invariant.sound in
    let map_is = map_became m cs (map after_of rows) are c.in_ok-prepared.prepared.others.items c.in_ok-prepared.ensures.ok.0 order c.prepare.new.rows c.in_ok-prepared.ensures.ok.2 c.replace.new.rows c.replace.ensures in
    let others : c.in_ok-prepared.prepared.changes.items ≡ map (reference_change_of m) (map after_of rows) = c.in_ok-prepared.ensures.ok.1 in
    let loses = c.lose.ensures ∙ ap (fold lost c.prepare.new.users) (c.deref.ensures.value ∙ others) in
    let users_are = users_became m cs (map after_of rows) are order c.prepare.new.users c.lose.new.users c.in_ok-prepared.ensures.ok.3 loses in
    let sound : is_sound (changed m cs) ≡ true = ap (λ k. is_sound (changed k cs)) (ap (λ s. s.rows) c.self.view_is) ∙ c.requires.sound in
    record { sound = ap is_sound map_is ∙ sound; users_are = users_are ∙ ap table_of (sym map_is) }

pub returns-clause-ok : goal.returns-clause-ok
returns-clause-ok g c =
    let m = c.self.inside.map in
    let cs = c.args.changes.now in
    let rows = c.as_slice.result.now in
    let made : rows ≡ changed_rows m cs = c.as_slice.ensures ∙ c.requires.rows ∙ ap (λ k. changed_rows k cs) (sym (ap (λ s. s.rows) c.self.view_is)) in
    let are : map after_of rows ≡ rows_after m cs = rows_made m cs rows made in
    let order = sound_in_order m c.self.invariant.sound in
    let map_is = map_became m cs (map after_of rows) are c.in_ok-prepared.prepared.others.items c.in_ok-prepared.ensures.ok.0 order c.prepare.new.rows c.in_ok-prepared.ensures.ok.2 c.replace.new.rows c.replace.ensures in
    rw (map_is, c.saturating_add-self-inside.ensures, c.len.ensures, ← c.self.view_is) refl
