use Rattle.std.proofs.Common.{◌≡◌, ◌++◌, map, IfOk, sym, ap, subst, ◌∙◌, flat_map, option_to_list, append_assoc}
use Rattle.std.proofs.lemmas.Grind.{flat_map-append}
use Rattle.edit_footprint.specs.Prelude.{both_at, presence_written, presence_read, touch_set, begun_or_ceased, subjects, unglued_from}
use Rattle.edit_footprint.specs.Footprints.{owned, touches_of, reads_at}
use Rattle.edit_footprint.specs.Inner.Touching.{IsInOrder, all_begun_or_ceased, unchanged}
use Rattle.edit_footprint.proofs.Touched.{collected_is_touched}
use Rattle.edit_footprint.proofs.touching.footprint.Goals as goal

pub push_subjects-requires : goal.push_subjects-requires
push_subjects-requires g c = subst IsInOrder (sym c.rows-rows.ensures.rows) c.rows-rows.ensures.changes.rising

pub returns : goal.returns
returns g c =
    let a = c.args.action.now in
    let rows = c.rows-rows.result.now in
    let cs = c.args.changes.now in
    let read = flat_map reads_at (unchanged cs (subjects a)) in
    let stood = flat_map reads_at (flat_map both_at (option_to_list (unglued_from a cs))) in
    subst (λ touches. IfOk c.of.result (λ f. f ≡ touches)) (
    ap touch_set (c.in_ok-push_unglued_from.ensures ∙ ap (λ l. l ++ flat_map reads_at (flat_map both_at (option_to_list (unglued_from a rows))))
    (c.in_ok-push_subjects.ensures ∙ ap (λ l. l ++ flat_map reads_at (unchanged rows (subjects a)))
    (c.in_ok-push_all_begun_or_ceased.ensures ∙ ap (λ l. l ++ map presence_read (all_begun_or_ceased rows))
    (c.in_ok-push_changed.ensures ∙ ap (λ l. l ++ flat_map touches_of rows) c.in_ok-touches.ensures))))
    ∙ ap (λ l. touch_set (map presence_written (owned a) ++ flat_map touches_of l ++ map presence_read (all_begun_or_ceased l) ++ flat_map reads_at (unchanged l (subjects a))
    ++ flat_map reads_at (flat_map both_at (option_to_list (unglued_from a l))))) c.rows-rows.ensures.rows
    ∙ ap touch_set (append_assoc (map presence_written (owned a) ++ flat_map touches_of cs ++ map presence_read (all_begun_or_ceased cs)) read stood)
    ∙ collected_is_touched (map presence_written (owned a) ++ flat_map touches_of cs) (read ++ stood) cs
    ∙ ap (λ l. touch_set (map presence_written (owned a) ++ flat_map touches_of cs ++ map presence_read (flat_map begun_or_ceased cs) ++ l))
    (sym (flat_map-append reads_at (unchanged cs (subjects a)) (flat_map both_at (option_to_list (unglued_from a cs))))))
    c.of.ensures
