use Rattle.std.proofs.Common.{T, sym, ap, subst, ◌∙◌, fold}
use Rattle.room_mirror.specs.Prelude.{are_rising, mirrored, told_names}
use Rattle.room_mirror.specs.Inner.Replacing.{absent_names, AreAbsent, ArePresent, with_empty}
use Rattle.room_mirror.proofs.ReplacedRows.{room_is_filled}
use Rattle.room_mirror.proofs.Rooming.{absent_are, all_present}
use Rattle.room_mirror.proofs.replacing.replace.Goals as goal

pub reserve-requires-clause-order : goal.reserve-requires-clause-order
reserve-requires-clause-order g c = c.keeps_order.ensures

pub reserve-requires-clause-absent : goal.reserve-requires-clause-absent
reserve-requires-clause-absent g c =
    let m = c.args.rows.now in
    let names = c.deref.ensures.value ∙ c.in_ok-absent.ensures ∙ ap (λ rs. absent_names m (told_names rs)) c.as_slice.ensures in
    subst (AreAbsent m) (sym names) (absent_are m (told_names c.args.told.now))

pub replace_all-requires-clause-order : goal.replace_all-requires-clause-order
replace_all-requires-clause-order g c = c.keeps_order-2.ensures

pub replace_all-requires-clause-rising : goal.replace_all-requires-clause-rising
replace_all-requires-clause-rising g c = subst (λ rs. T (are_rising (told_names rs))) (sym (c.into_vec.ensures ∙ c.in_ok-copies.ensures)) c.requires

pub replace_all-requires-clause-present : goal.replace_all-requires-clause-present
replace_all-requires-clause-present g c =
    let m = c.args.rows.now in
    let names = c.deref.ensures.value ∙ c.in_ok-absent.ensures ∙ ap (λ rs. absent_names m (told_names rs)) c.as_slice.ensures in
    let room = c.in_ok-reserve.ensures.ok ∙ ap (fold with_empty m) names in
    subst (λ n. ArePresent n (told_names c.into_vec.result.items)) (sym room)
    (subst (λ rs. ArePresent (fold with_empty m (absent_names m (told_names c.args.told.now))) (told_names rs)) (sym (c.into_vec.ensures ∙ c.in_ok-copies.ensures)) (all_present m (told_names c.args.told.now)))

pub returns-clause-ok : goal.returns-clause-ok
returns-clause-ok g c =
    let m = c.args.rows.now in
    let names = c.deref.ensures.value ∙ c.in_ok-absent.ensures ∙ ap (λ rs. absent_names m (told_names rs)) c.as_slice.ensures in
    let room = c.in_ok-reserve.ensures.ok ∙ ap (fold with_empty m) names in
    let copied = c.into_vec.ensures ∙ c.in_ok-copies.ensures in
    c.replace_all.ensures ∙ (λ k. mirrored (room k) (copied k)) ∙ room_is_filled m c.args.told.now c.keeps_order.ensures
